-- A level opened for an order.
use Rattle.std.proofs.Common.{◌≡◌, ℕ, suc, ◌+◌, ◌-◌, ◌<◌, ◌≤◌, Bool, true, false, cond, not, List, [], ◌∷◌, ◌++◌, map, length, get_or, take, drop, set, sym, refl, ap, ◌∙◌, subst, arith}
use Rattle.std.specs.List.{insert as inserted_at, AllByRecursion}
use Rattle.std.proofs.ByRecursion.{All-from_get_or, All-map, All-weaker}
use Rattle.std.proofs.lemmas.List.{append-nil, get_or_default, get_or-drop, get_or-set_same, get_or-take, length-append, length-drop, length-map, length-take-le, map-append, take-append-drop}
use Rattle.std.proofs.lemmas.Bool.Decides.{nat_tests}
use Rattle.std.proofs.lemmas.Bool.{cond-true, lt-ltb, not-false, not_from_true}
use Rattle.ordered.specs.Order.{InOrder, inserted}
use Rattle.ordered.specs.Bounded.{has_room, items}
use Rattle.book.specs.Ranks.{transitive}
use Rattle.book.specs.Priority.{ahead}
use Rattle.book.specs.declared.resting.Resting.{Resting}
use Rattle.book.specs.declared.side.Side.{Side}
use Rattle.ladder_book.specs.declared.ladder.Ladder.{Ladder}
use Rattle.ladder_book.specs.declared.level.Level.{Level}
use Rattle.ladder_book.specs.declared.level.Node.{Node}
use Rattle.ladder_book.specs.Levels.{alone}
use Rattle.ladder_book.specs.Listed.{listed}
use Rattle.ladder_book.specs.Queues.{at, bare, book, ends, Falls, ids, level_at, nexts, nobody, nowhere, occurs, queue, records, sign}
use Rattle.ladder_book.proofs.Joins.{put_given, put_listed, spare_sound}
use Rattle.ladder_book.proofs.Middles.{Put, put}
use Rattle.ladder_book.proofs.Orders.{Stops, all_parts, all_unmap, none_by_last, order_put, order_split, stops_all}
use Rattle.ladder_book.proofs.Places.{ends_map, length_walk}
use Rattle.ladder_book.proofs.Signs.{better_behind, worse_before}
use Rattle.ladder_book.proofs.Sound.{Given, Proper, Sound, held_places, opened, records_long}

-- the last of a list by its place
ends_get_or : {X : Type 0} (d : X) (xs : List X) → 0 < length xs → ends d xs ≡ get_or xs (length xs - 1) d
ends_get_or d [] h = absurd (omega arith)
ends_get_or d (x ∷ []) h = refl
ends_get_or d (x ∷ y ∷ ys) h =
    let i = ends_get_or x (y ∷ ys) (omega arith) in
    let e : length (x ∷ y ∷ ys) - 1 ≡ suc (length (y ∷ ys) - 1) = omega arith in
    i ∙ (get_or_default (y ∷ ys) (length (y ∷ ys) - 1) x d (omega arith) ∙ ap (λ n. get_or (x ∷ y ∷ ys) n d) (sym e))

-- the one place of a walk of one step
only : (i slot : ℕ) → 1 ≤ occurs i (slot ∷ []) → i ≡ slot
only i slot h = grind (arith, nat_tests)

module _ (side : Side) (orders : List Resting) (next free : List ℕ) (slot : ℕ) (lo hi : List Level) (o : Resting)
    (s : Sound side orders next (slot ∷ free) (lo ++ hi)) (wide : length orders ≡ 128) (low : slot < 128)
    (better : AllByRecursion (λ l. ahead side (sign l) (bare o) ≡ true) hi) (worse : 0 < length lo → ahead side (bare o) (sign (ends nowhere lo)) ≡ true) where
  abbrev x : Level
  x = alone o slot

  abbrev under : Resting → Resting → Bool
  under a b = not (ahead side a b)

  signs : InOrder under (map sign lo ++ map sign hi)
  signs = subst (InOrder under) (map-append sign lo hi) s.falls

  -- worse than the last of the worse levels, so than them all
  all_worse : AllByRecursion (λ z. under (bare o) z ≡ false) (map sign lo)
  all_worse =
      none_by_last under (λ a b c ab bc. not_from_true (ahead side a c) (transitive side a b c (not-false (ahead side a b) ab) (not-false (ahead side b c) bc))) (bare o) (sign nowhere) (map sign lo)
      (order_split under (map sign lo) (map sign hi) signs).0
      (λ h. let n = length-map lo sign in not_from_true (ahead side (bare o) (ends (sign nowhere) (map sign lo))) (ap (ahead side (bare o)) (ends_map sign nowhere lo) ∙ worse (omega arith)))

  falls_open : Falls side (lo ++ x ∷ hi)
  falls_open =
      subst (InOrder under) (sym (map-append sign lo (x ∷ hi)))
      (order_put under (bare o) (map sign lo) (map sign hi) signs all_worse (All-map (λ y. under y (bare o) ≡ false) sign hi (All-weaker (λ l. ahead side (sign l) (bare o) ≡ true) (λ l. under (sign l) (bare o) ≡ false) (λ l g. not_from_true (ahead side (sign l) (bare o)) g) hi better)))

  open_proper : Proper (set orders slot o) next x
  open_proper = record {
    filled = omega arith;
    keyed = λ i q. ap (λ z. bare (at (set orders slot o) z)) (only i slot q) ∙ ap bare (get_or-set_same orders slot o nobody (omega arith));
    tailed = refl;
  }

  parts : AllByRecursion (Proper orders next) lo × AllByRecursion (Proper orders next) hi
  parts = all_parts (Proper orders next) lo hi s.proper

  behind : AllByRecursion (λ z. ahead side o z ≡ false) (map (at orders) (ids next hi ++ []))
  behind = subst (λ w. AllByRecursion (λ z. ahead side o z ≡ false) (map (at orders) w)) (sym (append-nil (ids next hi))) (better_behind side orders next o hi parts.1 better)

  before : Stops (ahead side) o (map (at orders) (ids next lo))
  before =
      stops_all (ahead side) o (book orders next lo) (worse_before side orders next o lo parts.0
      (All-weaker (λ l. under (bare o) (sign l) ≡ false) (λ l. ahead side (bare o) (sign l) ≡ true) (λ l g. not-false (ahead side (bare o) (sign l)) g) lo (all_unmap (λ z. under (bare o) z ≡ false) sign lo all_worse)))

  pub open_put : Put side orders next free slot (lo ++ hi) o next (lo ++ x ∷ hi)
  open_put =
      put side orders next next slot free lo [] (x ∷ []) hi [] [] o s wide refl refl (λ i a b. refl) (open_proper, tt) falls_open behind before

levels_few : (orders : List Resting) (next : List ℕ) (ls : List Level) → AllByRecursion (Proper orders next) ls → length ls ≤ length (ids next ls)
levels_few orders next [] h = omega arith
levels_few orders next (l ∷ ls) h =
    let a = length-append (ids next ls) (queue next l) in
    let b = length_walk next l.size l.head in
    let i = levels_few orders next ls h.1 in
    let p = h.0.filled in
    omega arith

-- each level holds an order
pub depth_few : (s : Ladder) → length (items s.levels) ≤ s.count
depth_few s = let f = levels_few (records s.places) (nexts s.places) (items s.levels) (opened s).proper in let h = held_places s in omega arith

module _ (s : Ladder) (place slot : ℕ) (o : Resting) (room : length (listed s) < 128) (h : place ≤ length (items s.levels)) (places : length s.slots ≡ 128) (first : slot ≡ get_or s.slots s.count 0) (low : slot < 128)
    (better : (k : ℕ) → place ≤ k → k < length (items s.levels) → ahead s.side (sign (level_at (items s.levels) k)) (bare o) ≡ true)
    (worse : 0 < place → ahead s.side (bare o) (sign (level_at (items s.levels) (place - 1))) ≡ true) where
  abbrev live : List Level
  live = items s.levels

  abbrev more : List Level
  more = inserted_at live place (alone o slot)

  all_better : AllByRecursion (λ l. ahead s.side (sign l) (bare o) ≡ true) (drop place live)
  all_better =
      All-from_get_or (λ l. ahead s.side (sign l) (bare o) ≡ true) (drop place live) nowhere
      (λ i g.
      let m = length-drop place live in
      ap (λ l. ahead s.side (sign l) (bare o)) (get_or-drop place live i nowhere) ∙ better (place + i) (omega arith) (omega arith))

  last_worse : 0 < length (take place live) → ahead s.side (bare o) (sign (ends nowhere (take place live))) ≡ true
  last_worse g =
      let m = length-take-le place live (omega arith) in
      let e : length (take place live) - 1 ≡ place - 1 = omega arith in
      ap (λ l. ahead s.side (bare o) (sign l))
      (ends_get_or nowhere (take place live) g ∙ (ap (λ i. get_or (take place live) i nowhere) e ∙ get_or-take place live (place - 1) nowhere (omega arith)))
      ∙ worse (omega arith)

  in_level : Put s.side (records s.places) (nexts s.places) (drop (s.count + 1) s.slots) slot live o (nexts s.places) more
  in_level =
      let whole = take-append-drop place live in
      let free = drop (s.count + 1) s.slots in
      subst (λ z. Put s.side (records s.places) (nexts s.places) free slot z o (nexts s.places) more) whole
      (open_put s.side (records s.places) (nexts s.places) free slot (take place live) (drop place live) o (subst (Sound s.side (records s.places) (nexts s.places) (slot ∷ free)) (sym whole) (spare_sound s slot o room places first)) (records_long s) low all_better last_worse)

  module _ (ps : List Node) (eo : records ps ≡ set (records s.places) slot o) (en : nexts ps ≡ nexts s.places) (y : Level) (ey : y ≡ alone o slot)
      (shown : List Level) (el : shown ≡ cond (has_room 128 live) (inserted_at live place y) live) where
    put_in : shown ≡ more
    put_in =
        let f = depth_few s in
        let l = s.held in
        el ∙ (cond-true (has_room 128 live) (inserted_at live place y) live (lt-ltb (length live) 128 (omega arith)) ∙ ap (inserted_at live place) ey)

    pub open_given : Given s.side ps s.slots (s.count + 1) shown
    open_given = put_given s slot o room places first ps eo _ en shown more in_level put_in

    pub open_list : book (records ps) (nexts ps) shown ≡ inserted (ahead s.side) o (listed s)
    open_list = put_listed s slot o room places first ps eo _ en shown more in_level put_in

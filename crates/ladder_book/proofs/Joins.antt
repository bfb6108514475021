-- An order linked into a queue.
use Rattle.std.proofs.Common.{◌≡◌, ℕ, zero, suc, ◌+◌, ◌-◌, ◌<◌, ◌≤◌, true, false, cond, eqb, ◌≢◌, List, [], ◌∷◌, ◌++◌, map, length, get_or, take, drop, set, sym, refl, ap, ◌∙◌, subst, inl, inr, add-one, arith}
use Rattle.std.specs.List.{AllByRecursion}
use Rattle.std.proofs.ByRecursion.{All-append, All-get_or}
use Rattle.std.proofs.lemmas.List.{drop_more, get_or-set_other, get_or-set_same, length-map, length-set, map-append, set_split}
use Rattle.std.proofs.lemmas.Bool.{cases_eq, cond_both, cond-false, cond-true, eq-eqb, eqb-false, ne_eqb}
use Rattle.ordered.specs.Order.{InOrder, inserted}
use Rattle.ordered.specs.Bounded.{items}
use Rattle.book.specs.Ranks.{ranked}
use Rattle.book.specs.Priority.{ahead}
use Rattle.book.specs.declared.resting.Resting.{Resting}
use Rattle.book.specs.declared.side.Side.{Side}
use Rattle.ladder_book.specs.declared.ladder.Ladder.{Ladder}
use Rattle.ladder_book.specs.declared.level.Level.{Level}
use Rattle.ladder_book.specs.declared.level.Node.{Node}
use Rattle.ladder_book.specs.declared.level.Seat.{Seat}
use Rattle.ladder_book.specs.Levels.{grown, linked, Stands}
use Rattle.ladder_book.specs.Listed.{level_of, listed, Seated}
use Rattle.ladder_book.specs.Queues.{at, bare, book, ends, hop, ids, level_at, nexts, nobody, nowhere, occurs, queue, records, sign, walk}
use Rattle.ladder_book.proofs.Middles.{Put, put, regroup}
use Rattle.ladder_book.proofs.Orders.{Stops, all_parts, none_by_last, order_split, stops_all}
use Rattle.ladder_book.proofs.Places.{apart_from_last, ends_any, ends_append, ends_map, ends_walk, hop_in, length_walk, occurs_append, occurs_self, once_most, plus, plus_is, unlike, walk_same, walk_split, walk_turned}
use Rattle.ladder_book.proofs.Signs.{better_behind, falls_above, falls_below, worse_before}
use Rattle.ladder_book.proofs.Sound.{Given, Proper, Sound, held_places, ids_cut, level_cut, nexts_long, opened, records_long, shut, falls_put}

walk_from : (N : List ℕ) (m a b : ℕ) → (0 < m → a ≡ b) → walk N m a ≡ walk N m b
walk_from N zero a b e = refl
walk_from N (suc m) a b e = ap (walk N (suc m)) (e (omega arith))

none_parts : (j : ℕ) (xs ys : List ℕ) → occurs j (xs ++ ys) ≡ 0 → (occurs j xs ≡ 0) × (occurs j ys ≡ 0)
none_parts j xs ys e = let a = occurs_append j xs ys in (omega arith, omega arith)

-- the links of a queue with a slot at a seat, behind which m stand
link_walk : (next : List ℕ) (passed m h last place slot : ℕ) → (0 < m → place ≡ hop next passed h) → (0 < passed → last ≡ hop next (passed - 1) h)
    → slot < length next → (0 < passed → last < length next)
    → ((i : ℕ) → occurs i (walk next passed h ++ walk next m (hop next passed h)) ≤ 1) → occurs slot (walk next passed h ++ walk next m (hop next passed h)) ≡ 0
    → walk (cond (eqb passed 0) (set next slot place) (set (set next slot place) last slot)) (plus passed (suc m)) (cond (eqb passed 0) slot h) ≡ walk next passed h ++ slot ∷ walk next m (hop next passed h)
link_walk next zero m h last place slot ep el sb lb f none =
    let N = set next slot place in
    ap (λ x. slot ∷ walk N m x) (get_or-set_same next slot place 0 sb) ∙ ap (λ z. slot ∷ z) (walk_from N m place h ep
    ∙ walk_same next N m h (λ i g. get_or-set_other next slot i place 0 (unlike i slot (walk next m h) g none)))
link_walk next (suc j) m h last place slot ep el sb lb f none =
    let M = set next slot place in
    let N = set M last slot in
    let n = length-set next slot place in
    let one : suc j - 1 ≡ j = omega arith in
    let q : last ≡ hop next j h = el (omega arith) ∙ ap (λ i. hop next i h) one in
    let G = walk next m (hop next (suc j) h) in
    let r = apart_from_last next j h G f in
    let z = none_parts slot (walk next (suc j) h) G none in
    let in_front = hop_in next (suc j) h j (omega arith) in
    let slot_off : slot ≢ last = λ e. unlike (hop next j h) slot (walk next (suc j) h) in_front z.0 (sym (e ∙ q)) in
    let away : (xs : List ℕ) → occurs (hop next j h) xs ≡ 0 → occurs slot xs ≡ 0 → (i : ℕ) → 1 ≤ occurs i xs → get_or N i 0 ≡ get_or next i 0 =
    λ xs a b i g. get_or-set_other M last i slot 0 (λ e. unlike i (hop next j h) xs g a (e ∙ q)) ∙ get_or-set_other next slot i place 0 (unlike i slot xs g b) in
    let split : plus j 1 ≡ suc j = plus_is j 1 ∙ omega arith in
    let front_none = (none_parts slot (walk next j h) (hop next j h ∷ []) (sym (ap (occurs slot) (walk_split next j 1 h)) ∙ (ap (λ k. occurs slot (walk next k h)) split ∙ z.0))).0 in
    let some : eqb (suc j) 0 ≡ false = ne_eqb (suc j) 0 (λ e. omega arith) in
    subst (λ b. walk (cond b M N) (plus (suc j) (suc m)) (cond b slot h) ≡ walk next (suc j) h ++ slot ∷ G) (sym some)
    (walk_turned next N slot j (suc m) h (away (walk next j h) r.0 front_none) (ap (λ x. get_or N x 0) (sym q) ∙ get_or-set_same M last slot 0 (let b = lb (omega arith) in omega arith))
    ∙ ap (λ w. walk next (suc j) h ++ slot ∷ w) (ap (walk N m) (get_or-set_other M last slot slot 0 slot_off ∙ get_or-set_same next slot place 0 sb)
    ∙ (walk_from N m place (hop next (suc j) h) ep ∙ walk_same next N m (hop next (suc j) h) (away G r.1 z.1))))

none_behind : (G : List ℕ) (slot : ℕ) → length G ≡ 0 → slot ≡ ends slot G
none_behind [] slot e = refl
none_behind (x ∷ xs) slot e = absurd (omega arith)

-- the last place of such a queue
link_tail : (F G : List ℕ) (passed m slot tail size : ℕ) → passed + m ≡ size → length G ≡ m → tail ≡ ends 0 (F ++ G) → cond (eqb passed size) slot tail ≡ ends 0 (F ++ slot ∷ G)
link_tail F G passed m slot tail size all n is =
    elim (cases_eq passed size) [
      | inl q ↦ cond-true _ _ _ (eq-eqb passed size q) ∙ (none_behind G slot (omega arith) ∙ sym (ends_append 0 F (slot ∷ G)))
      | inr q ↦ cond-false _ _ _ (ne_eqb passed size q) ∙ (is ∙ (ends_append 0 F G ∙ (ends_any (ends 0 F) slot G (omega arith) ∙ sym (ends_append 0 F (slot ∷ G)))))
    ]

module _ (side : Side) (orders : List Resting) (next free : List ℕ) (slot : ℕ) (live : List Level) (o : Resting) (t : Seat)
    (s : Sound side orders next (slot ∷ free) live) (wide : length orders ≡ 128) (links : length next ≡ 128) (low : slot < 128)
    (h : t.level < length live) (key : sign (level_at live t.level) ≡ bare o) (st : Stands next (level_at live t.level) t)
    (not_ahead : 0 < t.passed → ahead side o (at orders t.last) ≡ false) (is_ahead : t.passed < (level_at live t.level).size → ahead side o (at orders t.place) ≡ true) where
  abbrev k : ℕ
  k = t.level

  abbrev l : Level
  l = level_at live k

  abbrev lo : List Level
  lo = take k live

  abbrev hi : List Level
  hi = drop (k + 1) live

  abbrev m : ℕ
  m = l.size - t.passed

  abbrev F : List ℕ
  F = walk next t.passed l.head

  abbrev G : List ℕ
  G = walk next m (hop next t.passed l.head)

  was : queue next l ≡ F ++ G
  was =
      let w = st.within in
      let e : l.size ≡ plus t.passed m = sym (plus_is t.passed m ∙ omega arith) in
      ap (λ n. walk next n l.head) e ∙ walk_split next t.passed m l.head

  sound : Sound side orders next (slot ∷ free) (lo ++ l ∷ hi)
  sound = subst (Sound side orders next (slot ∷ free)) (level_cut live k h) s

  own : Proper orders next l
  own = All-get_or (Proper orders next) live k nowhere h s.proper

  four : (i : ℕ) → occurs i (ids next hi) + occurs i (queue next l) + occurs i (ids next lo) + occurs i (slot ∷ free) ≤ 1
  four i =
      let a = occurs_append i (ids next hi) (queue next l) in
      let b = occurs_append i (ids next hi ++ queue next l) (ids next lo) in
      let d = ap (occurs i) (ids_cut next live k h) in
      let e = occurs_append i (ids next live) (slot ∷ free) in
      let z = s.apart i in
      let y = once_most i in
      omega arith

  is : walk (linked next t slot) (l.size + 1) (grown l t slot).head ≡ F ++ slot ∷ G
  is =
      let w = st.within in
      let e : l.size + 1 ≡ plus t.passed (suc m) = sym (plus_is t.passed (suc m) ∙ omega arith) in
      ap (λ n. walk (linked next t slot) n (grown l t slot).head) e
      ∙ link_walk next t.passed m l.head t.last t.place slot (λ p. st.place_is (omega arith)) st.last_is (omega arith) (λ p. let b = st.last_low p in omega arith)
      (λ i. let a = four i in let b = ap (occurs i) was in omega arith)
      (let a = four slot in let b = ap (occurs slot) was in let d = occurs_self slot free in omega arith)

  same : (i : ℕ) → i ≢ slot → (1 ≤ occurs i (queue next l) → ⊥) → get_or (linked next t slot) i 0 ≡ get_or next i 0
  same i ne f =
      let first = get_or-set_other next slot i t.place 0 ne in
      cond_both (eqb t.passed 0) (set next slot t.place) (set (set next slot t.place) t.last slot) (λ N. get_or N i 0 ≡ get_or next i 0) (λ _. first)
      (λ q.
      let w = st.within in
      let p : 0 < t.passed = omega (arith, eqb-false t.passed 0 q) in
      let here = hop_in next l.size l.head (t.passed - 1) (omega arith) in
      get_or-set_other (set next slot t.place) t.last i slot 0 (λ e. f (subst (λ x. 1 ≤ occurs x (queue next l)) (sym (e ∙ st.last_is p)) here)) ∙ first)

  grown_proper : Proper (set orders slot o) (linked next t slot) (grown l t slot)
  grown_proper = record {
    filled = omega arith;
    keyed = λ i q.
        elim (cases_eq i slot) [
          | inl e ↦ ap (λ x. bare (at (set orders slot o) x)) e ∙ (ap bare (get_or-set_same orders slot o nobody (omega arith)) ∙ sym key)
          | inr e ↦ ap bare (get_or-set_other orders slot i o nobody e) ∙ own.keyed i (
              let a : 1 ≤ occurs i (F ++ slot ∷ G) = subst (λ w. 1 ≤ occurs i w) is q in
              let b = occurs_append i F G in
              let d = occurs_append i F (slot ∷ G) in
              let z = ap (occurs i) was in
              let u : occurs i (slot ∷ G) ≡ cond (eqb i slot) 1 0 + occurs i G = refl in
              let y : ◌≡◌ {A = ℕ} (cond (eqb i slot) 1 0) 0 = cond-false (eqb i slot) 1 0 (ne_eqb i slot e) in
              omega arith)
        ];
    tailed = (let w = st.within in link_tail F G t.passed m slot l.tail l.size (omega arith) (length_walk next m (hop next t.passed l.head)) (own.tailed ∙ ap (ends 0) was)) ∙ ap (ends 0) (sym is);
  }

  all_was : ids next live ≡ (ids next hi ++ F) ++ (G ++ ids next lo)
  all_was = ids_cut next live k h ∙ (ap (λ z. (ids next hi ++ z) ++ ids next lo) was ∙ regroup (ids next hi) F G (ids next lo))

  -- the order is ahead of none of the queue in front of its seat, since not of the last of these
  front_behind : AllByRecursion (λ x. ahead side o x ≡ false) (map (at orders) F)
  front_behind =
      let f = at orders in
      let P = ids next hi ++ F in
      let Q = G ++ ids next lo in
      let whole : InOrder (ahead side) (map f P ++ map f Q) = subst (InOrder (ahead side)) (ap (map f) all_was ∙ map-append f P Q) s.ordered in
      let left : InOrder (ahead side) (map f (ids next hi) ++ map f F) = subst (InOrder (ahead side)) (map-append f (ids next hi) F) (order_split (ahead side) (map f P) (map f Q) whole).0 in
      none_by_last (ahead side) (ranked side) o (f 0) (map f F) (order_split (ahead side) (map f (ids next hi)) (map f F) left).1
      (λ n.
      let a = length-map F f in
      let b = length_walk next t.passed l.head in
      let p : 0 < t.passed = omega arith in
      let e : t.passed ≡ suc (t.passed - 1) = omega arith in
      let last : ends 0 F ≡ t.last = ap (λ i. ends 0 (walk next i l.head)) e ∙ (ends_walk next 0 (t.passed - 1) l.head ∙ sym (st.last_is p)) in
      ap (ahead side o) (ends_map f 0 F ∙ ap f last) ∙ not_ahead p)

  back_before : Stops (ahead side) o (map (at orders) (ids next lo)) → Stops (ahead side) o (map (at orders) (G ++ ids next lo))
  back_before rest =
      elim (cases_eq m 0) [
        | inl z ↦ subst (λ i. Stops (ahead side) o (map (at orders) (walk next i (hop next t.passed l.head) ++ ids next lo))) (sym z) rest
        | inr z ↦
            let w = st.within in
            let e : suc (m - 1) ≡ m = omega arith in
            let here : ahead side o (at orders (hop next t.passed l.head)) ≡ true = ap (λ x. ahead side o (at orders x)) (sym (st.place_is (omega arith))) ∙ is_ahead (omega arith) in
            subst (λ i. Stops (ahead side) o (map (at orders) (walk next i (hop next t.passed l.head) ++ ids next lo))) e here
      ]

  own_parts : AllByRecursion (Proper orders next) lo × AllByRecursion (Proper orders next) (l ∷ hi)
  own_parts = all_parts (Proper orders next) lo (l ∷ hi) sound.proper

  behind : AllByRecursion (λ x. ahead side o x ≡ false) (map (at orders) (ids next hi ++ F))
  behind =
      let above : AllByRecursion (λ x. ahead side (sign x) (bare o) ≡ true) hi = subst (λ z. AllByRecursion (λ x. ahead side (sign x) z ≡ true) hi) key (falls_above side lo hi l sound.falls) in
      subst (AllByRecursion (λ x. ahead side o x ≡ false)) (sym (map-append (at orders) (ids next hi) F))
      (All-append (λ x. ahead side o x ≡ false) (book orders next hi) (map (at orders) F) (better_behind side orders next o hi own_parts.1.1 above) front_behind)

  before : Stops (ahead side) o (map (at orders) (G ++ ids next lo))
  before =
      let below : AllByRecursion (λ x. ahead side (bare o) (sign x) ≡ true) lo = subst (λ z. AllByRecursion (λ x. ahead side z (sign x) ≡ true) lo) key (falls_below side lo hi l sound.falls) in
      back_before (stops_all (ahead side) o (book orders next lo) (worse_before side orders next o lo own_parts.0 below))

  pub joined : Put side orders next free slot live o (linked next t slot) (set live k (grown l t slot))
  joined =
      let N = linked next t slot in
      let x = grown l t slot in
      let back = level_cut live k h in
      let e : set live k x ≡ lo ++ x ∷ hi = set_split live k x h ∙ ap (λ n. lo ++ x ∷ drop n live) (sym (add-one k)) in
      let f = falls_put side lo hi l x refl sound.falls in
      let p : AllByRecursion (Proper (set orders slot o) N) (x ∷ []) = (grown_proper, tt) in
      subst (λ z. Put side orders next free slot z o N (set live k x)) (sym back)
      (subst (Put side orders next free slot (lo ++ l ∷ hi) o N) (sym e) (put side orders next N slot free lo (l ∷ []) (x ∷ []) hi F G o sound wide was is same p f behind before))

-- a side with an order put in
module _ (s : Ladder) (slot : ℕ) (o : Resting) (room : length (listed s) < 128) (places : length s.slots ≡ 128) (first : slot ≡ get_or s.slots s.count 0) where
  pub free_cut : drop s.count s.slots ≡ slot ∷ drop (s.count + 1) s.slots
  free_cut = let n = s.held in drop_more s.slots s.count 0 (omega arith) ∙ ap (λ x. x ∷ drop (s.count + 1) s.slots) (sym first)

  pub spare_sound : Sound s.side (records s.places) (nexts s.places) (slot ∷ drop (s.count + 1) s.slots) (items s.levels)
  spare_sound = subst (λ f. Sound s.side (records s.places) (nexts s.places) f (items s.levels)) free_cut (opened s)

  module _ (ps : List Node) (eo : records ps ≡ set (records s.places) slot o) (N : List ℕ) (en : nexts ps ≡ N) (shown more : List Level)
      (p : Put s.side (records s.places) (nexts s.places) (drop (s.count + 1) s.slots) slot (items s.levels) o N more) (el : shown ≡ more) where
    pub put_given : Given s.side ps s.slots (s.count + 1) shown
    put_given =
        let a = p.1 in
        let b = held_places s in
        let l = s.held in
        shut s.side ps (set (records s.places) slot o) N s.slots (drop (s.count + 1) s.slots) (s.count + 1) shown more
        eo en (length-set (records s.places) slot o ∙ records_long s) (omega arith) el refl (omega arith) p.2

    pub put_listed : book (records ps) (nexts ps) shown ≡ inserted (ahead s.side) o (listed s)
    put_listed = ap (book (records ps) (nexts ps)) el ∙ (ap (λ z. book z (nexts ps) more) eo ∙ (ap (λ z. book (set (records s.places) slot o) z more) en ∙ p.0))

module _ (s : Ladder) (t : Seat) (slot : ℕ) (o : Resting) (room : length (listed s) < 128) (seated : Seated s o t) (key : sign (level_of s t) ≡ bare o)
    (places : length s.slots ≡ 128) (first : slot ≡ get_or s.slots s.count 0) (low : slot < 128)
    (ps : List Node) (eo : records ps ≡ set (records s.places) slot o) (en : nexts ps ≡ linked (nexts s.places) t slot) (shown : List Level) (el : shown ≡ set (items s.levels) t.level (grown (level_of s t) t slot)) where
  in_queue : Put s.side (records s.places) (nexts s.places) (drop (s.count + 1) s.slots) slot (items s.levels) o (linked (nexts s.places) t slot) (set (items s.levels) t.level (grown (level_of s t) t slot))
  in_queue =
      let a = seated.sits in
      joined s.side (records s.places) (nexts s.places) (drop (s.count + 1) s.slots) slot (items s.levels) o t (spare_sound s slot o room places first) (records_long s) (nexts_long s) low a.level key
      a.stands seated.behind seated.before

  pub join_given : Given s.side ps s.slots (s.count + 1) shown
  join_given = put_given s slot o room places first ps eo _ en shown _ in_queue el

  pub join_list : book (records ps) (nexts ps) shown ≡ inserted (ahead s.side) o (listed s)
  join_list = put_listed s slot o room places first ps eo _ en shown _ in_queue el

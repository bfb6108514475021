-- What always holds of a side's arrays, as one record over the live levels and the free places.
use Rattle.std.proofs.Common.{◌≡◌, ℕ, ◌+◌, ◌<◌, ◌≤◌, List, [], ◌∷◌, ◌++◌, map, length, get_or, take, drop, sym, refl, ap, ◌∙◌, subst, arith}
use Rattle.std.specs.List.{AllByRecursion}
use Rattle.std.proofs.ByRecursion.{All-get_or, All-from_get_or}
use Rattle.std.proofs.lemmas.List.{append-nil, append_assoc, drop_more, length-append, length-map, map-append, take-append-drop}
use Rattle.ordered.specs.Order.{InOrder}
use Rattle.ordered.specs.Bounded.{items}
use Rattle.book.specs.Priority.{ahead}
use Rattle.book.specs.declared.resting.Resting.{Resting}
use Rattle.book.specs.declared.side.Side.{Side}
use Rattle.ladder_book.specs.declared.ladder.Ladder.{Ladder}
use Rattle.ladder_book.specs.declared.level.Level.{Level}
use Rattle.ladder_book.specs.declared.level.Node.{Node}
use Rattle.ladder_book.specs.Listed.{listed, live_levels}
use Rattle.ladder_book.specs.Queues.{at, bare, book, ends, Falls, hop, ids, level_at, nexts, nowhere, occurs, once, queue, records, sign, sizes}
use Rattle.ladder_book.proofs.Places.{hop_in, length_walk, occurs_append, occurs_self, once_low}

-- one level
pub record Proper (orders : List Resting) (next : List ℕ) (l : Level) : Type 0 where
  pub filled : 0 < l.size
  pub keyed : (i : ℕ) → 1 ≤ occurs i (queue next l) → bare (at orders i) ≡ sign l
  pub tailed : l.tail ≡ ends 0 (queue next l)

-- all of them
pub record Sound (side : Side) (orders : List Resting) (next free : List ℕ) (live : List Level) : Type 0 where
  pub apart : (k : ℕ) → occurs k (ids next live ++ free) ≡ once k
  pub proper : AllByRecursion (Proper orders next) live
  pub falls : Falls side live
  pub ordered : InOrder (ahead side) (book orders next live)

-- what a side's ghost fields tell
pub opened : (s : Ladder) → Sound s.side (records s.places) (nexts s.places) (drop s.count s.slots) (live_levels s)
opened s = record {
  apart = s.apart;
  proper = All-from_get_or (Proper (records s.places) (nexts s.places)) (live_levels s) nowhere (λ k h. record { filled = s.filled k h; keyed = λ i. s.keyed k i h; tailed = s.tailed k h });
  falls = s.falls;
  ordered = s.ordered;
}

-- a side's ghost fields, as the goal `invariant_of-self` asks for them
abbrev pub Given : Side → (places : List Node) → (slots : List ℕ) → (count : ℕ) → List Level → Type 0
Given side places slots count live =
    record {
      wide : length places ≡ 128;
      room : count ≤ 128;
      held : length (book (records places) (nexts places) live) ≡ count;
      apart : (k : ℕ) → occurs k (ids (nexts places) live ++ drop count slots) ≡ once k;
      filled : (k : ℕ) → k < length live → 0 < (level_at live k).size;
      keyed : (k i : ℕ) → k < length live → 1 ≤ occurs i (queue (nexts places) (level_at live k)) → bare (at (records places) i) ≡ sign (level_at live k);
      tailed : (k : ℕ) → k < length live → (level_at live k).tail ≡ ends 0 (queue (nexts places) (level_at live k));
      falls : Falls side live;
      ordered : InOrder (ahead side) (book (records places) (nexts places) live);
    }

shut_same : (side : Side) (places : List Node) (slots : List ℕ) (count : ℕ) (live : List Level) → length places ≡ 128 → count ≤ 128 → length (ids (nexts places) live) ≡ count
    → Sound side (records places) (nexts places) (drop count slots) live → Given side places slots count live
shut_same side places slots count live wide room few s =
    let proper : (k : ℕ) → k < length live → Proper (records places) (nexts places) (level_at live k) = λ k h. All-get_or (Proper (records places) (nexts places)) live k nowhere h s.proper in
    record {
      wide = wide;
      room = room;
      held = length-map (ids (nexts places) live) (at (records places)) ∙ few;
      apart = s.apart;
      filled = λ k h. (proper k h).filled;
      keyed = λ k i h. (proper k h).keyed i;
      tailed = λ k h. (proper k h).tailed;
      falls = s.falls;
      ordered = s.ordered;
    }

pub shut : (side : Side) (places : List Node) (orders : List Resting) (next slots free : List ℕ) (count : ℕ) (shown live : List Level)
    → records places ≡ orders → nexts places ≡ next → length orders ≡ 128 → count ≤ 128
    → shown ≡ live → drop count slots ≡ free → length (ids next live) ≡ count → Sound side orders next free live → Given side places slots count shown
shut side places orders next slots free count shown live eo en wide room el ef few s =
    subst (Given side places slots count) (sym el)
    (shut_same side places slots count live (sym (length-map places (λ p. p.order)) ∙ (ap length eo ∙ wide)) room (ap (λ n. length (ids n live)) en ∙ few)
    (subst (λ o. Sound side o (nexts places) (drop count slots) live) (sym eo) (subst (λ n. Sound side orders n (drop count slots) live) (sym en) (subst (λ f. Sound side orders next f live) (sym ef) s))))

-- as many orders and links as places
pub records_long : (s : Ladder) → length (records s.places) ≡ 128
records_long s = length-map s.places (λ p. p.order) ∙ s.wide

pub nexts_long : (s : Ladder) → length (nexts s.places) ≡ 128
nexts_long s = length-map s.places (λ p. p.next) ∙ s.wide

pub ids_append : (next : List ℕ) (ls ms : List Level) → ids next (ls ++ ms) ≡ ids next ms ++ ids next ls
ids_append next [] ms = sym (append-nil (ids next ms))
ids_append next (l ∷ ls) ms = ap (λ z. z ++ queue next l) (ids_append next ls ms) ∙ append_assoc (ids next ms) (ids next ls) (queue next l)

pub length_ids : (next : List ℕ) (ls : List Level) → length (ids next ls) ≡ sizes ls
length_ids next [] = refl
length_ids next (l ∷ ls) =
    let a = length-append (ids next ls) (queue next l) in
    let b = length_walk next l.size l.head in
    let i = length_ids next ls in
    omega arith

-- the levels cut at one of them
pub level_cut : (live : List Level) (k : ℕ) → k < length live → live ≡ take k live ++ level_at live k ∷ drop (k + 1) live
level_cut live k h = sym (take-append-drop k live) ∙ ap (λ l. take k live ++ l) (drop_more live k nowhere h)

pub ids_cut : (next : List ℕ) (live : List Level) (k : ℕ) → k < length live → ids next live ≡ (ids next (drop (k + 1) live) ++ queue next (level_at live k)) ++ ids next (take k live)
ids_cut next live k h = ap (ids next) (level_cut live k h) ∙ ids_append next (take k live) (level_at live k ∷ drop (k + 1) live)

-- levels that fall do so with one of the same sign in the place of another
pub falls_put : (side : Side) (lo hi : List Level) (l x : Level) → sign x ≡ sign l → Falls side (lo ++ l ∷ hi) → Falls side (lo ++ x ∷ hi)
falls_put side lo hi l x e h =
    subst (InOrder _) (map-append sign lo (l ∷ hi) ∙ (ap (λ z. map sign lo ++ z ∷ map sign hi) (sym e) ∙ sym (map-append sign lo (x ∷ hi)))) h

module _ {side : Side} {orders : List Resting} {next free : List ℕ} {live : List Level} (s : Sound side orders next free live) where
  pub place_low : (i : ℕ) → 1 ≤ occurs i (ids next live) → i < 128
  place_low i h = let a = occurs_append i (ids next live) free in let e = s.apart i in once_low i (omega arith)

  pub queue_in : (k i : ℕ) → k < length live → 1 ≤ occurs i (queue next (level_at live k)) → 1 ≤ occurs i (ids next live)
  queue_in k i h g =
      let U = ids next (drop (k + 1) live) in
      let W = queue next (level_at live k) in
      let a = occurs_append i U W in
      let b = occurs_append i (U ++ W) (ids next (take k live)) in
      let d = ap (occurs i) (ids_cut next live k h) in
      omega arith

  pub queue_low : (k i : ℕ) → k < length live → i < (level_at live k).size → hop next i (level_at live k).head < 128
  queue_low k i h g = place_low (hop next i (level_at live k).head) (queue_in k (hop next i (level_at live k).head) h (hop_in next (level_at live k).size (level_at live k).head i g))

  pub queue_short : (k : ℕ) → k < length live → (level_at live k).size ≤ length (ids next live)
  queue_short k h =
      let U = ids next (drop (k + 1) live) in
      let W = queue next (level_at live k) in
      let a = length-append U W in
      let b = length-append (U ++ W) (ids next (take k live)) in
      let d = ap length (ids_cut next live k h) in
      let e = length_walk next (level_at live k).size (level_at live k).head in
      omega arith

pub held_places : (s : Ladder) → length (ids (nexts s.places) (live_levels s)) ≡ s.count
held_places s = sym (length-map (ids (nexts s.places) (live_levels s)) (at (records s.places))) ∙ s.held

-- the same of a side's own lists
module _ (s : Ladder) (k : ℕ) (h : k < length (items s.levels)) where
  pub hop_low : (i : ℕ) → i < (level_at (items s.levels) k).size → hop (nexts s.places) i (level_at (items s.levels) k).head < 128
  hop_low i g = queue_low (opened s) k i h g

  pub size_short : (level_at (items s.levels) k).size ≤ s.count
  size_short = let q = queue_short (opened s) k h in let r = held_places s in omega arith

-- the first free place is one of the array's
pub spare_low : (s : Ladder) → length s.slots ≡ 128 → length (listed s) < 128 → get_or s.slots s.count 0 < 128
spare_low s long room =
    let n = s.held in
    let x = get_or s.slots s.count 0 in
    let a = occurs_append x (ids (nexts s.places) (live_levels s)) (drop s.count s.slots) in
    let b = ap (occurs x) (drop_more s.slots s.count 0 (omega arith)) in
    let d = occurs_self x (drop (s.count + 1) s.slots) in
    let e = s.apart x in
    once_low x (omega arith)

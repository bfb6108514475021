-- The first order of a side.
use Rattle.std.proofs.Common.{◌≡◌, ℕ, suc, ◌+◌, ◌-◌, ◌<◌, ◌≤◌, List, [], ◌∷◌, ◌++◌, map, get_or, take, drop, set, sym, refl, ap, ◌∙◌, subst, arith}
use Rattle.std.proofs.ByRecursion.{All-weaker}
use Rattle.std.proofs.lemmas.List.{get_or-set_same, length-set, nil_from_length}
use Rattle.std.proofs.Math.ListN.{get_or-map}
use Rattle.std.proofs.Math.Seq.{map-set_same}
use Rattle.ordered.specs.Order.{InOrder}
use Rattle.ordered.specs.Bounded.{items}
use Rattle.book.specs.Priority.{ahead}
use Rattle.book.specs.declared.resting.Resting.{Resting}
use Rattle.two_sided.specs.Resized.{resized}
use Rattle.ladder_book.specs.declared.ladder.Ladder.{Ladder}
use Rattle.ladder_book.specs.declared.level.Level.{Level}
use Rattle.ladder_book.specs.declared.level.Node.{Node}
use Rattle.ladder_book.specs.declared.level.Seat.{Seat}
use Rattle.ladder_book.specs.Listed.{Holds, level_of, listed, place_of}
use Rattle.ladder_book.specs.Queues.{at, bare, book, hop, ids, nexts, nobody, occurs, queue, records, walk}
use Rattle.ladder_book.proofs.Middles.{map_set}
use Rattle.ladder_book.proofs.Places.{occurs_append, occurs_self, once_most}
use Rattle.ladder_book.proofs.Sound.{Given, Proper, held_places, ids_cut, length_ids, opened, place_low, records_long, shut}

walk_first : (next : List ℕ) (n h : ℕ) → 0 < n → walk next n h ≡ h ∷ walk next (n - 1) (get_or next h 0)
walk_first next n h p = let e : n ≡ suc (n - 1) = omega arith in ap (λ m. walk next m h) e

-- an order at another volume
abbrev pub at_volume : ℕ → Resting → Resting
at_volume v o = record { number = o.number; member = o.member; limit = o.limit; volume = v; visible = o.visible }

-- the place of the first order
pub record FirstAt (s : Ladder) (x : ℕ) : Type 0 where
  pub others : List ℕ
  pub is : ids (nexts s.places) (items s.levels) ≡ x ∷ others

pub first_at : (s : Ladder) (t : Seat) → Holds s t → place_of s t ≡ 0 → FirstAt s t.place
first_at s t a front =
    let live = items s.levels in
    let next = nexts s.places in
    let l = level_of s t in
    let better = drop (t.level + 1) live in
    let none : ids next better ≡ [] = nil_from_length (ids next better) (omega (arith, length_ids next better)) in
    let first : t.passed ≡ 0 = omega arith in
    let head : t.place ≡ l.head = a.sits.stands.place_is a.some ∙ ap (λ n. hop next n l.head) first in
    let others = walk next (l.size - 1) (get_or next l.head 0) ++ ids next (take t.level live) in
    record {
      others = others;
      is = ids_cut next live t.level a.sits.level ∙ (ap (λ z. (z ++ queue next l) ++ ids next (take t.level live)) none
          ∙ (ap (λ z. z ++ ids next (take t.level live)) (walk_first next l.size l.head (omega (arith, a.some))) ∙ ap (λ h. h ∷ others) (sym head)));
    }

module _ (s : Ladder) (v x : ℕ) (f : FirstAt s x) (ps : List Node) (eo : records ps ≡ set (records s.places) x (at_volume v (at (records s.places) x))) (en : nexts ps ≡ nexts s.places) where
  abbrev live : List Level
  live = items s.levels

  abbrev others : List ℕ
  others = f.others

  apart_first : (1 ≤ occurs x (ids (nexts s.places) live)) × (occurs x others ≡ 0)
  apart_first =
      let a = s.apart x in
      let b = occurs_append x (ids (nexts s.places) live) (drop s.count s.slots) in
      let d = ap (occurs x) f.is in
      let e = occurs_self x others in
      let y = once_most x in
      (omega arith, omega arith)

  low : x < 128
  low = place_low (opened s) x apart_first.0

  abbrev o : Resting
  o = at_volume v (at (records s.places) x)

  abbrev orders : List Resting
  orders = set (records s.places) x o

  resized_list : book orders (nexts s.places) live ≡ resized v (listed s)
  resized_list =
      let w = records_long s in
      let b = low in
      ap (map (at orders)) f.is ∙ (ap (λ z. z ∷ map (at orders) others) (get_or-set_same (records s.places) x o nobody (omega arith))
      ∙ (ap (λ z. o ∷ z) (map_set (records s.places) x o others apart_first.1) ∙ sym (ap (λ z. resized v (map (at (records s.places)) z)) f.is)))

  pub resize_list : book (records ps) (nexts ps) live ≡ resized v (listed s)
  resize_list = ap (λ z. book z (nexts ps) live) eo ∙ (ap (λ z. book orders z live) en ∙ resized_list)

  same_sign : (i : ℕ) → bare (at orders i) ≡ bare (at (records s.places) i)
  same_sign i = sym (get_or-map bare orders i nobody) ∙ (ap (λ l. get_or l i nobody) (map-set_same bare (records s.places) x o nobody refl) ∙ get_or-map bare (records s.places) i nobody)

  pub resize_given : Given s.side ps s.slots s.count live
  resize_given =
      let a = opened s in
      let P : List Resting → Type 0 = InOrder (ahead s.side) in
      let before : P (at (records s.places) x ∷ map (at (records s.places)) others) = subst P (ap (map (at (records s.places))) f.is) s.ordered in
      let after : P (o ∷ map (at (records s.places)) others) = before in
      shut s.side ps orders (nexts s.places) s.slots (drop s.count s.slots) s.count live live
      eo en (length-set (records s.places) x o ∙ records_long s) s.room refl refl (held_places s)
      (record {
        apart = s.apart;
        proper = All-weaker (Proper (records s.places) (nexts s.places)) (Proper orders (nexts s.places)) (λ l p. record { filled = p.filled; keyed = λ i h. same_sign i ∙ p.keyed i h; tailed = p.tailed }) live a.proper;
        falls = s.falls;
        ordered = subst P (sym (resized_list ∙ ap (λ z. resized v (map (at (records s.places)) z)) f.is)) after;
      })

-- The orders of the plain book, one by one, against the list that they should stand in, and what they weigh.
use Rattle.std.proofs.Common.{◌≡◌, ◌<◌, ◌≤◌, ℕ, ◌+◌, ◌%◌, ◌^◌, List, [], ◌∷◌, length, get_or, drop, fold, refl, sym, subst, ◌∙◌, inl, inr, Some, arith, add-one, zero-add, drop-cons}
use Rattle.std.specs.List.{enumerate_from, slice_get}
use Rattle.std.proofs.lemmas.Bool.{cases_lt}
use Rattle.std.proofs.lemmas.Option.{slice_get-get_or}
use Rattle.std.proofs.Math.ListN.{drop_of_length-le}
use Rattle.std.proofs.lemmas.List.FromFn.{get_or-enumerate_from, length-enumerate_from}
use Rattle.book.specs.declared.resting.Resting.{Resting}
use Rattle.book.specs.declared.side.Side.{Side}
use Rattle.booktrial.specs.Alike.{StandsTo}
use Rattle.booktrial.specs.Arrivals.{place_of}
use Rattle.booktrial.specs.Weight.{side_weight, weight_of, with_order}

-- what is left of the orders brings the weight so far to that of the side
abbrev pub Weighs : Side → List Resting → (came weight : ℕ) → Type 0
Weighs s os n weight = fold (with_order s os) weight (drop n (enumerate_from 0 os)) ≡ side_weight s os

-- the first orders stand at their places, and are weighed
pub record Compared (s : Side) (orders list : List Resting) (came weight : ℕ) : Type 0 where
  pub stand : StandsTo s orders list came
  pub weigh : Weighs s orders came weight

stands_more : (s : Side) (os list : List Resting) (n : ℕ) (d : Resting) → StandsTo s os list n → n < length os
    → slice_get list (place_of s os n (get_or os n d)) ≡ Some (get_or os n d) → StandsTo s os list (n + 1)
stands_more s os list n d h lt e k o kn eq =
    elim (cases_lt k n) [
      | inl l ↦ h k o l eq
      | inr p ↦
          let same : n ≡ k = omega arith in
          let found : slice_get os n ≡ Some (get_or os n d) = slice_get-get_or os n d lt in
          let order : get_or os n d ≡ o = cc in
          subst (λ k. slice_get list (place_of s os k o) ≡ Some o) same
          (subst (λ o. slice_get list (place_of s os n o) ≡ Some o) order e)
    ]

left : (os : List Resting) (n : ℕ) (d : Resting) → n < length os → drop n (enumerate_from 0 os) ≡ (n, get_or os n d) ∷ drop (n + 1) (enumerate_from 0 os)
left os n d lt =
    let within : n < length (enumerate_from 0 os) = rw length-enumerate_from lt in
    let head : get_or (enumerate_from 0 os) n (n, d) ≡ (n, get_or os n d) = rw zero-add at (get_or-enumerate_from 0 os n (n, d) lt) in
    drop-cons (enumerate_from 0 os) n (n, d) within ∙ rw (head, add-one) refl

weighs_more : (s : Side) (os : List Resting) (n weight order : ℕ) (d : Resting) → Weighs s os n weight → n < length os
    → order ≡ weight_of (place_of s os n (get_or os n d)) (get_or os n d) → Weighs s os (n + 1) ((weight + order) % 2 ^ 64)
weighs_more s os n weight order d h lt e =
    rw e (subst (λ ps. fold (with_order s os) weight ps ≡ side_weight s os) (left os n d lt) h)

-- one more order, whose place is that in a list that is the same
pub compared_more : (s : Side) (os list os' : List Resting) (n weight order : ℕ) (d : Resting) → Compared s os list n weight → n < length os → os ≡ os'
    → slice_get list (place_of s os' n (get_or os n d)) ≡ Some (get_or os n d) → order ≡ weight_of (place_of s os' n (get_or os n d)) (get_or os n d)
    → Compared s os list (n + 1) ((weight + order) % 2 ^ 64)
compared_more s os list os' n weight order d h lt same shown weighed = record {
  stand = stands_more s os list n d h.stand lt
      (subst (λ xs. slice_get list (place_of s xs n (get_or os n d)) ≡ Some (get_or os n d)) (sym same) shown);
  weigh = weighs_more s os n weight order d h.weigh lt
      (subst (λ xs. order ≡ weight_of (place_of s xs n (get_or os n d)) (get_or os n d)) (sym same) weighed);
}

pub weighs_all : (s : Side) (os : List Resting) (n weight : ℕ) → Weighs s os n weight → length os ≤ n → weight ≡ side_weight s os
weighs_all s os n weight h past =
    let none : drop n (enumerate_from 0 os) ≡ [] = drop_of_length-le (enumerate_from 0 os) (rw length-enumerate_from past) in
    subst (λ ps. fold (with_order s os) weight ps ≡ side_weight s os) none h

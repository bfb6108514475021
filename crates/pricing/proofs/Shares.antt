-- The averaging walk, share by share.
use Rattle.std.proofs.Common.{◌≡◌, ℕ, zero, suc, ◌+◌, ◌-◌, ◌*◌, ◌<◌, ◌≤◌, true, false, cond, leb, List, [], ◌∷◌, ◌++◌, length, get_or, take, replicate, Some, None, sum, Option, sym, ap, ◌∙◌, inl, inr, suc-mul, zero-add, arith}
use lib.Seq.{take-append-add}
use Rattle.std.proofs.lemmas.List.{length-append, length-replicate, take-append-le, take-replicate, get_or_append_left, get_or-append_right, get_or-replicate}
use Rattle.std.proofs.lemmas.List.Sums.{sum_by-cons, sum_by-append}
use Rattle.std.proofs.lemmas.Bool.{cases_Bool, cases_lt, and_parts, le-leb, leb-true, lt-leb}
use Rattle.std.proofs.lemmas.Bool.Decides.{nat_tests}
use Rattle.book.specs.declared.resting.Resting.{Resting}
use Rattle.pricing.specs.Counting.{counting}
use Rattle.pricing.specs.Walk.{covered, orderable, walked, shares, by_share}
use Rattle.pricing.specs.declared.records.Walked.{Walked}

sum_replicate : (n x : ℕ) → sum (replicate n x) ≡ n * x
sum_replicate zero x = sym (omega arith)
sum_replicate (suc n) x = sum_by-cons (λ y. y) x (replicate n x) ∙ omega (arith, sum_replicate n x, suc-mul n x)

-- so many shares of a list, upon a cost
abbrev first : (wanted cost : ℕ) → List ℕ → Option Walked
first w c ls = cond (leb w (length ls)) (Some (record { cost = c + sum (take w ls); last = get_or ls (w - 1) 0 })) None

module _ (v l : ℕ) (ls : List ℕ) (w c : ℕ) (some : 1 ≤ w) where
  long : length (replicate v l ++ ls) ≡ v + length ls
  long = simp (length-append, length-replicate)

  -- all of them at the first limit
  first_within : w ≤ v → first w c (replicate v l ++ ls) ≡ Some (record { cost = c + w * l; last = l })
  first_within h =
      let t : leb w (length (replicate v l ++ ls)) ≡ true = le-leb w _ (omega (arith, long)) in
      let few : w ≤ length (replicate v l) = omega (arith, length-replicate v l) in
      let cost : sum (take w (replicate v l ++ ls)) ≡ w * l = rw (take-append-le, take-replicate) (sum_replicate w l) in
      let last : get_or (replicate v l ++ ls) (w - 1) 0 ≡ l =
      get_or_append_left (replicate v l) ls 0 (w - 1) (omega arith) ∙ get_or-replicate v (w - 1) l 0 (omega arith) in
      rw (t, cost, last)

  -- v of them at the first limit
  first_past : v < w → first w c (replicate v l ++ ls) ≡ first (w - v) (c + v * l) ls
  first_past h =
      let t : leb w (length (replicate v l ++ ls)) ≡ leb (w - v) (length ls) = rw long (grind (arith, nat_tests)) in
      let split : w ≡ length (replicate v l) + (w - v) = omega (arith, length-replicate v l) in
      let front : take w (replicate v l ++ ls) ≡ replicate v l ++ take (w - v) ls =
      ap (λ n. take n (replicate v l ++ ls)) split ∙ take-append-add (replicate v l) ls (w - v) in
      let cost : c + sum (take w (replicate v l ++ ls)) ≡ c + v * l + sum (take (w - v) ls) =
      omega (arith, ap sum front, sum_by-append (λ x. x) (replicate v l) (take (w - v) ls), sum_replicate v l) in
      let last : get_or (replicate v l ++ ls) (w - 1) 0 ≡ get_or ls (w - v - 1) 0 =
      get_or-append_right (replicate v l) ls v (w - 1) 0 (length-replicate v l) (omega arith) ∙ ap (λ n. get_or ls n 0) (omega arith) in
      rw (t, cost, last)

covered_first : (os : List Resting) (w c : ℕ) → 1 ≤ w → covered w c os ≡ first w c (shares os)
covered_first [] w c some = let t : leb w 0 ≡ false = lt-leb w 0 some in sym (rw t)
covered_first (o ∷ os) w c some =
    elim (cases_lt o.volume w) [
      | inl h ↦
          let t : leb w o.volume ≡ false = lt-leb w o.volume h in
          let ih = covered_first os (w - o.volume) (c + o.volume * o.limit) (omega arith) in
          rw t (ih ∙ sym (first_past o.volume o.limit (shares os) w c some h))
      | inr h ↦
          let t : leb w o.volume ≡ true = le-leb w o.volume h in
          rw t (sym (first_within o.volume o.limit (shares os) w c some h))
    ]

pub walked_by_share : (q : ℕ) (os : List Resting) → walked q os ≡ by_share q (shares (counting os))
walked_by_share q os =
    elim (cases_Bool (orderable q)) [
      | inl t ↦
          let l = leb-true 1 q (and_parts (leb 1 q) (leb q 1000000) t).0 in
          rw t (covered_first (counting os) q 0 l ∙ rw zero-add)
      | inr t ↦ rw t
    ]

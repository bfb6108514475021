-- What the search for a key tells.
use Rattle.std.proofs.Common.{◌≡◌, ℕ, zero, suc, ◌+◌, ◌-◌, ◌≤◌, Bool, true, false, List, [], ◌∷◌, Some, None, inl, inr, arith}
use native.Mathlib.Nat.{sub-zero}
use Rattle.std.specs.List.{AllByRecursion}
use Rattle.std.proofs.lemmas.Bool.{cases_Bool}
use Rattle.std.specs.List.{position_from}

module _ {X : Type 0} (test : X → Bool) where
  -- the record at place k passes, and none before it
  abbrev pub Hits : List X → ℕ → Type 0
  Hits [] k = ⊥
  Hits (x ∷ xs) zero = test x ≡ true
  Hits (x ∷ xs) (suc k) = (test x ≡ false) × Hits xs k

  abbrev pub Misses : List X → Type 0
  Misses xs = AllByRecursion (λ x. test x ≡ false) xs

  hits_from : (i : ℕ) (xs : List X) (k : ℕ) → position_from test i xs ≡ Some k → (i ≤ k) × Hits xs (k - i)
  hits_from i [] k h = absurd (grind arith)
  hits_from i (x ∷ xs) k h =
      elim (cases_Bool (test x)) [
        | inl t ↦
            let e : Some i ≡ Some k = rw t at h in
            let same : k ≡ i = cc in
            let z : k - i ≡ 0 = omega arith in
            (omega arith, rw z t)
        | inr t ↦
            let ih = hits_from (i + 1) xs k (rw t at h) in
            let z : k - i ≡ suc (k - (i + 1)) = omega (arith, ih.0) in
            (omega (arith, ih.0), rw z (t, ih.1))
      ]

  misses_from : (i : ℕ) (xs : List X) → position_from test i xs ≡ None → Misses xs
  misses_from i [] h = tt
  misses_from i (x ∷ xs) h =
      elim (cases_Bool (test x)) [
        | inl t ↦ absurd (let e : Some i ≡ None = rw t at h in grind arith)
        | inr t ↦ (t, misses_from (i + 1) xs (rw t at h))
      ]

  pub place_hits : (xs : List X) (k : ℕ) → position_from test 0 xs ≡ Some k → Hits xs k
  place_hits xs k h = simp sub-zero at (hits_from 0 xs k h).1

  pub place_misses : (xs : List X) → position_from test 0 xs ≡ None → Misses xs
  place_misses xs h = misses_from 0 xs h

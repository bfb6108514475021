-- What is found of a member, by what the search for its place tells.
use Rattle.std.proofs.Common.{◌≡◌, ℕ, zero, suc, ◌+◌, Bool, true, cond, List, [], ◌∷◌, None, slice_get, find, count_by, refl, ap, ◌∙◌, inl, inr, arith}
use Rattle.std.proofs.lemmas.List.Sums.{sum_by-cons}
use Rattle.std.proofs.lemmas.Bool.{cases_Bool}
use Rattle.ordered.proofs.Finds.{Hits, Misses}

module _ {X : Type 0} (test : X → Bool) where
  pub found_there : (xs : List X) (i : ℕ) → Hits test xs i → find test xs ≡ slice_get xs i
  found_there [] i h = absurd h
  found_there (x ∷ xs) zero h = rw h
  found_there (x ∷ xs) (suc i) h = rw h.0 (found_there xs i h.1)

  pub counted : (x : X) (xs : List X) → count_by test (x ∷ xs) ≡ cond (test x) 1 0 + count_by test xs
  counted x xs = sum_by-cons (λ y. cond (test y) 1 0) x xs

  pub counted_one : (x : X) (xs : List X) → test x ≡ true → count_by test (x ∷ xs) ≡ 1 + count_by test xs
  counted_one x xs h = counted x xs ∙ ap (λ b. cond b 1 0 + count_by test xs) h

  pub found_none : (xs : List X) → count_by test xs ≡ 0 → find test xs ≡ None
  found_none [] h = refl
  found_none (x ∷ xs) h =
      elim (cases_Bool (test x)) [
        | inl t ↦ absurd (omega (arith, counted_one x xs t))
        | inr t ↦ rw t (found_none xs (omega (arith, counted x xs)))
      ]

  pub counted_nowhere : (xs : List X) → Misses test xs → count_by test xs ≡ 0
  counted_nowhere [] h = refl
  counted_nowhere (x ∷ xs) h = rw h.0 (counted_nowhere xs h.1)

  pub found_nowhere : (xs : List X) → Misses test xs → find test xs ≡ None
  found_nowhere xs h = found_none xs (counted_nowhere xs h)

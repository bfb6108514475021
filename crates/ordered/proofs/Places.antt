-- A record goes before the first that it is ahead of.
use Rattle.std.proofs.Common.{◌≡◌, ℕ, suc, ◌+◌, ◌≤◌, Bool, List, [], ◌∷◌, length, refl, ◌∙◌, ap, inl, inr, arith}
use Rattle.std.proofs.lemmas.Bool.{cases_Bool}
use Rattle.std.specs.List.{insert as inserted_at, position_from}
use Rattle.std.specs.Option.{unwrap_or}
use Rattle.ordered.specs.Order.{inserted}

module _ {X : Type 0} (ahead : X → X → Bool) (x : X) where
  -- the place k of x, where the list begins at place i and ends before n
  record Goes (i n : ℕ) (xs : List X) : Type 0 where
    k : ℕ
    found : unwrap_or (position_from (ahead x) i xs) n ≡ i + k
    within : k ≤ length xs
    is : inserted ahead x xs ≡ inserted_at xs k x

  goes : (i n : ℕ) (xs : List X) → n ≡ i + length xs → Goes i n xs
  goes i n [] e = record { k = 0; found = omega arith; within = omega arith; is = refl }
  goes i n (y ∷ ys) e =
      let ih = goes (i + 1) n ys (omega arith) in
      elim (cases_Bool (ahead x y)) [
        | inl t ↦ record { k = 0; found = rw t (omega arith); within = omega arith; is = rw t }
        | inr t ↦ record { k = suc ih.k; found = rw t (omega (arith, ih.found)); within = omega (arith, ih.within); is = rw (t, ih.is) }
      ]

  pub goes_within : (xs : List X) → unwrap_or (position_from (ahead x) 0 xs) (length xs) ≤ length xs
  goes_within xs = let g = goes 0 (length xs) xs (omega arith) in omega (arith, g.found, g.within)

  pub goes_before : (xs : List X) → inserted ahead x xs ≡ inserted_at xs (unwrap_or (position_from (ahead x) 0 xs) (length xs)) x
  goes_before xs =
      let g = goes 0 (length xs) xs (omega arith) in
      let same : g.k ≡ unwrap_or (position_from (ahead x) 0 xs) (length xs) = omega (arith, g.found) in
      g.is ∙ ap (λ k. inserted_at xs k x) same

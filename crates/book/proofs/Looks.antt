-- What looking at a place tells of a list.
use Rattle.std.proofs.Common.{◌≡◌, ℕ, zero, suc, ◌+◌, ◌<◌, ◌≤◌, List, [], ◌∷◌, length, get_or, drop, Some, None, Option, ap, ◌∙◌, inl, inr, arith, rules}
use Rattle.std.specs.Iterator.{item_count, MakesProgress, YieldsFirst}
use Rattle.std.specs.List.{slice_get}
use Rattle.std.proofs.lemmas.List.{drop_more}
use Rattle.std.proofs.lemmas.Option.{slice_get-get_or, slice_get_past}
use Rattle.std.proofs.lemmas.Bool.{cases_lt}

module _ {X : Type 0} (xs : List X) (i : ℕ) where
  pub within_looked : (x : X) → Some x ≡ slice_get xs i → i < length xs
  within_looked x e = elim (cases_lt i (length xs)) [ inl l ↦ l | inr p ↦ absurd (grind (arith, slice_get_past xs i p)) ]

  get_or_looked : (x : X) → Some x ≡ slice_get xs i → get_or xs i x ≡ x
  get_or_looked x e = let l = within_looked x e in grind (arith, slice_get-get_or xs i x l)

  -- a record that was looked at is the first of what is left from its place on
  pub drop_looked : (x : X) → Some x ≡ slice_get xs i → drop i xs ≡ x ∷ drop (i + 1) xs
  drop_looked x e = drop_more xs i x (within_looked x e) ∙ ap (λ y. y ∷ drop (i + 1) xs) (get_or_looked x e)

pub past_looked : {X : Type 0} (xs : List X) (i : ℕ) → None ≡ slice_get xs i → length xs ≤ i
past_looked [] i e = omega arith
past_looked (x ∷ xs) zero e = absurd (grind arith)
past_looked (x ∷ xs) (suc i) e = let ih = past_looked xs i e in omega arith

-- an iterator that gives the first of what is left comes to its end
pub makes_progress : {S X : Type 0} (rest : S → List X) (s : S) (r : Option X) (t : S) → YieldsFirst rest s r t → MakesProgress (λ (_ : S). Unit {0}) (item_count rest) s r t
makes_progress rest s None t h = search rules
makes_progress rest s (Some x) t h = let e = ap length h in search rules

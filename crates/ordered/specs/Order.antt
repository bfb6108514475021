-- Lists in the order of a test `ahead`, a record put into its place, one taken out, and one found.
use Rattle.std.specs.Prelude.{◌≡◌, ℕ, ◌+◌, ◌-◌, Bool, true, cond, not, ◌&&◌, List, [], ◌∷◌, ◌++◌, length, take, drop, Some, None, filter, Option, nat_le, nat_lt}
use Rattle.std.specs.List.{remove}

-- before the first that x is ahead of
abbrev pub inserted : {X : Type 0} → (X → X → Bool) → X → List X → List X
inserted ahead x [] = x ∷ []
inserted ahead x (y ∷ ys) = cond (ahead x y) (x ∷ y ∷ ys) (y ∷ inserted ahead x ys)

-- none of the list is ahead of x
abbrev pub none_ahead : {X : Type 0} → (X → X → Bool) → X → List X → Bool
none_ahead ahead x [] = true
none_ahead ahead x (y ∷ ys) = not (ahead y x) && none_ahead ahead x ys

-- no later one is ahead of an earlier one
abbrev pub in_order : {X : Type 0} → (X → X → Bool) → List X → Bool
in_order ahead [] = true
in_order ahead (x ∷ xs) = none_ahead ahead x xs && in_order ahead xs

abbrev pub InOrder : {X : Type 0} → (X → X → Bool) → List X → Type 0
InOrder ahead xs = in_order ahead xs ≡ true

abbrev pub InsertionKeepsOrder : {X : Type 0} → (X → X → Bool) → Type 0
InsertionKeepsOrder {X} ahead = (x : X) (xs : List X) → InOrder ahead xs → InOrder ahead (inserted ahead x xs)

-- in front of x is what it is not ahead of, its equals too, and behind x what it is ahead of
abbrev pub InsertionGoesBehindEquals : {X : Type 0} → (X → X → Bool) → Type 0
InsertionGoesBehindEquals {X} ahead =
    (x : X) (xs : List X) → InOrder ahead xs → inserted ahead x xs ≡ filter (λ y. not (ahead x y)) xs ++ x ∷ filter (ahead x) xs

-- Of a slice, the first `used` places are the list that is kept; the rest is spare.

-- whether a place is spare, and the count with one more
abbrev pub inserts : (used room : ℕ) → Option ℕ
inserts used room = cond (nat_lt used room) (Some (used + 1)) None

-- the list with x in its place, one spare place less, the others as they were
abbrev pub with_inserted : {X : Type 0} → (X → X → Bool) → X → (used : ℕ) → List X → List X
with_inserted ahead x used slots =
    cond (nat_lt used (length slots)) (inserted ahead x (take used slots) ++ drop (used + 1) slots) slots

-- whether the place is one of the list's, and the count with one less
abbrev pub taking : (used place room : ℕ) → Bool
taking used place room = nat_lt place used && nat_le used room

abbrev pub takes_out : (used place room : ℕ) → Option ℕ
takes_out used place room = cond (taking used place room) (Some (used - 1)) None

-- the list without that record; its last place stays as it was and is spare now, and the others are as they were
abbrev pub with_taken_out : {X : Type 0} → (used place : ℕ) → List X → List X
with_taken_out used place slots =
    cond (taking used place (length slots)) (remove (take used slots) place ++ drop (used - 1) slots) slots

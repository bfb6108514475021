-- One side of the plain book: its orders as they came, each of which finds its place by counting.
use Rattle.std.specs.Prelude.{ℕ, Bool, true, false, cond, not, ◌&&◌, ◌==◌, nat_lt, List, [], ◌∷◌, ◌++◌, map, filter, min, remove, slice_set, Some, None, Ok, Err, Option, Result}
use Rattle.std.specs.List.{count_by, enumerate_from, find, reduce}
use Rattle.std.specs.Option.{option_map}
use Rattle.book.specs.Lists.{fits, has_room, lowered}
use Rattle.book.specs.Priority.{ahead}
use Rattle.book.specs.declared.fault.Fault.{Fault}
use Rattle.book.specs.declared.fault.Fault.TheVariants.{Range, Unknown}
use Rattle.book.specs.declared.resting.Resting.{Resting}
use Rattle.book.specs.declared.side.Side.{Side}

-- by priority; of two that are equal in it, the earlier does
abbrev pub goes_before : Side → (order other : Resting) → (earlier : Bool) → Bool
goes_before s a b earlier = cond (ahead s a b) true (cond (ahead s b a) false earlier)

-- how many orders go before the one that came as number `came`
abbrev pub place_of : Side → List Resting → (came : ℕ) → Resting → ℕ
place_of s os came o = count_by (λ p. not (p.0 == came) && goes_before s p.1 o (nat_lt p.0 came)) (enumerate_from 0 os)

-- the order at a place, with when it came
abbrev pub arrival_at : Side → (place : ℕ) → List Resting → Option (ℕ × Resting)
arrival_at s place os = find (λ p. place_of s os p.0 p.1 == place) (enumerate_from 0 os)

-- the order at place 0
abbrev pub first_on : Side → List Resting → Option Resting
first_on s os = option_map (λ p. p.1) (arrival_at s 0 os)

-- the first place of a number
abbrev pub place_on : Side → (number : ℕ) → List Resting → Option ℕ
place_on s n os = reduce min (map (λ p. place_of s os p.0 p.1) (filter (λ p. p.1.number == n) (enumerate_from 0 os)))

-- Enter: behind all that came before, unless the side is full.
abbrev pub arrived : Resting → List Resting → List Resting
arrived o os = cond (has_room os) (os ++ o ∷ []) os

-- Take: from the order at place 0, which is dropped when none is left of it.
abbrev pub takes_from : (volume : ℕ) → Option (ℕ × Resting) → Result Unit Fault
takes_from v None = Err Range
takes_from v (Some p) = cond (fits v p.1) (Ok tt) (Err Range)

abbrev pub taken_from : (volume : ℕ) → Option (ℕ × Resting) → List Resting → List Resting
taken_from v None os = os
taken_from v (Some p) os = cond (fits v p.1) (cond (v == p.1.volume) (remove os p.0) (slice_set os p.0 (lowered v p.1))) os

-- Remove: the order at a place, and its volume is answered.
abbrev pub volume_from : Option (ℕ × Resting) → Result ℕ Fault
volume_from None = Err Unknown
volume_from (Some p) = Ok p.1.volume

abbrev pub removed_from : Option (ℕ × Resting) → List Resting → List Resting
removed_from None os = os
removed_from (Some p) os = remove os p.0

-- How much room a list has once orders are entered.
use Rattle.std.proofs.Common.{◌≡◌, ℕ, ◌+◌, Bool, List, [], ◌∷◌, length, nat_lt, refl, Err, arith}
use Rattle.std.proofs.lemmas.Bool.Decides.{nat_tests}
use Rattle.ordered.specs.Order.{inserted}
use Rattle.book.specs.Priority.{ahead}
use Rattle.book.specs.Lists.{entered, enters}
use Rattle.book.specs.declared.fault.Fault.{Fault}
use Rattle.book.specs.declared.resting.Resting.{Resting}
use Rattle.book.specs.declared.side.Side.{Side}
use Rattle.worked_fill.specs.Sample.{enters_sample}

length-inserted : {X : Type 0} (goes : X → X → Bool) (x : X) (xs : List X) → length (inserted goes x xs) ≡ length xs + 1
length-inserted goes x [] = refl
length-inserted goes x (y ∷ ys) = let before = length-inserted goes x ys in grind arith

-- one order more leaves one place less, and a full list full
less_room : (s : Side) (o : Resting) (os : List Resting) (n : ℕ) → nat_lt (length (entered s o os) + n) 128 ≡ nat_lt (length os + (n + 1)) 128
less_room s o os n = grind (arith, nat_tests, length-inserted (ahead s) o os)

-- all three fit or not: by the answer to the third, and by a refusal of the second
pub room_for_three : (s : Side) (a b : Resting) (os : List Resting) → enters (entered s b (entered s a os)) ≡ enters_sample os
room_for_three s a b os = grind (arith, nat_tests, less_room s a os 1, less_room s b (entered s a os) 0)

pub full_for_three : (s : Side) (a : Resting) (os : List Resting) (e : Fault) → enters (entered s a os) ≡ Err e → Err e ≡ enters_sample os
full_for_three s a os e full = grind (arith, nat_tests, less_room s a os 0)

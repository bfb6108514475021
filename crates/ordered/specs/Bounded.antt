-- The list that a list in fixed memory stands for.
use Rattle.std.specs.Prelude.{ℕ, Bool, cond, List, length, take, Ok, Err, Result, nat_lt}
use Rattle.ordered.specs.declared.bounded.BoundedList.{BoundedList}
use Rattle.ordered.specs.declared.bounded.NoRoom.{NoRoom}

abbrev pub items : {T : Type 0} {n : ℕ} → BoundedList T n → List T
items b = take b.used b.slots

abbrev pub has_room : {T : Type 0} → (capacity : ℕ) → List T → Bool
has_room capacity xs = nat_lt (length xs) capacity

-- whether one more can be put in
abbrev pub insertion : {T : Type 0} → (capacity : ℕ) → List T → Result Unit NoRoom
insertion capacity xs = cond (has_room capacity xs) (Ok tt) (Err (record {}))

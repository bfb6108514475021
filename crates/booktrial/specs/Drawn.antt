-- The numbers and the calls that a trial draws.
use Rattle.std.specs.Prelude.{◌≡◌, ℕ, zero, suc, ◌+◌, ◌*◌, ◌/◌, ◌%◌, ◌^◌, max, cond, not, ◌==◌, nat_lt, Option, ⊤}
use Rattle.std.specs.Option.{option_map_or}
use Rattle.book.specs.declared.resting.Resting.{Resting}
use Rattle.book.specs.declared.side.Side.{Side}
use Rattle.book.specs.declared.side.Side.TheVariants.{Bid, Ask}
use Rattle.booktrial.specs.Arrivals.{first_on}
use Rattle.booktrial.specs.Calls.{Lists, side_of}
use Rattle.booktrial.specs.declared.call.Call.{Call}
use Rattle.booktrial.specs.declared.call.Call.TheVariants.{Enter, Take, Remove, Find}
use Rattle.booktrial.specs.declared.draw.Phase.{Phase}
use Rattle.booktrial.specs.declared.draw.Phase.TheVariants.{Orders, Calls}

-- a linear congruence in 64 bits
abbrev pub stepped : ℕ → ℕ
stepped state = (state * 6364136223846793005 % 2 ^ 64 + 1442695040888963407) % 2 ^ 64

-- its upper 31 bits, below the end
abbrev pub below : (end state : ℕ) → ℕ
below end state = stepped state / 2 ^ 33 % max end 1

-- the state after so many numbers
abbrev pub after_steps : (numbers state : ℕ) → ℕ
after_steps zero state = state
after_steps (suc n) state = stepped (after_steps n state)

abbrev pub side_drawn : (state : ℕ) → Side
side_drawn state = cond (below 2 state == 0) Bid Ask

abbrev pub order_drawn : (state : ℕ) → Resting
order_drawn state = record {
  number = below 40 state + 1;
  member = 40;
  limit = (below 12 (after_steps 1 state) + 5430) * 10;
  volume = below 500 (after_steps 2 state) + 1;
  visible = not (below 3 (after_steps 3 state) == 0);
}

-- one time in eight nothing, and else one time in three all of the first order
abbrev pub volume_drawn : (first : Option Resting) → (state : ℕ) → ℕ
volume_drawn first state =
    cond (below 8 (after_steps 2 state) == 0) 0
    (cond (below 3 (after_steps 1 state) == 0) (option_map_or (λ o. o.volume) first (below 600 state)) (below 600 state))

-- a call, and the state after it was drawn
pub record Drawn : Type 0 where
  pub call : Call
  pub state : ℕ

abbrev pub enter_drawn : (state : ℕ) → Drawn
enter_drawn state = record { call = Enter (side_drawn state) (order_drawn (stepped state)); state = after_steps 5 state }

abbrev pub take_drawn : Side → (plain : Lists) → (state : ℕ) → Drawn
take_drawn s plain state = record { call = Take s (volume_drawn (first_on s (side_of s plain)) state); state = after_steps 3 state }

-- of ten kinds four enter, and two each take, remove and find
abbrev pub kind_drawn : (kind : ℕ) → (plain : Lists) → (state : ℕ) → Drawn
kind_drawn kind plain state =
    cond (nat_lt kind 4) (enter_drawn state)
    (cond (nat_lt kind 6) (take_drawn (side_drawn state) plain (stepped state))
    (cond (nat_lt kind 8) (record { call = Remove (below 50 state); state = stepped state })
    (record { call = Find (below 50 state); state = stepped state })))

abbrev pub any_drawn : (plain : Lists) → (state : ℕ) → Drawn
any_drawn plain state = kind_drawn (below 10 state) plain (stepped state)

abbrev pub drawn : Phase → (plain : Lists) → (state : ℕ) → Drawn
drawn Orders plain state = enter_drawn state
drawn Calls plain state = any_drawn plain state

abbrev pub IsEnter : Call → Type 0
IsEnter call = (s : Side) × (o : Resting) × (call ≡ Enter s o)

abbrev pub IsTakeFrom : Side → Call → Type 0
IsTakeFrom s call = (v : ℕ) × (call ≡ Take s v)

-- orders alone, or any calls
abbrev pub MayDraw : Phase → Call → Type 0
MayDraw Orders call = IsEnter call
MayDraw Calls call = ⊤

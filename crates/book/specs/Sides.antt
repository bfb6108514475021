-- The two sides of a book, and what each finds better.
use Rattle.std.specs.Prelude.{ℕ, Bool, cond, Some, None, Option, Result, ◌==◌, nat_le, nat_lt}
use Rattle.std.specs.Option.{ok_or}
use Rattle.book.specs.declared.side.Side.{Side}
use Rattle.book.specs.declared.side.Side.TheVariants.{Bid, Ask}
use Rattle.book.specs.declared.side.UnknownSide.{UnknownSide}

-- as a field tells it: 0 the bids, 1 the asks
abbrev pub sided : ℕ → Side
sided n = cond (n == 0) Bid Ask

abbrev pub numbered : ℕ → Option Side
numbered n = cond (nat_le n 1) (Some (sided n)) None

-- any other number is handed back
abbrev pub told : ℕ → Result Side UnknownSide
told n = ok_or (numbered n) (record { 0 = n })

abbrev pub opposite : Side → Side
opposite Bid = Ask
opposite Ask = Bid

-- of what is given for bids and for asks, a side's own
abbrev pub on : {A : Type 0} → Side → A → A → A
on Bid bids asks = bids
on Ask bids asks = asks

-- strictly better on a side: a higher bid, a lower ask
abbrev pub better : Side → ℕ → ℕ → Bool
better Bid m n = nat_lt n m
better Ask m n = nat_lt m n

-- a limit that stands at a price or better
abbrev pub reaches : Side → ℕ → ℕ → Bool
reaches Bid limit price = nat_le price limit
reaches Ask limit price = nat_le limit price

-- What each call of a book answers, and what it makes of a side's list.
use Rattle.std.specs.Prelude.{ℕ, ◌-◌, Bool, cond, ◌&&◌, List, [], ◌∷◌, length, Some, None, Ok, Err, Option, Result, ◌==◌, nat_le, nat_lt}
use Rattle.std.specs.List.{position_from, remove, slice_get}
use Rattle.ordered.specs.Order.{inserted}
use Rattle.book.specs.Priority.{ahead}
use Rattle.book.specs.Sides.{on}
use Rattle.book.specs.declared.fault.Fault.{Fault}
use Rattle.book.specs.declared.fault.Fault.TheVariants.{Range, Full, Unknown}
use Rattle.book.specs.declared.resting.Resting.{Resting}
use Rattle.book.specs.declared.side.Side.{Side}
use Rattle.book.specs.declared.side.Side.TheVariants.{Bid, Ask}
use Rattle.book.specs.declared.whole.Position.{Position}

-- how many orders a side can hold
abbrev pub capacity : ℕ
capacity = 128

abbrev pub has_room : List Resting → Bool
has_room os = nat_lt (length os) capacity

-- Enter: before the first order that it is ahead of, so in a list in order behind any that is equal, unless the side is full.
abbrev pub enters : List Resting → Result Unit Fault
enters os = cond (has_room os) (Ok tt) (Err Full)

abbrev pub entered : Side → Resting → List Resting → List Resting
entered s o os = cond (has_room os) (inserted (ahead s) o os) os

-- Take: a volume from the first order, from 1 to its own; the order leaves when none is left of it.
abbrev pub fits : ℕ → Resting → Bool
fits v o = nat_le 1 v && nat_le v o.volume

abbrev pub lowered : ℕ → Resting → Resting
lowered v o = record { number = o.number; member = o.member; limit = o.limit; volume = o.volume - v; visible = o.visible }

abbrev pub takes : ℕ → List Resting → Result Unit Fault
takes v [] = Err Range
takes v (o ∷ os) = cond (fits v o) (Ok tt) (Err Range)

abbrev pub taken : ℕ → List Resting → List Resting
taken v [] = []
taken v (o ∷ os) = cond (fits v o) (cond (v == o.volume) os (lowered v o ∷ os)) (o ∷ os)

-- Find: the first place of a number, where the list begins at place i; bids before asks.
abbrev pub has_number : ℕ → Resting → Bool
has_number n o = o.number == n

abbrev pub placed : (number i : ℕ) → List Resting → Option ℕ
placed n i os = position_from (has_number n) i os

abbrev pub position : (bid ask : Option ℕ) → Result Position Fault
position (Some i) ask = Ok (record { side = Bid; place = i })
position None (Some i) = Ok (record { side = Ask; place = i })
position None None = Err Unknown

abbrev pub found : ℕ → (bids asks : List Resting) → Result Position Fault
found n bids asks = position (placed n 0 bids) (placed n 0 asks)

-- Remove: the order that find tells leaves its list, and its volume is answered.
abbrev pub volume_of : Option Resting → Result ℕ Fault
volume_of None = Err Unknown
volume_of (Some o) = Ok o.volume

abbrev pub volume_at : Result Position Fault → (bids asks : List Resting) → Result ℕ Fault
volume_at (Err e) bids asks = Err e
volume_at (Ok p) bids asks = volume_of (slice_get (on p.side bids asks) p.place)

abbrev pub bids_less : Result Position Fault → List Resting → List Resting
bids_less (Err e) bids = bids
bids_less (Ok p) bids = on p.side (remove bids p.place) bids

abbrev pub asks_less : Result Position Fault → List Resting → List Resting
asks_less (Err e) asks = asks
asks_less (Ok p) asks = on p.side asks (remove asks p.place)

abbrev pub removes : ℕ → (bids asks : List Resting) → Result ℕ Fault
removes n bids asks = volume_at (found n bids asks) bids asks

abbrev pub bids_without : ℕ → (bids asks : List Resting) → List Resting
bids_without n bids asks = bids_less (found n bids asks) bids

abbrev pub asks_without : ℕ → (bids asks : List Resting) → List Resting
asks_without n bids asks = asks_less (found n bids asks) asks

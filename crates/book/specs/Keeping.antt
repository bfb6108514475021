-- What the calls keep: of lists in priority order their order, and of an order all but its volume. And what find tells.
use Rattle.std.specs.Prelude.{◌≡◌, ℕ, ◌⊎◌, List, map, take, drop, Some, Ok, Err, ◌≢◌}
use Rattle.std.specs.Option.{option_map}
use Rattle.std.specs.List.{remove, AllByRecursion, slice_get}
use Rattle.ordered.specs.Order.{InOrder}
use Rattle.book.specs.Lists.{asks_without, bids_without, entered, found, removes, taken}
use Rattle.book.specs.Priority.{ahead}
use Rattle.book.specs.Sides.{on}
use Rattle.book.specs.declared.fault.Fault.{Fault}
use Rattle.book.specs.declared.fault.Fault.TheVariants.{Unknown}
use Rattle.book.specs.declared.resting.Resting.{Resting}
use Rattle.book.specs.declared.side.Side.{Side}
use Rattle.book.specs.declared.side.Side.TheVariants.{Bid, Ask}
use Rattle.book.specs.declared.whole.Position.{Position}

-- whatever the record, the volume and the number
pub record CallsKeepOrder : Type 0 where
  pub entering : (s : Side) (o : Resting) (os : List Resting) → InOrder (ahead s) os → InOrder (ahead s) (entered s o os)
  pub taking : (s : Side) (v : ℕ) (os : List Resting) → InOrder (ahead s) os → InOrder (ahead s) (taken v os)
  pub removing_bids : (n : ℕ) (bids asks : List Resting) → InOrder (ahead Bid) bids → InOrder (ahead Bid) (bids_without n bids asks)
  pub removing_asks : (n : ℕ) (bids asks : List Resting) → InOrder (ahead Ask) asks → InOrder (ahead Ask) (asks_without n bids asks)

-- the list as it was, or without one order
abbrev pub OneLess : (before after : List Resting) → Type 0
OneLess before after = (after ≡ before) ⊎ ((i : ℕ) × (after ≡ remove before i))

-- no order of the list has the number
abbrev pub NoneHas : ℕ → List Resting → Type 0
NoneHas n os = AllByRecursion (λ o. o.number ≢ n) os

-- an order but for its volume
abbrev pub face : Resting → Resting
face o = record { number = o.number; member = o.member; limit = o.limit; volume = 0; visible = o.visible }

-- taking leaves the first order its number, member, limit and mark, or drops it, and the others as they were;
-- removing drops one order at most
pub record CallsKeepFaces : Type 0 where
  pub taking : (v : ℕ) (os : List Resting)
      → ((map face (taken v os) ≡ map face os) × (drop 1 (taken v os) ≡ drop 1 os)) ⊎ (taken v os ≡ drop 1 os)
  pub removing_bids : (n : ℕ) (bids asks : List Resting) → OneLess bids (bids_without n bids asks)
  pub removing_asks : (n : ℕ) (bids asks : List Resting) → OneLess asks (asks_without n bids asks)

-- find tells the first order of the number, bids before asks, and refuses exactly where no order has it; remove refuses where find does
pub record FindIsExact : Type 0 where
  pub told : (n : ℕ) (bids asks : List Resting) (p : Position) → found n bids asks ≡ Ok p
      → option_map (λ o. o.number) (slice_get (on p.side bids asks) p.place) ≡ Some n
  pub first : (n : ℕ) (bids asks : List Resting) (p : Position) → found n bids asks ≡ Ok p
      → NoneHas n (take p.place (on p.side bids asks)) × (p.side ≡ Ask → NoneHas n bids)
  pub refused : (n : ℕ) (bids asks : List Resting) (e : Fault) → found n bids asks ≡ Err e → (e ≡ Unknown) × NoneHas n bids × NoneHas n asks
  pub removing : (n : ℕ) (bids asks : List Resting) (e : Fault) → removes n bids asks ≡ Err e → found n bids asks ≡ Err e

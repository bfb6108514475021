-- The rounded average, the price of a quote, and both of an order against a list.
use Rattle.std.specs.Prelude.{ℕ, ◌+◌, ◌-◌, ◌*◌, ◌/◌, ◌<◌, ◌≤◌, cond, List, Some, None, Option, nat_le}
use Rattle.std.specs.Option.{option_map}
use Rattle.book.specs.declared.resting.Resting.{Resting}
use Rattle.book.specs.declared.side.Side.{Side}
use Rattle.book.specs.declared.side.Side.TheVariants.{Bid, Ask}
use Rattle.pricing.specs.Walk.{walked}
use Rattle.pricing.specs.declared.records.Quotation.{Quotation}
use Rattle.pricing.specs.declared.records.Walked.{Walked}

-- cost divided by shares, to the nearest whole number, a half upwards
abbrev pub rounded : (cost q : ℕ) → ℕ
rounded cost q = (2 * cost + q) / (2 * q)

-- a price is from 1 on
abbrev pub from_one : ℕ → Option ℕ
from_one p = cond (nat_le 1 p) (Some p) None

-- by the side of the quote: an ask quote is below the average, a bid quote above it (a difference stops at 0)
abbrev pub quoted : Side → (average relative : ℕ) → Option ℕ
quoted Ask average relative = from_one (average - relative)
quoted Bid average relative = from_one (average + relative)

abbrev pub quotation : Side → (q relative : ℕ) → Walked → Quotation
quotation s q relative w = record {
  cost = w.cost;
  last = w.last;
  average = rounded w.cost q;
  price = quoted s (rounded w.cost q) relative;
}

-- an order of q shares against the list of side s, with a quote of that side
abbrev pub priced : Side → (q relative : ℕ) → List Resting → Option Quotation
priced s q relative os = option_map (quotation s q relative) (walked q os)

-- The rounded average is within half a thousandth of cost divided by shares, and exactly a half only above it.
abbrev pub Nearest : (cost q average : ℕ) → Type 0
Nearest cost q average = (2 * (average * q) ≤ 2 * cost + q) × (2 * cost < 2 * (average * q) + q)

-- A price for q shares beats what they cost over the orders that count by at least half a thousandth a share: below it for an ask quote,
-- at which the customer buys, above it for a bid quote. A price below 1 is none.
abbrev pub BeatsTheCost : Side → (cost q : ℕ) → Option ℕ → Type 0
BeatsTheCost s cost q None = Unit {0}
BeatsTheCost Ask cost q (Some p) = (2 * p + 1) * q ≤ 2 * cost
BeatsTheCost Bid cost q (Some p) = 2 * cost ≤ (2 * p - 1) * q

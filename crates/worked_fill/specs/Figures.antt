-- What a buying customer's order comes to.
use Rattle.std.specs.Prelude.{ℕ, ◌-◌, ◌*◌, ◌/◌, if◌then◌else◌, List, Option, Some, None, Result, Ok, Err, nat_le}
use Rattle.book.specs.declared.resting.Resting.{Resting}
use Rattle.book.specs.declared.side.Side.TheVariants.{Ask}
use Rattle.pricing.specs.Price.{priced}
use Rattle.pricing.specs.declared.records.Quotation.{Quotation}
use Rattle.worked_fill.specs.declared.figures.Fill.{Fill}
use Rattle.worked_fill.specs.declared.figures.NoFill.{NoFill}
use Rattle.worked_fill.specs.declared.figures.NoFill.TheVariants.{NoAverage, NoPrice, NoGain}

abbrev pub figures : (volume relative : ℕ) → Quotation → (price : ℕ) → Fill
figures q r t p = record {
  volume = q;
  relative = r;
  cost = t.cost;
  last = t.last;
  exact = t.cost * 10 / q;
  average = t.average;
  price = p;
  gain = t.cost - p * q;
}

-- at a price, which must not be worse than the book
abbrev pub filled_at : (volume relative : ℕ) → Quotation → Option ℕ → Result Fill NoFill
filled_at q r t None = Err NoPrice
filled_at q r t (Some p) = if nat_le (p * q) t.cost then Ok (figures q r t p) else Err NoGain

abbrev pub filled_by : (volume relative : ℕ) → Option Quotation → Result Fill NoFill
filled_by q r None = Err NoAverage
filled_by q r (Some t) = filled_at q r t t.price

-- against a list of asks
abbrev pub filled : (volume relative : ℕ) → List Resting → Result Fill NoFill
filled q r asks = filled_by q r (priced Ask q r asks)

-- What the orders that were compared weigh.
use Rattle.std.specs.Prelude.{ℕ, ◌+◌, ◌*◌, ◌%◌, ◌^◌, List, fold}
use Rattle.std.specs.List.{enumerate_from}
use Rattle.book.specs.declared.resting.Resting.{Resting}
use Rattle.book.specs.declared.side.Side.{Side}
use Rattle.book.specs.declared.side.Side.TheVariants.{Bid, Ask}
use Rattle.booktrial.specs.Arrivals.{place_of}
use Rattle.booktrial.specs.Calls.{Lists}

-- in 64 bits: the place, from 1, times the number times the volume of an order
abbrev pub weight_of : (place : ℕ) → Resting → ℕ
weight_of place o = (o.number * o.volume % 2 ^ 64) * ((place + 1) % 2 ^ 64) % 2 ^ 64

-- the weight so far, and that of an order that came
abbrev pub with_order : Side → List Resting → (weight : ℕ) → ℕ × Resting → ℕ
with_order s os weight p = (weight + weight_of (place_of s os p.0 p.1) p.1) % 2 ^ 64

abbrev pub side_weight : Side → List Resting → ℕ
side_weight s os = fold (with_order s os) 0 (enumerate_from 0 os)

abbrev pub book_weight : Lists → ℕ
book_weight b = (side_weight Bid b.bids + side_weight Ask b.asks) % 2 ^ 64

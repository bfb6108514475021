-- The number, the layer and the place of each fault of the quotes.
use Rattle.std.specs.Prelude.{ℕ}
use Rattle.book.specs.declared.fault.Code.{Code}
use Rattle.quotes.specs.declared.fault.Fault.{Fault}
use Rattle.quotes.specs.declared.fault.Fault.TheVariants.{Range, NoSide}
use Rattle.quotes.specs.declared.fault.Field.{Field}
use Rattle.quotes.specs.declared.fault.Field.TheVariants.{Executor, Side, Relative, Boundary, Size, Reserve}

abbrev pub place_of : Field → ℕ
place_of Executor = 1
place_of Side = 2
place_of Relative = 3
place_of Boundary = 4
place_of Size = 5
place_of Reserve = 6

abbrev of_quotes : (number place : ℕ) → Code
of_quotes n p = record { number = n; layer = 2; place = p }

abbrev pub coded : Fault → Code
coded (Range f) = of_quotes 1 (place_of f)
coded NoSide = of_quotes 11 0

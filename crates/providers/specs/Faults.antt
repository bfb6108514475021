-- The number, the layer and the place of each fault of the providers.
use Rattle.std.specs.Prelude.{ℕ}
use Rattle.book.specs.declared.fault.Code.{Code}
use Rattle.providers.specs.declared.fault.Fault.{Fault}
use Rattle.providers.specs.declared.fault.Fault.TheVariants.{Range, Full}
use Rattle.providers.specs.declared.fault.Field.{Field}
use Rattle.providers.specs.declared.fault.Field.TheVariants.{Member, Agreements, Default}

-- fields are counted from 1 in the order in which they are sent
abbrev pub place_of : Field → ℕ
place_of Member = 1
place_of Agreements = 2
place_of Default = 3

abbrev pub coded : Fault → Code
coded (Range f) = record { number = 1; layer = 3; place = place_of f }
coded Full = record { number = 12; layer = 3; place = 0 }

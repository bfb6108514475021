-- The number, the layer and the place of each fault of a book.
use Rattle.std.specs.Prelude.{ℕ, List, ◌++◌, codes, decimal}
use Rattle.book.specs.declared.fault.Code.{Code}
use Rattle.book.specs.declared.fault.Fault.{Fault}
use Rattle.book.specs.declared.fault.Fault.TheVariants.{Range, Full, Unknown}

abbrev of_book : ℕ → Code
of_book n = record { number = n; layer = 4; place = 0 }

abbrev pub coded : Fault → Code
coded Range = of_book 1
coded Full = of_book 8
coded Unknown = of_book 9

-- as it is written
abbrev pub code_text : Code → List ℕ
code_text c = codes "refused " ++ decimal c.number ++ codes ", layer " ++ decimal c.layer ++ codes ", place " ++ decimal c.place

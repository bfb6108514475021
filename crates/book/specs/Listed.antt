-- The list of one side of any book.
use Rattle.std.specs.Prelude.{List}
use Rattle.book.specs.Sides.{on}
use Rattle.book.specs.declared.read.ReadBook.{Ghosts}
use Rattle.book.specs.declared.resting.Resting.{Resting}
use Rattle.book.specs.declared.side.Side.{Side}

abbrev pub listed : {B : Type 0} → Ghosts B → Side → B → List Resting
listed book side b = on side (book.bids b) (book.asks b)

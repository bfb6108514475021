-- What an iterator over a side has still to give.
use Rattle.std.specs.Prelude.{List, drop}
use Rattle.book.specs.Listed.{listed}
use Rattle.book.specs.declared.orders.Orders.{Orders}
use Rattle.book.specs.declared.read.ReadBook.{Ghosts}
use Rattle.book.specs.declared.resting.Resting.{Resting}

abbrev pub left : {B : Type 0} → (book : Ghosts B) → Orders B book → List Resting
left book s = drop s.place (listed book s.side s.book.now)

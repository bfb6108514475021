use Rattle.std.specs.Fmt.{IsPlainFormatter}
use Rattle.book.specs.Reading.{left}
use Rattle.worked_fill.proofs.Writing.{Writing}
use Rattle.worked_fill.specs.Text.{asks_text}
use Rattle.worked_fill.proofs.listing.write_asks.Given as goal

abbrev pub invariant-loop-order : goal.invariant-loop-order
invariant-loop-order g l =
    IsPlainFormatter l.initial.f
    → Writing g.W.Write.write_str_gives l.initial.f (asks_text l.hidden (g.B.ReadBook.asks l.book)) (asks_text l.hidden (left g.B.ReadBook l.order-iterator)) l.f

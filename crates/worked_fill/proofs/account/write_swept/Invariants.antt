use Rattle.std.specs.Fmt.{IsPlainFormatter}
use Rattle.book.specs.Reading.{left}
use Rattle.worked_fill.proofs.Writing.{Writing}
use Rattle.worked_fill.specs.Text.{swept_text}
use Rattle.worked_fill.proofs.account.write_swept.Given as goal

abbrev pub invariant-loop-ask : goal.invariant-loop-ask
invariant-loop-ask g l =
    IsPlainFormatter l.initial.f
    → Writing g.W.Write.write_str_gives l.initial.f (swept_text l.price (g.B.ReadBook.asks l.book)) (swept_text l.price (left g.B.ReadBook l.ask-iterator)) l.f

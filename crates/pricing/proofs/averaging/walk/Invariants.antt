use Rattle.book.specs.Listed.{listed}
use Rattle.book.specs.Reading.{left}
use Rattle.pricing.proofs.Walks.{Walking}
use Rattle.pricing.proofs.averaging.walk.Given as goal

abbrev pub invariant-loop-order : goal.invariant-loop-order
invariant-loop-order g l =
    Walking l.volume (listed g.B.ReadBook l.fn.side l.book) l.wanted l.cost (left g.B.ReadBook l.order-iterator)

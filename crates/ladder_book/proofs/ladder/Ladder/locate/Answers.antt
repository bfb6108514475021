use Rattle.std.proofs.Common.{arith}
use Rattle.ladder_book.proofs.Seats.{located, located_past}
use Rattle.ladder_book.proofs.ladder.Ladder.locate.Goals as goal

pub returns-then-steps-size : goal.returns-then-steps-size
returns-then-steps-size c =
    let a = c.along.ensures in
    located c.args.self.now c.loop-level.level c.loop-level.steps c.args.place c.along.result c.loop-level.invariant (omega arith)
    a.sits a.level a.passed (rw c.as_slice-levels.ensures at c.if-steps-size.true)

pub returns : goal.returns
returns c = located_past c.args.self.now c.loop-level.level c.loop-level.steps c.args.place (omega arith) c.loop-level.invariant

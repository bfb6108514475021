use Rattle.ladder_book.proofs.Walks.{goes_on, stands, walked}
use Rattle.ladder_book.proofs.walk.WalkIterator.next.Goals as goal

pub returns-clause-steps : goal.returns-clause-steps
returns-clause-steps c =
    let was = c.in_ok-seat.was in
    let holds = rw was at c.requires in
    rw was (walked c.args.self.now.ladder.now c.in_ok-seat.seat c.after-self.result c.order.result holds c.order.ensures c.after-self.ensures)

pub returns-clause-goes : goal.returns-clause-goes
returns-clause-goes c = goes_on c.args.self.now _ c.order.result (returns-clause-steps c) (stands c.args.self.now.ladder.now _ c.after-self.result c.after-self.ensures)

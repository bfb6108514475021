use Rattle.ladder_book.proofs.Firsts.{first_at, resize_given, resize_list}
use Rattle.ladder_book.proofs.ladder.Ladder.resize.Goals as goal

pub invariant_of-self : goal.invariant_of-self
invariant_of-self c =
    resize_given c.args.self.now c.args.volume c.args.seat.place (first_at c.args.self.now c.args.seat c.requires.holds c.requires.first) c.set_volume.new.places c.set_volume.ensures.orders c.set_volume.ensures.next

pub returns-clause-list : goal.returns-clause-list
returns-clause-list c =
    resize_list c.args.self.now c.args.volume c.args.seat.place (first_at c.args.self.now c.args.seat c.requires.holds c.requires.first) c.set_volume.new.places c.set_volume.ensures.orders c.set_volume.ensures.next

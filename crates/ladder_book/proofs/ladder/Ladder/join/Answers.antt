use Rattle.std.proofs.Common.{◌≡◌, ◌<◌, length, set, refl, ap, ◌∙◌, arith, rules}
use Rattle.ordered.specs.Bounded.{items}
use Rattle.ladder_book.specs.Levels.{grown}
use Rattle.ladder_book.specs.Listed.{level_of}
use Rattle.ladder_book.specs.Queues.{level_at}
use Rattle.ladder_book.proofs.Joins.{join_given, join_list}
use Rattle.ladder_book.proofs.Sound.{size_short}
use Rattle.ladder_book.proofs.ladder.Ladder.join.Goals as goal
use Rattle.ladder_book.proofs.ladder.Ladder.join.Goals.{After-set}

pub grown-requires : goal.grown-requires
grown-requires c =
    let s = c.args.self.now in
    let short : (level_of s c.args.seat).size < 128 = omega (arith, size_short s c.args.seat.level c.requires.seated.sits.level, s.held, c.requires.room) in
    rw c.as_slice.ensures short

written : (c : After-set) → items c.set.new.self ≡ set (items c.args.self.now.levels) c.args.seat.level (grown (level_of c.args.self.now c.args.seat) c.args.seat c.spare-slot.result)
written c =
    let s = c.args.self.now in
    c.set.ensures ∙ ap (set (items s.levels) c.args.seat.level) (c.grown.ensures ∙ ap (λ ls. grown (level_at ls c.args.seat.level) c.args.seat c.spare-slot.result) c.as_slice.ensures)

pub invariant_of-self : goal.invariant_of-self
invariant_of-self c =
    let s = c.args.self.now in
    let places : length s.slots ≡ 128 = search rules in
    join_given s c.args.seat c.spare-slot.result c.args.order c.requires.room c.requires.seated c.requires.sign
    places c.spare-slot.ensures.is c.spare-slot.ensures.low c.link.new.places c.link.ensures.orders c.link.ensures.next (items c.set.new.self) (written (goal.at.invariant_of-self c).After-set)

pub returns : goal.returns
returns c =
    let s = c.args.self.now in
    let places : length s.slots ≡ 128 = search rules in
    record {
      list = join_list s c.args.seat c.spare-slot.result c.args.order c.requires.room c.requires.seated c.requires.sign
          places c.spare-slot.ensures.is c.spare-slot.ensures.low c.link.new.places c.link.ensures.orders c.link.ensures.next (items c.set.new.self) (written (goal.at.returns c).After-set);
      side = refl;
    }

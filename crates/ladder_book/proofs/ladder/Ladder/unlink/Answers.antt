use Rattle.std.proofs.Common.{◌≡◌, length, refl, rules}
use Rattle.ordered.specs.Bounded.{items}
use Rattle.ladder_book.proofs.Lessens.{some_held, unlink_given, unlink_list}
use Rattle.ladder_book.proofs.Nodes.{next_at}
use Rattle.ladder_book.proofs.ladder.Ladder.unlink.Goals as goal

pub give_back-self-requires : goal.give_back-self-requires
give_back-self-requires c = let some = some_held c.args.self.now c.args.seat c.requires.sits c.requires.some in search rules

pub invariant_of-self : goal.invariant_of-self
invariant_of-self c =
    let s = c.args.self.now in
    let places : length s.slots ≡ 128 = search rules in
    let b = c.give_back-self.ensures in
    unlink_given s c.args.seat c.requires.sits c.requires.some _ (next_at s.places c.args.seat.place) c.lead.new.places c.give_back-self.new.slots
    c.give_back-self.result (items c.lessen.new.levels) c.lead.ensures.orders c.lead.ensures.next c.lessen.ensures places b.count b.slots

pub returns : goal.returns
returns c =
    let s = c.args.self.now in
    record {
      list = unlink_list s c.args.seat c.requires.sits c.requires.some _ (next_at s.places c.args.seat.place) c.lead.new.places c.give_back-self.new.slots
          c.give_back-self.result (items c.lessen.new.levels) c.lead.ensures.orders c.lead.ensures.next c.lessen.ensures;
      side = refl;
    }

use Rattle.std.proofs.Common.{◌≡◌, length, refl, rules}
use Rattle.ordered.specs.Bounded.{items}
use Rattle.ladder_book.proofs.Opens.{open_given, open_list}
use Rattle.ladder_book.proofs.ladder.Ladder.open.Goals as goal

pub invariant_of-self : goal.invariant_of-self
invariant_of-self c =
    let s = c.args.self.now in
    let places : length s.slots ≡ 128 = search rules in
    open_given s c.args.place c.spare-slot.result c.args.order c.requires.room c.requires.place places c.spare-slot.ensures.is c.spare-slot.ensures.low
    c.requires.better c.requires.worse c.put.new.places c.put.ensures.orders c.put.ensures.next c.alone.result c.alone.ensures (items c.insert_at.new.self) c.insert_at.ensures.after

pub returns : goal.returns
returns c =
    let s = c.args.self.now in
    let places : length s.slots ≡ 128 = search rules in
    record {
      list = open_list s c.args.place c.spare-slot.result c.args.order c.requires.room c.requires.place places c.spare-slot.ensures.is c.spare-slot.ensures.low
          c.requires.better c.requires.worse c.put.new.places c.put.ensures.orders c.put.ensures.next c.alone.result c.alone.ensures (items c.insert_at.new.self) c.insert_at.ensures.after;
      side = refl;
    }

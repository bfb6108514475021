use Rattle.std.proofs.Common.{sym, subst}
use Rattle.ordered.proofs.Finds.{place_hits}
use Rattle.providers.proofs.Numbered.{all_set}
use Rattle.providers.proofs.Stands.{write_stands}
use Rattle.providers.specs.Held.{held}
use Rattle.providers.specs.Members.{DefaultsAreNumbered, MembersStandInOrderAndOnce, has_member}
use Rattle.providers.proofs.table.Providers.replace.Goals as goal

pub invariant_of-self : goal.invariant_of-self
invariant_of-self c =
    let ps = c.args.self.now in
    let p = c.args.provider in
    let hit = place_hits (has_member p.member) (held ps) c.args.place c.requires.own in
    record {
      order = subst MembersStandInOrderAndOnce (sym c.set.ensures) (write_stands (held ps) ps.order p c.args.place hit);
      named = subst DefaultsAreNumbered (sym c.set.ensures) (all_set _ p (held ps) c.args.place c.requires.named ps.named);
    }

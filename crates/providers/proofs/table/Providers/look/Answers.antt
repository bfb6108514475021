use Rattle.std.proofs.Common.{sym, ◌∙◌}
use Rattle.ordered.proofs.Finds.{place_hits, place_misses}
use Rattle.providers.proofs.Places.{found_nowhere, found_there}
use Rattle.providers.specs.Held.{held}
use Rattle.providers.specs.Members.{has_member}
use Rattle.providers.proofs.table.Providers.look.Goals as goal

pub returns-in_err-find : goal.returns-in_err-find
returns-in_err-find c =
    let test = has_member c.args.member in
    let ps = held c.args.self.now in
    c.from_residual.ensures ∙ sym (found_nowhere test ps (place_misses test ps (sym c.in_err-find.ensures)))

pub returns : goal.returns
returns c =
    let test = has_member c.args.member in
    let ps = held c.args.self.now in
    c.get.ensures ∙ sym (found_there test ps c.in_ok-find.field-0 (place_hits test ps c.in_ok-find.field-0 (sym c.in_ok-find.ensures)))

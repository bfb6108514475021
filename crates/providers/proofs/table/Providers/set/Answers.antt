use Rattle.std.proofs.Common.{◌≡◌, rules}
use Rattle.providers.proofs.Keeps.{sets_just_that}
use Rattle.providers.specs.Held.{held}
use Rattle.providers.specs.Settings.{sets, settled}
use Rattle.providers.proofs.table.Providers.set.Goals as goal

pub returns-clause-lookups : goal.returns-clause-lookups
returns-clause-lookups c =
    let ps = c.args.self.now in
    let after = c.put.new.self in
    let answer : c.put.result ≡ sets c.args.fields (held ps) = search rules in
    let settles : held after ≡ settled c.args.fields (held ps) = search rules in
    λ p n. sets_just_that c.args.fields p n (held ps) (held after) c.put.result ps.order answer settles

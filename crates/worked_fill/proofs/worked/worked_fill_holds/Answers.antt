use Rattle.std.proofs.Common.{refl}
use Rattle.std.specs.Fmt.{digits}
use Rattle.worked_fill.proofs.worked.worked_fill_holds.Goals as goal

pub returns : goal.returns
unfolding digits
returns c = record { in_order = refl; figures = refl; listing = refl; account = refl }

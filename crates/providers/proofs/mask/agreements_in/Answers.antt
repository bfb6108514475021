use Rattle.std.proofs.Common.{arith}
use Rattle.providers.proofs.Masks.{ones_are_agreements}
use Rattle.providers.proofs.mask.agreements_in.Goals as goal

pub returns : goal.returns
returns c = ones_are_agreements c.args.mask (omega arith)

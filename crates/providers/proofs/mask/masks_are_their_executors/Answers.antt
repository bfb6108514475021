use Rattle.providers.proofs.Masks.{masks_are_their_executors}
use Rattle.providers.proofs.mask.masks_are_their_executors.Goals as goal

pub returns : goal.returns
returns c = masks_are_their_executors

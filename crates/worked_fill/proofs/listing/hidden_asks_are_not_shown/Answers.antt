use Rattle.worked_fill.proofs.Writing.{asks_shown}
use Rattle.worked_fill.proofs.listing.hidden_asks_are_not_shown.Goals as goal

pub returns : goal.returns
returns c = asks_shown

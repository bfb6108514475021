use Rattle.std.proofs.Common.{rules}
use Rattle.ladder_book.proofs.links.places.Goals as goal

pub returns : goal.returns
returns c = λ k h. let a = c.from_fn.ensures.items.at k 0 h in search rules

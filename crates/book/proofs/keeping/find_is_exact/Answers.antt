use Rattle.book.proofs.Finds.{find_is_exact}
use Rattle.book.proofs.keeping.find_is_exact.Goals as goal

pub returns : goal.returns
returns c = find_is_exact

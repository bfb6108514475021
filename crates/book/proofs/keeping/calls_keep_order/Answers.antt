use Rattle.book.proofs.Keeps.{keeps_order, keeps_faces}
use Rattle.book.proofs.keeping.calls_keep_order.Goals as goal

pub returns : goal.returns
returns c = record { order = keeps_order; faces = keeps_faces }

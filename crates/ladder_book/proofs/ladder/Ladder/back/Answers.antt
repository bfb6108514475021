use Rattle.std.proofs.Common.{refl}
use Rattle.ladder_book.proofs.Seats.{back_sits}
use Rattle.ladder_book.proofs.ladder.Ladder.back.Goals as goal

pub returns : goal.returns
returns c = let b = back_sits c.args.self.now c.args.level c.requires in rw c.as_slice.ensures (record { sits = b.0; level = refl; passed = refl; low = b.1 })

use Rattle.std.proofs.Common.{refl}
use Rattle.ladder_book.proofs.Seats.{front_sits}
use Rattle.ladder_book.proofs.ladder.Ladder.front.Goals as goal

pub returns : goal.returns
returns c =
    let s = c.args.self.now in
    let k = c.args.level in
    rw c.as_slice.ensures (record { sits = front_sits s k c.requires; level = refl; passed = refl })

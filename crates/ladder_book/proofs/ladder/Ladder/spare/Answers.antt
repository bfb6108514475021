use Rattle.std.proofs.Common.{◌≡◌, length, refl, rules}
use Rattle.ladder_book.proofs.Sound.{spare_low}
use Rattle.ladder_book.proofs.ladder.Ladder.spare.Goals as goal

pub returns : goal.returns
returns c =
    let n : length c.args.self.now.slots ≡ 128 = search rules in
    record { is = refl; low = spare_low c.args.self.now n c.requires }

use Rattle.std.proofs.Common.{◌≡◌, length, replicate, refl, rules}
use Rattle.ordered.specs.Bounded.{items}
use Rattle.ladder_book.proofs.Empties.{empty_sound}
use Rattle.ladder_book.proofs.ladder.LadderBookSide.new.Goals as goal

pub invariant_of-result : goal.invariant_of-result
invariant_of-result c =
    let n : length c.places.result ≡ 128 = search rules in
    empty_sound _ (replicate 128 c.default.result) c.places.result (items c.new.result) refl n c.places.ensures c.new.ensures

-- Priority on a side is an order.
use Rattle.std.specs.Prelude.{◌≡◌, true, false}
use Rattle.std.proofs.Common.{arith}
use Rattle.std.proofs.lemmas.Bool.Decides.{nat_tests}
use Rattle.book.specs.Priority.{ahead}
use Rattle.book.specs.declared.resting.Resting.{Resting}
use Rattle.book.specs.declared.side.Side.{Side}
use Rattle.book.specs.declared.side.Side.TheVariants.{Bid, Ask}

pub irreflexive : (s : Side) (x : Resting) → ahead s x x ≡ false
irreflexive Bid x = grind (arith, nat_tests)
irreflexive Ask x = grind (arith, nat_tests)

pub ranked : (s : Side) (x y z : Resting) → ahead s x y ≡ false → ahead s y z ≡ false → ahead s x z ≡ false
ranked Bid x y z xy yz = grind (arith, nat_tests)
ranked Ask x y z xy yz = grind (arith, nat_tests)

pub transitive : (s : Side) (x y z : Resting) → ahead s x y ≡ true → ahead s y z ≡ true → ahead s x z ≡ true
transitive Bid x y z xy yz = grind (arith, nat_tests)
transitive Ask x y z xy yz = grind (arith, nat_tests)

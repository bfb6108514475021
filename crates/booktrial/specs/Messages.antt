-- What is told of a difference.
use Rattle.std.specs.Prelude.{ℕ, List, ◌++◌, codes}
use Rattle.std.specs.Fmt.{decimal}
use Rattle.booktrial.specs.declared.difference.Difference.{Difference}
use Rattle.booktrial.specs.declared.difference.Difference.TheVariants.{AtTurn, WhenEmpty}
use Rattle.booktrial.specs.declared.draw.Phase.TheVariants.{Orders, Calls}

abbrev pub difference_text : Difference → List ℕ
difference_text (AtTurn Orders turn turns) = codes "the books differ at order " ++ decimal turn
difference_text (AtTurn Calls turn turns) = codes "the books differ at call " ++ decimal turn ++ codes " of " ++ decimal turns
difference_text WhenEmpty = codes "the books differ when they are empty"

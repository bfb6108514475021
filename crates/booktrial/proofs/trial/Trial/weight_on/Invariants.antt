use Rattle.booktrial.specs.Calls.{side_of}
use Rattle.booktrial.proofs.Compared.{Compared}
use Rattle.booktrial.proofs.trial.Trial.weight_on.Given as goal

abbrev pub invariant-loop-came : goal.invariant-loop-came
invariant-loop-came g l = Compared l.side l.orders (side_of l.side (g.R.Rivals.lists l.self.books)) l.came l.weight

use Rattle.booktrial.specs.Standing.{standing}
use Rattle.booktrial.proofs.Turns.{Going}
use Rattle.booktrial.proofs.trial.Trial.play.Given as goal

abbrev pub invariant-loop-turn : goal.invariant-loop-turn
invariant-loop-turn g l = Going l.phase l.turn (standing g.R.Rivals l.initial.self) (standing g.R.Rivals l.self)

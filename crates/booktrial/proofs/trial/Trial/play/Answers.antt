use Rattle.std.proofs.Common.{rules}
use Rattle.booktrial.specs.Drawn.{MayDraw}
use Rattle.booktrial.proofs.Made.{one_more, calls_keep}
use Rattle.booktrial.proofs.Turns.{plays_more}
use Rattle.booktrial.proofs.trial.Trial.play.Goals as goal

pub loop-turn-preserved : goal.loop-turn-preserved
loop-turn-preserved g c = record {
  made = one_more (MayDraw c.args.phase) _ _ _ _ _ _ _ _ c.loop-turn.invariant.made c.call-call.ensures.kind c.make.ensures.books c.make.ensures.tally;
  alike = λ _. (c.make.ensures.alike.0 c.if-not-make.false).1;
  plays = plays_more _ _ _ _ _ c.loop-turn.invariant.plays (search rules) (search rules);
}

pub returns-then-not-make-clause-calls : goal.returns-then-not-make-clause-calls
returns-then-not-make-clause-calls g c = one_more (MayDraw c.args.phase) _ _ _ _ _ _ _ _ c.loop-turn.invariant.made c.call-call.ensures.kind c.make.ensures.books c.make.ensures.tally

pub returns-then-not-make-clause-order : goal.returns-then-not-make-clause-order
returns-then-not-make-clause-order g c = calls_keep (MayDraw c.args.phase) _ _ _ _ _ (returns-then-not-make-clause-calls g c)

pub returns-clause-order : goal.returns-clause-order
returns-clause-order g c = calls_keep (MayDraw c.args.phase) _ _ _ _ _ c.loop-turn.invariant.made

use Rattle.std.proofs.Common.{refl}
use Rattle.booktrial.proofs.Compared.{compared_more, weighs_all}
use Rattle.booktrial.proofs.trial.Trial.weight_on.Goals as goal

pub loop-came-preserved : goal.loop-came-preserved
loop-came-preserved g c =
    compared_more _ _ _ _ _ _ _ _ c.loop-came.invariant c.loop-came-test.true c.orders-orders.ensures
    (c.in_ok-weight.ensures.shown.0 refl) c.in_ok-weight.ensures.weight

pub returns-clause-weight : goal.returns-clause-weight
returns-clause-weight g c = rw (← c.orders-orders.ensures) (weighs_all _ _ _ _ c.loop-came.invariant.weigh c.loop-came-test.false)

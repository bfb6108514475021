use Rattle.std.proofs.Common.{◌∙◌, arith}
use Rattle.book.specs.Listed.{listed}
use Rattle.pricing.proofs.Shares.{walked_by_share}
use Rattle.pricing.proofs.Walks.{walked_short, walked_whole, walking_more}
use Rattle.pricing.proofs.averaging.walk.Goals as goal

pub loop-order-preserved : goal.loop-order-preserved
loop-order-preserved g c =
    walking_more c.loop-order.invariant c.in-Some.ensures.steps c.min-shares.ensures
    c.add_shares-cost.ensures c.if-shares-wanted.false (omega arith)

pub returns-then-shares-wanted-clause-meaning : goal.returns-then-shares-wanted-clause-meaning
returns-then-shares-wanted-clause-meaning g c =
    walked_whole c.loop-order.invariant c.in-Some.ensures.steps c.min-shares.ensures
    c.add_shares-cost.ensures c.if-shares-wanted.true (omega arith) (omega arith)
    ∙ walked_by_share c.args.volume (listed g.B.ReadBook c.args.side c.args.book.now)

pub returns-clause-meaning : goal.returns-clause-meaning
returns-clause-meaning g c =
    walked_short c.loop-order.invariant c.in-None.ensures.steps.0 (omega arith) (omega arith) ∙ walked_by_share c.args.volume (listed g.B.ReadBook c.args.side c.args.book.now)

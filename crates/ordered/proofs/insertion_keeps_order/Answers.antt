use Rattle.ordered.proofs.Keeps.{keeps_order, goes_behind_equals}
use Rattle.ordered.proofs.insertion_keeps_order.Goals as goal

pub returns : goal.returns
returns g c =
    let ahead = g.T.Ordered.ahead c.args.by in
    let met = g.met.T.Ordered in
    record {
      order = keeps_order ahead (met.irreflexive c.args.by) (met.transitive c.args.by);
      behind = goes_behind_equals ahead (met.ranked c.args.by);
    }

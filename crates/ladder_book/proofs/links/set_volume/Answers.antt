use Rattle.std.proofs.Common.{set, ap, ◌∙◌}
use Rattle.ladder_book.specs.Queues.{records}
use Rattle.ladder_book.proofs.Firsts.{at_volume}
use Rattle.ladder_book.proofs.Nodes.{order_at, records_set}
use Rattle.ladder_book.proofs.links.set_volume.Goals as goal

pub returns-clause-orders : goal.returns-clause-orders
returns-clause-orders c =
    let ps = c.args.places.now in
    let i = c.args.place in
    records_set ps i _ ∙ ap (λ o. set (records ps) i (at_volume c.args.volume o)) (order_at ps i)

use Rattle.ordered.proofs.Places.{goes_before, goes_within}
use Rattle.ordered.proofs.place_of.Goals as goal

pub returns : goal.returns
returns g c =
    let ahead = g.T.Ordered.ahead c.args.by in
    rw (c.unwrap_or.ensures, c.first_behind.ensures) (record {
      within = goes_within ahead c.args.item.now c.args.kept.now;
      parts = goes_before ahead c.args.item.now c.args.kept.now;
    })

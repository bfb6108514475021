use Rattle.std.proofs.Common.{arith}
use Rattle.pricing.proofs.Prices.{nearest, beats, rounded_fits}
use Rattle.pricing.specs.Price.{Nearest}
use Rattle.pricing.proofs.quoting.quote_walked.Goals as goal

pub round_average-average-requires : goal.round_average-average-requires
round_average-average-requires c =
    record { some = c.requires.some; sum = omega arith; fits = rounded_fits c.args.walked.cost c.args.volume c.requires.some c.requires.bound }

pub returns : goal.returns
returns c =
    let average = c.round_average-average.result in
    let close : Nearest c.args.walked.cost c.args.volume average =
    rw c.round_average-average.ensures (nearest c.args.walked.cost c.args.volume c.requires.some) in
    record {
      answer = cc;
      nearest = close;
      better = λ r. rw c.quote_price-price.ensures (beats c.args.side c.args.walked.cost c.args.volume average c.args.relative r close);
    }

use Rattle.std.proofs.Common.{◌≡◌, ◌+◌, ◌-◌, true, not, ap, ◌∙◌, arith, rules}
use Rattle.std.proofs.lemmas.Bool.{not-true}
use Rattle.ordered.specs.Bounded.{items}
use Rattle.book.specs.Priority.{ahead}
use Rattle.ladder_book.specs.Queues.{bare, level_at, sign}
use Rattle.ladder_book.proofs.ladder.Ladder.rung.Goals as goal

pub returns-in-Some-clause-rest : goal.returns-in-Some-clause-rest
returns-in-Some-clause-rest c =
    let s = c.args.self.now in
    let k = c.in-Some.level in
    let f : not (ahead s.side (sign (level_at (items s.levels) k)) (bare c.args.order)) ≡ true = search rules in
    let e : k + 1 - 1 ≡ k = omega arith in
    λ _. ap (λ i. ahead s.side (sign (level_at (items s.levels) i)) (bare c.args.order)) e ∙ not-true _ f

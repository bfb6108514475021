use Rattle.std.proofs.Common.{◌≡◌, ◌+◌, drop}
use Rattle.ordered.specs.Bounded.{items}
use Rattle.ladder_book.specs.Queues.{sizes}
use Rattle.ladder_book.proofs.ladder.Ladder.locate.Given as goal

abbrev pub invariant-loop-level : goal.invariant-loop-level
invariant-loop-level l = l.place ≡ sizes (drop l.level (items l.self.levels)) + l.steps

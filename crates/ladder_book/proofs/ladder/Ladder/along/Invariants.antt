use Rattle.std.proofs.Common.{◌≡◌}
use Rattle.ladder_book.specs.Listed.{Sits}
use Rattle.ladder_book.proofs.ladder.Ladder.along.Given as goal

abbrev pub invariant-loop : goal.invariant-loop
invariant-loop l = Sits l.self l.seat × (l.seat.level ≡ l.level) × (l.seat.passed ≡ l.counter)

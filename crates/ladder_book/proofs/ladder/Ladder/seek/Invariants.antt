use Rattle.std.proofs.Common.{◌≡◌, ◌<◌, false}
use Rattle.book.specs.Priority.{ahead}
use Rattle.ladder_book.specs.Listed.{Sits}
use Rattle.ladder_book.specs.Queues.{at, records}
use Rattle.ladder_book.proofs.ladder.Ladder.seek.Given as goal

abbrev pub invariant-loop : goal.invariant-loop
invariant-loop l =
    Sits l.self l.seat × (l.seat.level ≡ l.level) × (l.seat.passed ≡ l.counter)
    × (0 < l.seat.passed → ahead l.self.side l.order (at (records l.self.places) l.seat.last) ≡ false)

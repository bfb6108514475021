-- The list that a side stands for, and seats in its queues.
use Rattle.std.specs.Prelude.{◌≡◌, ℕ, ◌+◌, ◌<◌, true, false, List, length, drop, Some, None, MatchOption, Option}
use Rattle.std.specs.List.{remove, slice_get}
use Rattle.ordered.specs.Bounded.{items}
use Rattle.book.specs.Priority.{ahead}
use Rattle.book.specs.declared.resting.Resting.{Resting}
use Rattle.ladder_book.specs.Levels.{Stands}
use Rattle.ladder_book.specs.Queues.{at, book, level_at, nexts, records, sizes}
use Rattle.ladder_book.specs.declared.ladder.Ladder.{Ladder}
use Rattle.ladder_book.specs.declared.level.Level.{Level}
use Rattle.ladder_book.specs.declared.level.Seat.{Seat}

-- the levels that there are
abbrev pub live_levels : Ladder → List Level
live_levels s = items s.levels

abbrev pub listed : Ladder → List Resting
listed s = book (records s.places) (nexts s.places) (live_levels s)

-- the level of a seat
abbrev pub level_of : Ladder → Seat → Level
level_of s t = level_at (items s.levels) t.level

-- a seat in a queue of the side
pub record Sits (s : Ladder) (t : Seat) : Type 0 where
  pub level : t.level < length (items s.levels)
  pub stands : Stands (nexts s.places) (level_of s t) t

-- a seat at which an order stands
pub record Holds (s : Ladder) (t : Seat) : Type 0 where
  pub sits : Sits s t
  pub some : t.passed < (level_of s t).size

-- the place in the list of what stands at a seat: behind all better levels
abbrev pub place_of : Ladder → Seat → ℕ
place_of s t = sizes (drop (t.level + 1) (live_levels s)) + t.passed

-- the seat of the order at a place of the list, and none at its end
abbrev pub SeatAt : Ladder → (place : ℕ) → Option Seat → Type 0
SeatAt s place r = MatchOption r (place ≡ length (listed s)) (λ t. Holds s t × (place_of s t ≡ place))

-- the seat at which the order at a place of the list stands
pub record Located (s : Ladder) (place : ℕ) (t : Seat) : Type 0 where
  pub holds : Holds s t
  pub is : place ≡ place_of s t
  pub order : slice_get (listed s) place ≡ Some (at (records s.places) t.place)

-- a place past the end
pub record Past (s : Ladder) (place : ℕ) : Type 0 where
  pub none : slice_get (listed s) place ≡ None
  pub same : remove (listed s) place ≡ listed s

-- the seat that an order has by priority
pub record Seated (s : Ladder) (o : Resting) (t : Seat) : Type 0 where
  pub sits : Sits s t
  pub behind : 0 < t.passed → ahead s.side o (at (records s.places) t.last) ≡ false
  pub before : t.passed < (level_of s t).size → ahead s.side o (at (records s.places) t.place) ≡ true

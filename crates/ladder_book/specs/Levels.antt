-- Seats in a queue, and what a place linked in or bypassed makes of the arrays.
use Rattle.std.specs.Prelude.{◌≡◌, ℕ, ◌+◌, ◌-◌, ◌<◌, ◌≤◌, cond, List, ◌==◌, slice_set}
use Rattle.std.specs.List.{remove}
use Rattle.book.specs.declared.resting.Resting.{Resting}
use Rattle.ladder_book.specs.declared.level.Level.{Level}
use Rattle.ladder_book.specs.declared.level.Seat.{Seat}
use Rattle.ladder_book.specs.Queues.{hop, level_at}
use Rattle.book.specs.Signs.{sign_of}

-- a seat of a level's queue: before the place there, unless it is at the back, and behind the last of those in front
pub record Stands (next : List ℕ) (l : Level) (t : Seat) : Type 0 where
  pub within : t.passed ≤ l.size
  pub place_is : t.passed < l.size → t.place ≡ hop next t.passed l.head
  pub last_is : 0 < t.passed → t.last ≡ hop next (t.passed - 1) l.head
  pub place_low : t.passed < l.size → t.place < 128
  pub last_low : 0 < t.passed → t.last < 128

-- the level of one order, at a slot
abbrev pub alone : Resting → ℕ → Level
alone o slot = record { sign = sign_of o; head = slot; tail = slot; size = 1 }

-- the links with a slot put into a queue at a seat, and its level
abbrev pub linked : List ℕ → Seat → ℕ → List ℕ
linked next t slot = cond (t.passed == 0) (slice_set next slot t.place) (slice_set (slice_set next slot t.place) t.last slot)

abbrev pub grown : Level → Seat → ℕ → Level
grown l t slot = record {
  sign = l.sign;
  head = cond (t.passed == 0) slot l.head;
  tail = cond (t.passed == l.size) slot l.tail;
  size = l.size + 1;
}

-- the links with the last in front of a seat, if there is one, leading on to a place
abbrev pub led : List ℕ → Seat → ℕ → List ℕ
led next t place = cond (t.passed == 0) next (slice_set next t.last place)

-- the level without the place at a seat, which `after` follows
abbrev pub shrunk : Level → Seat → ℕ → Level
shrunk l t after = record {
  sign = l.sign;
  head = cond (t.passed == 0) after l.head;
  tail = cond (t.passed + 1 == l.size) t.last l.tail;
  size = l.size - 1;
}

-- the levels without an order at a seat: a level leaves with its last order
abbrev pub lessened : List Level → Seat → (after : ℕ) → List Level
lessened levels t after = cond ((level_at levels t.level).size == 1) (remove levels t.level) (slice_set levels t.level (shrunk (level_at levels t.level) t after))

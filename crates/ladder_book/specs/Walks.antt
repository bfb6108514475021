-- What a walk along the orders of a ladder has still to give.
use Rattle.std.specs.Prelude.{List, [], drop, MatchOption, Some, None, Option, ⊤}
use Rattle.book.specs.declared.resting.Resting.{Resting}
use Rattle.ladder_book.specs.Listed.{Holds, listed, place_of}
use Rattle.ladder_book.specs.declared.ladder.Ladder.{Ladder}
use Rattle.ladder_book.specs.declared.level.Seat.{Seat}
use Rattle.ladder_book.specs.declared.walk.Walk.{Walk}

-- an order stands where the walk has come to
abbrev pub CanWalk : Walk → Type 0
CanWalk w = MatchOption w.seat ⊤ (Holds w.ladder.now)

-- the orders from a seat on
abbrev pub orders_from : Ladder → Option Seat → List Resting
orders_from s None = []
orders_from s (Some t) = drop (place_of s t) (listed s)

abbrev pub left : Walk → List Resting
left w = orders_from w.ladder.now w.seat

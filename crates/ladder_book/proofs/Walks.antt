-- A walk from order to order.
use Rattle.std.proofs.Common.{◌≡◌, ℕ, ◌+◌, ◌≤◌, ◌∷◌, length, drop, Some, None, Option, sym, refl, ap, ◌∙◌, arith, rules}
use Rattle.std.specs.Iterator.{item_count, MakesProgress}
use Rattle.std.specs.Prelude.{⊤}
use Rattle.std.specs.Option.{MatchOption}
use Rattle.std.proofs.lemmas.List.{drop_all}
use Rattle.ordered.specs.Bounded.{items}
use Rattle.book.proofs.Looks.{drop_looked}
use Rattle.book.specs.declared.resting.Resting.{Resting}
use Rattle.ladder_book.specs.declared.ladder.Ladder.{Ladder}
use Rattle.ladder_book.specs.declared.level.Seat.{Seat}
use Rattle.ladder_book.specs.declared.walk.Walk.{Walk}
use Rattle.ladder_book.specs.Listed.{Holds, level_of, listed, place_of, SeatAt}
use Rattle.ladder_book.specs.Queues.{at, nexts, records, sizes}
use Rattle.ladder_book.specs.Walks.{CanWalk, left, orders_from}
use Rattle.ladder_book.proofs.Seats.{look_steps, sizes_from}
use Rattle.ladder_book.proofs.Sound.{held_places, length_ids}

-- behind the last order of the worst level nothing is left
pub last_place : (s : Ladder) (t : Seat) → Holds s t → t.level ≡ 0 → (level_of s t).size ≤ t.passed + 1 → place_of s t + 1 ≡ length (listed s)
last_place s t h worst last =
    let live = items s.levels in
    let some = h.some in
    let d = sizes_from live t.level h.sits.level in
    let e = ap (λ k. sizes (drop k live)) worst in
    let b = length_ids (nexts s.places) live in
    let c = held_places s in
    let f = s.held in
    omega arith

-- what the next seat has
left_next : (s : Ladder) (p : ℕ) (r : Option Seat) → SeatAt s (p + 1) r → drop (p + 1) (listed s) ≡ orders_from s r
left_next s p None end = drop_all (p + 1) (listed s) (omega arith)
left_next s p (Some n) h = ap (λ k. drop k (listed s)) (sym h.1)

-- an order, and what the next seat has
pub walked : (s : Ladder) (t : Seat) (r : Option Seat) (o : Resting) → Holds s t → o ≡ at (records s.places) t.place
    → SeatAt s (place_of s t + 1) r → drop (place_of s t) (listed s) ≡ o ∷ orders_from s r
walked s t r o h is next =
    let p = place_of s t in
    let there = look_steps (records s.places) (nexts s.places) (items s.levels) t.level t.passed p h.sits.level h.some refl in
    let here = is ∙ ap (at (records s.places)) (h.sits.stands.place_is h.some) in
    drop_looked (listed s) p o (ap Some here ∙ sym there) ∙ ap (λ xs. o ∷ xs) (left_next s p r next)

pub stands : (s : Ladder) (p : ℕ) (r : Option Seat) → SeatAt s p r → MatchOption r ⊤ (Holds s)
stands s p None h = tt
stands s p (Some n) h = h.0

-- a walk that gives an order comes nearer its end
pub goes_on : (w v : Walk) (o : Resting) → left w ≡ o ∷ left v → CanWalk v → MakesProgress CanWalk (item_count left) w (Some o) v
goes_on w v o h can = let e = ap length h in search rules

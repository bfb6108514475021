-- Which orders of a side count for the average.
use Rattle.std.specs.Prelude.{◌≡◌, ℕ, Bool, cond, not, ◌&&◌, List, [], ◌∷◌, take, drop, Some, None, filter, Option}
use Rattle.std.specs.List.{prefix_len}
use Rattle.ordered.specs.Order.{InOrder}
use Rattle.book.specs.Priority.{ahead}
use Rattle.book.specs.Sides.{better}
use Rattle.book.specs.declared.resting.Resting.{Resting}
use Rattle.book.specs.declared.side.Side.{Side}

-- how many hidden orders stand in front of the first visible one
abbrev pub left_out : List Resting → ℕ
left_out os = prefix_len (λ o. not o.visible) os

-- the orders from the first visible one on
abbrev pub counting : List Resting → List Resting
counting os = drop (left_out os) os

-- What that means in a list in priority order: the orders left out are the hidden ones strictly better than the best visible limit.

-- the better of a limit and another, if there is another
abbrev pub better_of : Side → ℕ → Option ℕ → ℕ
better_of s l None = l
better_of s l (Some m) = cond (better s m l) m l

-- the best limit among the visible orders, wherever they stand
abbrev pub best_visible : Side → List Resting → Option ℕ
best_visible s [] = None
best_visible s (o ∷ os) = cond o.visible (Some (better_of s o.limit (best_visible s os))) (best_visible s os)

-- hidden, and strictly better than the best visible limit; every hidden order is, where no order is visible
abbrev pub better_hidden : Side → Option ℕ → Resting → Bool
better_hidden s None o = not o.visible
better_hidden s (Some l) o = not o.visible && better s o.limit l

abbrev pub LeavesOutTheBetterHidden : Side → ℕ → List Resting → Type 0
LeavesOutTheBetterHidden s n os =
    InOrder (ahead s) os →
    (take n os ≡ filter (better_hidden s (best_visible s os)) os)
    × (drop n os ≡ filter (λ o. not (better_hidden s (best_visible s os) o)) os)

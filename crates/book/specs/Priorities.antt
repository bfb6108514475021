-- Pairs of orders of which the first comes first, worked by hand from the rule of priority.
use Rattle.std.specs.Prelude.{◌≡◌, true, false, List, [], ◌∷◌}
use Rattle.std.specs.List.{AllByRecursion}
use Rattle.ordered.specs.Order.{in_order}
use Rattle.book.specs.Priority.{ahead}
use Rattle.book.specs.Samples.{shown, unseen}
use Rattle.book.specs.declared.resting.Resting.{Resting}
use Rattle.book.specs.declared.side.Side.{Side}
use Rattle.book.specs.declared.side.Side.TheVariants.{Bid, Ask}

pub record Pair : Type 0 where
  pub side : Side
  pub first : Resting
  pub second : Resting

abbrev pair : Side → Resting → Resting → Pair
pair s a b = record { side = s; first = a; second = b }

abbrev pub pairs : List Pair
pairs =
    -- the better limit, whatever the mark and the number
    pair Bid (unseen 9 100 54400) (shown 2 100 54390) ∷
    pair Ask (unseen 9 100 54390) (shown 2 100 54400) ∷
    -- at one limit the visible order, whatever the number
    pair Bid (shown 9 100 54400) (unseen 2 100 54400) ∷
    pair Ask (shown 9 100 54400) (unseen 2 100 54400) ∷
    -- then the lower number
    pair Bid (shown 2 100 54400) (shown 9 100 54400) ∷
    pair Ask (unseen 2 100 54400) (unseen 9 100 54400) ∷
    []

-- the first is ahead of the second, the second not of the first, and neither of itself; so the two are in order one way round
abbrev pub FirstComesFirst : Pair → Type 0
FirstComesFirst p =
    (ahead p.side p.first p.second ≡ true)
    × (ahead p.side p.second p.first ≡ false)
    × (ahead p.side p.first p.first ≡ false)
    × (ahead p.side p.second p.second ≡ false)
    × (in_order (ahead p.side) (p.first ∷ p.second ∷ []) ≡ true)
    × (in_order (ahead p.side) (p.second ∷ p.first ∷ []) ≡ false)

abbrev pub PrioritiesHold : Type 0
PrioritiesHold = AllByRecursion FirstComesFirst pairs

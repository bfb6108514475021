-- Fills worked by hand from the rule, each against what the definition reckons.
use Rattle.std.specs.Prelude.{◌≡◌, ℕ, List, [], ◌∷◌, Some, None, Option}
use Rattle.std.specs.Option.{option_map}
use Rattle.std.specs.List.{AllByRecursion}
use Rattle.quotes.specs.Fills.{fills, volumes}
use Rattle.quotes.specs.declared.quote_side.QuoteSide.{QuoteSide}
use Rattle.quotes.specs.declared.quote_side.Volumes.{Volumes}

-- a side, the shares filled, and what it displays and has in reserve then
pub record Row : Type 0 where
  pub side : QuoteSide
  pub shares : ℕ
  pub after : Option Volumes

abbrev row : (size displayed reserve shares : ℕ) → Option Volumes → Row
row size d r q after = record { side = record { relative = 8; boundary = None; size = size; displayed = d; reserve = r }; shares = q; after = after }

abbrev then : (displayed reserve : ℕ) → Option Volumes
then d r = Some (record { displayed = d; reserve = r })

abbrev pub rows : List Row
rows =
    -- raised to the size again, or as far as the reserve goes
    row 600 600 20000 500 (then 600 19500) ∷
    row 600 600 300 500 (then 400 0) ∷
    row 600 600 600 600 (then 600 0) ∷
    row 400 400 1000 150 (then 400 850) ∷
    -- with no reserve what is left is displayed
    row 600 400 0 400 (then 0 0) ∷
    -- no more than is displayed, whatever the reserve
    row 600 600 20000 601 None ∷
    row 600 400 0 401 None ∷
    []

abbrev pub ComesOut : Row → Type 0
ComesOut w = option_map volumes (fills w.shares w.side) ≡ w.after

abbrev pub RefillsHold : Type 0
RefillsHold = AllByRecursion ComesOut rows

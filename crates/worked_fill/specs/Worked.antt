-- The fill of 500 shares by a quote 0.008 better than the average, worked by hand.
use Rattle.std.specs.Prelude.{◌≡◌, ℕ, List, [], ◌∷◌, ◌++◌, codes, Ok}
use Rattle.std.specs.List.{flat_map}
use Rattle.book.specs.Samples.{shown, unseen}
use Rattle.worked_fill.specs.Figures.{filled}
use Rattle.worked_fill.specs.Sample.{entered_sample}
use Rattle.worked_fill.specs.Text.{account_text, listing_text, newline}
use Rattle.worked_fill.specs.declared.figures.Fill.{Fill}

-- 170 * 54390 + 50 * 54410 + 280 * 54460, on average 54431.2; 500 * 54423 is 27211500
abbrev pub fill : Fill
fill = record { volume = 500; relative = 8; cost = 27215600; last = 54460; exact = 544312; average = 54431; price = 54423; gain = 4100 }

-- each with its end
abbrev pub lines : List (List ℕ) → List ℕ
lines ls = flat_map (λ l. l ++ newline) ls

pub record WorkedFillHolds : Type 0 where
  pub in_order : entered_sample [] ≡ shown 3 170 54390 ∷ unseen 2 50 54410 ∷ shown 1 320 54460 ∷ []
  pub figures : filled 500 8 (entered_sample []) ≡ Ok fill
  pub listing : listing_text (entered_sample []) ≡ lines (
      codes "Asks as a customer sees them, prices in euro:" ∷
      codes "    170 at 54.390" ∷
      codes "    320 at 54.460" ∷
      codes "Asks as they are:" ∷
      codes "    170 at 54.390" ∷
      codes "     50 at 54.410, hidden" ∷
      codes "    320 at 54.460" ∷
      [])
  pub account : account_text fill (entered_sample []) ++ newline ≡ lines (
      codes "In the book they would cost 27215.600, the last of them at 54.460." ∷
      codes "On average that is 54.4312, rounded 54.431." ∷
      codes "The price: 54.431 - 0.008 = 54.423." ∷
      codes "First the executor buys what is offered at that price or better:" ∷
      codes "    170 at 54.390" ∷
      codes "     50 at 54.410" ∷
      codes "Then the customer buys from the executor:" ∷
      codes "    500 at 54.423" ∷
      codes "Against the book the customer gains 4.100 euro." ∷
      [])

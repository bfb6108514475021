-- Figures worked by hand from the rules, each against what the definitions reckon.
use Rattle.std.specs.Prelude.{◌≡◌, ℕ, List, [], ◌∷◌, map, Some, None, Option}
use Rattle.book.specs.Samples.{shown, unseen}
use Rattle.book.specs.Sides.{opposite}
use Rattle.book.specs.declared.resting.Resting.{Resting}
use Rattle.book.specs.declared.side.Side.{Side}
use Rattle.book.specs.declared.side.Side.TheVariants.{Bid, Ask}
use Rattle.pricing.specs.Price.{priced}
use Rattle.pricing.specs.declared.records.Quotation.{Quotation}

-- a customer's order and an executor's relative limit against the list opposite, and what they come to
pub record Figure : Type 0 where
  pub customer : Side
  pub volume : ℕ
  pub relative : ℕ
  pub against : List Resting
  pub told : Quotation

abbrev told : (cost last average : ℕ) → Option ℕ → Quotation
told c l a p = record { cost = c; last = l; average = a; price = p }

abbrev figure : Side → (volume relative : ℕ) → List Resting → Quotation → Figure
figure s v r os t = record { customer = s; volume = v; relative = r; against = os; told = t }

abbrev asks : List Resting
asks = shown 2 170 54390 ∷ unseen 3 50 54410 ∷ shown 4 320 54460 ∷ []

-- mirrored at 54430
abbrev bids : List Resting
bids = shown 2 170 54470 ∷ unseen 3 50 54450 ∷ shown 4 320 54400 ∷ []

abbrev pub figures : List Figure
figures =
    -- 170 * 54390 + 50 * 54410 + 280 * 54460, on average 54431.2; a better hidden order in front is left out
    figure Bid 500 8 asks (told 27215600 54460 54431 (Some 54423)) ∷
    figure Bid 500 8 (unseen 1 100 54380 ∷ asks) (told 27215600 54460 54431 (Some 54423)) ∷
    figure Bid 170 8 (unseen 1 100 54380 ∷ asks) (told 9246300 54390 54390 (Some 54382)) ∷
    figure Bid 170 11 (unseen 1 100 54380 ∷ asks) (told 9246300 54390 54390 (Some 54379)) ∷
    -- 170 * 54470 + 50 * 54450 + 280 * 54400, on average 54428.8
    figure Ask 500 8 (unseen 1 100 54480 ∷ bids) (told 27214400 54400 54429 (Some 54437)) ∷
    -- 19 * 20000 + 20010, on average 20000.5: a half rounds up, on either side, and less than a half down
    figure Bid 20 1 (shown 1 19 20000 ∷ shown 2 1 20010 ∷ []) (told 400010 20010 20001 (Some 20000)) ∷
    figure Ask 2 1 (shown 1 1 11 ∷ shown 2 1 10 ∷ []) (told 21 10 11 (Some 12)) ∷
    figure Bid 3 1 (shown 1 2 10 ∷ shown 2 1 11 ∷ []) (told 31 11 10 (Some 9)) ∷
    -- the lowest price there is, and one below it
    figure Bid 5 9 (shown 1 5 10 ∷ []) (told 50 10 10 (Some 1)) ∷
    figure Bid 5 10 (shown 1 5 10 ∷ []) (told 50 10 10 None) ∷
    []

abbrev pub FiguresHold : Type 0
FiguresHold =
    map (λ f. priced (opposite f.customer) f.volume f.relative f.against) figures ≡ map (λ f. Some f.told) figures

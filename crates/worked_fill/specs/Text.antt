-- How asks and a fill are written.
use Rattle.std.specs.Prelude.{◌≡◌, ℕ, ◌-◌, ◌/◌, ◌%◌, Bool, true, false, if◌then◌else◌, List, [], ◌∷◌, ◌++◌, length, replicate, filter, take_while, codes, decimal}
use Rattle.std.specs.List.{flat_map}
use Rattle.book.specs.Sides.{reaches}
use Rattle.book.specs.declared.resting.Resting.{Resting}
use Rattle.book.specs.declared.side.Side.TheVariants.{Ask}
use Rattle.euro.specs.Text.{euro_text}
use Rattle.worked_fill.specs.declared.figures.Fill.{Fill}
use Rattle.worked_fill.specs.declared.figures.NoFill.{NoFill}
use Rattle.worked_fill.specs.declared.figures.NoFill.TheVariants.{NoAverage, NoPrice, NoGain}
use Rattle.worked_fill.specs.declared.lot.Lot.{Lot}

-- the end of a line
abbrev pub newline : List ℕ
newline = 10 ∷ []

-- at least so wide, with spaces in front; 32 is a space
abbrev pub right_aligned : (width : ℕ) → List ℕ → List ℕ
right_aligned width text = replicate (width - length text) 32 ++ text

-- Lots.

abbrev pub lot_text : Lot → List ℕ
lot_text lot = right_aligned 5 (decimal lot.volume) ++ (codes " at " ++ euro_text lot.price)

-- as a line of a list
abbrev pub lot_line : Lot → List ℕ
lot_line lot = codes "  " ++ (lot_text lot ++ newline)

-- an order at its own limit
abbrev pub lot_of : Resting → Lot
lot_of o = record { volume = o.volume; price = o.limit }

-- The asks of a book.

-- a hidden ask only if it is to be shown, and with its mark
abbrev pub ask_text : (hidden : Bool) → Resting → List ℕ
ask_text hidden o =
    if o.visible then lot_line (lot_of o)
    else (if hidden then codes "  " ++ (lot_text (lot_of o) ++ (codes ", hidden" ++ newline)) else [])

abbrev pub asks_text : (hidden : Bool) → List Resting → List ℕ
asks_text hidden os = flat_map (ask_text hidden) os

abbrev pub HiddenAsksAreNotShown : Type 0
HiddenAsksAreNotShown = (os : List Resting) → asks_text false os ≡ asks_text true (filter (λ o. o.visible) os)

abbrev pub listing_text : List Resting → List ℕ
listing_text os =
    (codes "Asks as a customer sees them, prices in euro:" ++ newline) ++ (asks_text false os
    ++ ((codes "Asks as they are:" ++ newline) ++ asks_text true os))

-- The figures of a fill.

abbrev pub reason : NoFill → List ℕ
reason NoAverage = codes "the book has no average for the order"
reason NoPrice = codes "the price would be below 0.001"
reason NoGain = codes "the price is worse than the book"

abbrev pub cost_line : (cost last : ℕ) → List ℕ
cost_line cost last =
    codes "In the book they would cost " ++ (euro_text cost ++ (codes ", the last of them at " ++ (euro_text last ++ (codes "." ++ newline))))

-- the average to four decimals, and rounded to three
abbrev pub average_line : (exact average : ℕ) → List ℕ
average_line exact average =
    codes "On average that is " ++ (euro_text (exact / 10) ++ (decimal (exact % 10) ++ (codes ", rounded " ++ (euro_text average ++ (codes "." ++ newline)))))

abbrev pub price_line : (average relative price : ℕ) → List ℕ
price_line average relative price =
    codes "The price: " ++ (euro_text average ++ (codes " - " ++ (euro_text relative ++ (codes " = " ++ (euro_text price ++ codes ".")))))

abbrev pub fill_text : Fill → List ℕ
fill_text f = cost_line f.cost f.last ++ (average_line f.exact f.average ++ price_line f.average f.relative f.price)

-- Its executions.

-- the executor first buys the leading asks at the price or better
abbrev pub swept : (price : ℕ) → List Resting → List Resting
swept price os = take_while (λ o. reaches Ask o.limit price) os

abbrev pub swept_text : (price : ℕ) → List Resting → List ℕ
swept_text price os = flat_map (λ o. lot_line (lot_of o)) (swept price os)

-- the figures, the executions, and what the customer gains
abbrev pub account_text : Fill → (asks : List Resting) → List ℕ
account_text f asks =
    (fill_text f ++ newline)
    ++ ((codes "First the executor buys what is offered at that price or better:" ++ newline)
    ++ (swept_text f.price asks
    ++ ((codes "Then the customer buys from the executor:" ++ newline)
    ++ (lot_line (record { volume = f.volume; price = f.price })
    ++ (codes "Against the book the customer gains " ++ (euro_text f.gain ++ codes " euro."))))))

-- What a book answers to each call, and what it makes of its lists.
use Rattle.std.specs.Prelude.{List, [], Ok, Err, Result}
use Rattle.book.specs.Lists.{asks_without, bids_without, entered, enters, found, removes, taken, takes}
use Rattle.book.specs.Sides.{on}
use Rattle.book.specs.declared.fault.Fault.{Fault}
use Rattle.book.specs.declared.read.ReadBook.{Ghosts}
use Rattle.book.specs.declared.resting.Resting.{Resting}
use Rattle.book.specs.declared.side.Side.{Side}
use Rattle.booktrial.specs.declared.call.Answer.{Answer}
use Rattle.booktrial.specs.declared.call.Answer.TheVariants.{Done, Volume, At}
use Rattle.booktrial.specs.declared.call.Call.{Call}
use Rattle.booktrial.specs.declared.call.Call.TheVariants.{Enter, Take, Remove, Find}

-- the two lists that a book stands for
pub record Lists : Type 0 where
  pub bids : List Resting
  pub asks : List Resting

abbrev pub side_of : Side → Lists → List Resting
side_of s b = on s b.bids b.asks

abbrev pub lists_of : {B : Type 0} → Ghosts B → B → Lists
lists_of book b = record { bids = book.bids b; asks = book.asks b }

abbrev pub no_orders : Lists
no_orders = record { bids = []; asks = [] }

abbrev pub answer_of : {A : Type 0} → (A → Answer) → Result A Fault → Result Answer Fault
answer_of f (Ok x) = Ok (f x)
answer_of f (Err e) = Err e

abbrev pub answered : Call → Lists → Result Answer Fault
answered (Enter s o) b = answer_of (λ _. Done) (enters (side_of s b))
answered (Take s v) b = answer_of (λ _. Done) (takes v (side_of s b))
answered (Remove n) b = answer_of Volume (removes n b.bids b.asks)
answered (Find n) b = answer_of At (found n b.bids b.asks)

-- one side is another list now, the other as it was
abbrev pub with_side : Side → List Resting → Lists → Lists
with_side s os b = record { bids = on s os b.bids; asks = on s b.asks os }

abbrev pub after : Call → Lists → Lists
after (Enter s o) b = with_side s (entered s o (side_of s b)) b
after (Take s v) b = with_side s (taken v (side_of s b)) b
after (Remove n) b = record { bids = bids_without n b.bids b.asks; asks = asks_without n b.bids b.asks }
after (Find n) b = b

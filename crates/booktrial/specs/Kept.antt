-- What the calls of a trial come to, one after another, and what they keep.
use Rattle.std.specs.Prelude.{◌≡◌, ℕ, ◌+◌, List, [], ◌∷◌, length, Ok, Err, Result}
use Rattle.std.specs.List.{AllByRecursion}
use Rattle.ordered.specs.Order.{InOrder}
use Rattle.book.specs.Priority.{ahead}
use Rattle.book.specs.declared.side.Side.TheVariants.{Bid, Ask}
use Rattle.booktrial.specs.Alike.{Alike}
use Rattle.booktrial.specs.Calls.{Lists, after, answered}
use Rattle.booktrial.specs.Counts.{tallied}
use Rattle.booktrial.specs.Plain.{after_plainly, answered_plainly}
use Rattle.booktrial.specs.declared.call.Call.{Call}
use Rattle.booktrial.specs.declared.difference.Difference.{Difference}
use Rattle.booktrial.specs.declared.difference.Difference.TheVariants.{AtTurn, WhenEmpty}
use Rattle.booktrial.specs.declared.tally.Tally.{Tally}

-- the lists after the calls
abbrev pub lists_after : List Call → Lists → Lists
lists_after [] b = b
lists_after (c ∷ cs) b = lists_after cs (after c b)

-- the tally after the calls, made of those lists
abbrev pub tally_after : List Call → Lists → Tally → Tally
tally_after [] b t = t
tally_after (c ∷ cs) b t = tally_after cs (after c b) (tallied c (answered c b) t)

-- so many calls were made, each of which P holds, and counted
pub record MakesCalls (P : Call → Type 0) (turns : ℕ) (old new : Lists) (before now : Tally) : Type 0 where
  pub calls : List Call
  pub each : AllByRecursion P calls
  pub count : length calls ≡ turns
  pub lists : new ≡ lists_after calls old
  pub tally : now ≡ tally_after calls old before

-- how many calls were made: all, or those up to the one that showed a difference
abbrev pub made : (turns : ℕ) → Result Unit Difference → ℕ
made n (Ok u) = n
made n (Err (AtTurn p t n')) = t + 1
made n (Err WhenEmpty) = 0

-- a call of the plain book and of another, by which they differ: in what they answer or in how they stand
pub record Differ (plain book : Lists) : Type 0 where
  pub call : Call
  pub plain_before : Lists
  pub book_before : Lists
  pub plain_after : plain ≡ after_plainly call plain_before
  pub book_after : book ≡ after call book_before
  pub unlike : (answered_plainly call plain_before ≡ answered call book_before) → Alike plain book → ⊥

-- both lists in priority order
pub record InPriority (b : Lists) : Type 0 where
  pub bids : InOrder (ahead Bid) b.bids
  pub asks : InOrder (ahead Ask) b.asks

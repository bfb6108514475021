-- The plain book: what it answers to each call, and what it makes of its lists.
use Rattle.std.specs.Prelude.{ℕ, Ok, Err, Result}
use Rattle.book.specs.Lists.{enters, position}
use Rattle.book.specs.declared.fault.Fault.{Fault}
use Rattle.book.specs.declared.side.Side.TheVariants.{Bid, Ask}
use Rattle.book.specs.declared.whole.Position.{Position}
use Rattle.booktrial.specs.Arrivals.{arrival_at, arrived, place_on, removed_from, taken_from, takes_from, volume_from}
use Rattle.booktrial.specs.Calls.{Lists, answer_of, side_of, with_side}
use Rattle.booktrial.specs.declared.call.Answer.{Answer}
use Rattle.booktrial.specs.declared.call.Answer.TheVariants.{Done, Volume, At}
use Rattle.booktrial.specs.declared.call.Call.{Call}
use Rattle.booktrial.specs.declared.call.Call.TheVariants.{Enter, Take, Remove, Find}

abbrev pub found_plainly : (number : ℕ) → Lists → Result Position Fault
found_plainly n b = position (place_on Bid n b.bids) (place_on Ask n b.asks)

abbrev pub removes_at : Result Position Fault → Lists → Result ℕ Fault
removes_at (Err e) b = Err e
removes_at (Ok p) b = volume_from (arrival_at p.side p.place (side_of p.side b))

abbrev pub removed_at : Result Position Fault → Lists → Lists
removed_at (Err e) b = b
removed_at (Ok p) b = with_side p.side (removed_from (arrival_at p.side p.place (side_of p.side b)) (side_of p.side b)) b

abbrev pub answered_plainly : Call → Lists → Result Answer Fault
answered_plainly (Enter s o) b = answer_of (λ _. Done) (enters (side_of s b))
answered_plainly (Take s v) b = answer_of (λ _. Done) (takes_from v (arrival_at s 0 (side_of s b)))
answered_plainly (Remove n) b = answer_of Volume (removes_at (found_plainly n b) b)
answered_plainly (Find n) b = answer_of At (found_plainly n b)

abbrev pub after_plainly : Call → Lists → Lists
after_plainly (Enter s o) b = with_side s (arrived o (side_of s b)) b
after_plainly (Take s v) b = with_side s (taken_from v (arrival_at s 0 (side_of s b)) (side_of s b)) b
after_plainly (Remove n) b = removed_at (found_plainly n b) b
after_plainly (Find n) b = b

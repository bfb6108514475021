-- The calls of a trial, one more at a time.
use Rattle.std.proofs.Common.{◌≡◌, ℕ, ◌+◌, List, [], ◌∷◌, ◌++◌, refl, length-append}
use Rattle.std.specs.List.{AllByRecursion}
use Rattle.book.proofs.Keeps.{keeps_order}
use Rattle.book.specs.declared.side.Side.TheVariants.{Bid, Ask}
use Rattle.booktrial.specs.Calls.{Lists, after, answered}
use Rattle.booktrial.specs.Counts.{tallied}
use Rattle.booktrial.specs.Kept.{InPriority, MakesCalls, lists_after, tally_after}
use Rattle.booktrial.specs.declared.call.Call.{Call}
use Rattle.booktrial.specs.declared.call.Call.TheVariants.{Enter, Take, Remove, Find}
use Rattle.booktrial.specs.declared.tally.Tally.{Tally}

lists_after-more : (cs : List Call) (c : Call) (b : Lists) → lists_after (cs ++ c ∷ []) b ≡ after c (lists_after cs b)
lists_after-more [] c b = refl
lists_after-more (d ∷ cs) c b = lists_after-more cs c (after d b)

tally_after-more : (cs : List Call) (c : Call) (b : Lists) (t : Tally)
    → tally_after (cs ++ c ∷ []) b t ≡ tallied c (answered c (lists_after cs b)) (tally_after cs b t)
tally_after-more [] c b t = refl
tally_after-more (d ∷ cs) c b t = tally_after-more cs c (after d b) (tallied d (answered d b) t)

module _ (P : Call → Type 0) where
  all_more : (cs : List Call) (c : Call) → AllByRecursion P cs → P c → AllByRecursion P (cs ++ c ∷ [])
  all_more [] c all one = (one, tt)
  all_more (d ∷ cs) c all one = (all.0, all_more cs c all.1 one)

  pub one_more : (c : Call) (n : ℕ) (old b b' : Lists) (before t t' : Tally) → MakesCalls P n old b before t → P c
      → b' ≡ after c b → t' ≡ tallied c (answered c b) t → MakesCalls P (n + 1) old b' before t'
  one_more c n old b b' before t t' made one books tally = record {
    calls = made.calls ++ c ∷ [];
    each = all_more made.calls c made.each one;
    count = rw (length-append, made.count);
    lists = rw (lists_after-more made.calls c old, ← made.lists) books;
    tally = rw (tally_after-more made.calls c old before, ← made.lists, ← made.tally) tally;
  }

-- any call keeps both lists in priority order
kept : (c : Call) (b : Lists) → InPriority b → InPriority (after c b)
kept (Enter Bid o) b p = record { bids = keeps_order.entering Bid o b.bids p.bids; asks = p.asks }
kept (Enter Ask o) b p = record { bids = p.bids; asks = keeps_order.entering Ask o b.asks p.asks }
kept (Take Bid v) b p = record { bids = keeps_order.taking Bid v b.bids p.bids; asks = p.asks }
kept (Take Ask v) b p = record { bids = p.bids; asks = keeps_order.taking Ask v b.asks p.asks }
kept (Remove n) b p = record { bids = keeps_order.removing_bids n b.bids b.asks p.bids; asks = keeps_order.removing_asks n b.bids b.asks p.asks }
kept (Find n) b p = p

all_keep : (cs : List Call) (b : Lists) → InPriority b → InPriority (lists_after cs b)
all_keep [] b p = p
all_keep (c ∷ cs) b p = all_keep cs (after c b) (kept c b p)

pub calls_keep : (P : Call → Type 0) (n : ℕ) (old new : Lists) (before now : Tally) → MakesCalls P n old new before now → InPriority old → InPriority new
calls_keep P n old new before now made p = rw made.lists (all_keep made.calls old p)

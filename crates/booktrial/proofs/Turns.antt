-- The turns of a trial, one more at a time.
use Rattle.std.proofs.Common.{◌≡◌, ◌<◌, ℕ, ◌+◌, subst, add-one, below_more}
use Rattle.booktrial.specs.Alike.{Alike}
use Rattle.booktrial.specs.Drawn.{MayDraw}
use Rattle.booktrial.specs.Kept.{MakesCalls}
use Rattle.booktrial.specs.Standing.{Standing}
use Rattle.booktrial.specs.Turns.{Agrees, Plays, after_turns, turned}
use Rattle.booktrial.specs.declared.draw.Phase.{Phase}

-- what the loop over turns keeps: the calls so far, after which all books stand alike
pub record Going (phase : Phase) (turn : ℕ) (old new : Standing) : Type 0 where
  pub made : MakesCalls (MayDraw phase) turn old.books new.books old.tally new.tally
  pub alike : 0 < turn → Alike new.plain new.books
  pub plays : Plays phase turn old new

pub plays_more : (phase : Phase) (n : ℕ) (old s s' : Standing) → Plays phase n old s → Agrees phase s → s' ≡ turned phase s → Plays phase (n + 1) old s'
plays_more phase n old s s' so_far agrees more = record {
  agree = below_more (λ k. Agrees phase (after_turns phase k old)) n so_far.agree (subst (Agrees phase) so_far.stands agrees);
  stands = rw (add-one, ← so_far.stands) more;
}

-- The turns of a trial, one after another.
use Rattle.std.specs.Prelude.{◌≡◌, ◌<◌, ℕ, zero, suc, Ok, Err, Result}
use Rattle.booktrial.specs.Alike.{Alike}
use Rattle.booktrial.specs.Calls.{answered}
use Rattle.booktrial.specs.Drawn.{Drawn, drawn}
use Rattle.booktrial.specs.Plain.{answered_plainly}
use Rattle.booktrial.specs.Standing.{Standing, called, weighed}
use Rattle.booktrial.specs.declared.difference.Difference.{Difference}
use Rattle.booktrial.specs.declared.difference.Difference.TheVariants.{AtTurn, WhenEmpty}
use Rattle.booktrial.specs.declared.draw.Phase.{Phase}

abbrev pub next_drawn : Phase → Standing → Drawn
next_drawn phase s = drawn phase s.plain s.state

-- a turn at which all agree
abbrev pub turned : Phase → Standing → Standing
turned phase s = weighed (called (next_drawn phase s) s)

abbrev pub after_turns : Phase → (turns : ℕ) → Standing → Standing
after_turns phase zero s = s
after_turns phase (suc n) s = turned phase (after_turns phase n s)

-- the next call is answered alike, and all stand alike after it
pub record Agrees (phase : Phase) (s : Standing) : Type 0 where
  pub answers : answered_plainly (next_drawn phase s).call s.plain ≡ answered (next_drawn phase s).call s.books
  pub sides : Alike (turned phase s).plain (turned phase s).books

-- all agreed at each of so many turns, and the trial stands as after them
pub record Plays (phase : Phase) (turns : ℕ) (old new : Standing) : Type 0 where
  pub agree : (k : ℕ) → k < turns → Agrees phase (after_turns phase k old)
  pub stands : new ≡ after_turns phase turns old

-- all agreed before this turn and not at it: its call was counted, and nothing weighed after it
pub record Stops (phase : Phase) (turn : ℕ) (old new : Standing) : Type 0 where
  pub before : Standing
  pub plays : Plays phase turn old before
  pub differs : Agrees phase before → ⊥
  pub stands : new ≡ called (next_drawn phase before) before

-- all turns, or those up to the one that showed a difference
abbrev pub Played : Phase → (turns : ℕ) → Result Unit Difference → (old new : Standing) → Type 0
Played phase turns (Ok u) old new = Plays phase turns old new
Played phase turns (Err (AtTurn p t n)) old new = Stops phase t old new
Played phase turns (Err WhenEmpty) old new = ⊥

-- The table's invariant, said of the side that stands.
use Rattle.std.proofs.Common.{ℕ, length, List, IfSome, Some, None, Option, subst, inl, inr}
use Rattle.std.proofs.lemmas.Bool.{cases_lt}
use Rattle.std.proofs.lemmas.List.{get_or_past}
use Rattle.quotes.specs.Soundness.{AllSound, Sound}
use Rattle.quotes.specs.Standing.{EverySideIsSound}
use Rattle.quotes.specs.Tables.{at, placed}
use Rattle.quotes.specs.declared.quote_side.QuoteSide.{QuoteSide}

sound_at : (place : Option ℕ) (sides : List (Option QuoteSide)) → AllSound sides → IfSome (at place sides) Sound
sound_at None sides h = tt
sound_at (Some i) sides h = elim (cases_lt i (length sides)) [ inl inside ↦ h i None inside | inr past ↦ rw get_or_past tt ]

pub every_sound : (sides : List (Option QuoteSide)) → AllSound sides → EverySideIsSound sides
every_sound sides h w s e = subst (λ side. IfSome side Sound) e (sound_at (placed w) sides h)

-- The sides that stand: each is sound, and a change of one leaves the others as they were.
use Rattle.std.specs.Prelude.{◌≡◌, List, Some, Option}
use Rattle.quotes.specs.Soundness.{Sound}
use Rattle.quotes.specs.Tables.{stands}
use Rattle.quotes.specs.declared.entry.Whose.{Whose}
use Rattle.quotes.specs.declared.quote_side.QuoteSide.{QuoteSide}

abbrev pub EverySideIsSound : List (Option QuoteSide) → Type 0
EverySideIsSound sides = (w : Whose) (s : QuoteSide) → stands w sides ≡ Some s → Sound s

-- that side is the new one, and every other side is what it was
pub record ChangesJustThat (w : Whose) (new : Option QuoteSide) (before after : List (Option QuoteSide)) : Type 0 where
  pub own : stands w after ≡ new
  pub others : (v : Whose) → ((v.executor ≡ w.executor) × (v.side ≡ w.side) → ⊥) → stands v after ≡ stands v before

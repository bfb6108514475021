-- What holds of every quote side, whatever was done.
use Rattle.std.specs.Prelude.{◌≡◌, ◌<◌, ◌≤◌, All, List, IfSome, IfOk, Option, Result}
use Rattle.quotes.specs.Entries.{read}
use Rattle.quotes.specs.declared.entry.Quote.{Quote}
use Rattle.quotes.specs.declared.entry.QuoteFields.{QuoteFields}
use Rattle.quotes.specs.declared.fault.Fault.{Fault}
use Rattle.quotes.specs.declared.quote_side.QuoteSide.{QuoteSide}

pub record Sound (s : QuoteSide) : Type 0 where
  pub displays_at_most_its_size : s.displayed ≤ s.size
  pub displays_less_only_with_an_empty_reserve : s.displayed < s.size → s.reserve ≡ 0
  pub relative_limit_in_range : (1 ≤ s.relative) × (s.relative ≤ 1000000)
  pub boundary_in_range : IfSome s.boundary (λ b. (1 ≤ b) × (b ≤ 100000000))
  pub size_in_range : (1 ≤ s.size) × (s.size ≤ 1000000)
  pub reserve_in_range : s.reserve ≤ 1000000000

-- whatever side stands at a place
abbrev pub AllSound : List (Option QuoteSide) → Type 0
AllSound sides = All (λ side. IfSome side Sound) sides

-- what a quote's fields are turned into: the quote that they say, its side sound, or the first fault
pub record GivesQuote (f : QuoteFields) (r : Result Quote Fault) : Type 0 where
  pub answer : r ≡ read f
  pub sound : IfOk r (λ q. Sound q.terms)

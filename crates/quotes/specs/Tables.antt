-- The sixteen sides, and what each call answers and makes of them.
use Rattle.std.specs.Prelude.{ℕ, ◌+◌, ◌-◌, ◌*◌, cond, List, Some, None, Ok, Option, Result, slice_index_or, slice_set}
use Rattle.std.specs.Option.{ok_or, option_and_then, option_map_or}
use Rattle.fields.specs.Ranges.{within}
use Rattle.fields.specs.Refusals.{and_then, changed}
use Rattle.book.specs.Sides.{on}
use Rattle.quotes.specs.Entries.{read, read_whose}
use Rattle.quotes.specs.Fills.{fills, total, volumes}
use Rattle.quotes.specs.declared.entry.QuoteFields.{QuoteFields}
use Rattle.quotes.specs.declared.entry.Whose.{Whose}
use Rattle.quotes.specs.declared.entry.WhoseFields.{WhoseFields}
use Rattle.quotes.specs.declared.fault.Fault.{Fault}
use Rattle.quotes.specs.declared.fault.Fault.TheVariants.{NoSide}
use Rattle.quotes.specs.declared.quote_side.QuoteSide.{QuoteSide}
use Rattle.quotes.specs.declared.quote_side.Volumes.{Volumes}

-- where a side has its place, of executors 1 to 8; others have none
abbrev pub placed : Whose → Option ℕ
placed w = cond (within 1 8 w.executor) (Some (2 * (w.executor - 1) + on w.side 0 1)) None

abbrev pub at : Option ℕ → List (Option QuoteSide) → Option QuoteSide
at None sides = None
at (Some i) sides = slice_index_or sides i None

abbrev pub put_at : Option ℕ → Option QuoteSide → List (Option QuoteSide) → List (Option QuoteSide)
put_at None new sides = sides
put_at (Some i) new sides = slice_set sides i new

-- the side that stands
abbrev pub stands : Whose → List (Option QuoteSide) → Option QuoteSide
stands w = at (placed w)

-- the table with a side, or none, in a side's place
abbrev pub put : Whose → Option QuoteSide → List (Option QuoteSide) → List (Option QuoteSide)
put w = put_at (placed w)

-- displayed and reserve, 0 where no side stands
abbrev pub total_of : Option QuoteSide → ℕ
total_of None = 0
total_of (Some s) = total s

-- Entry: the side is replaced whole, and the volume that stood is answered.
abbrev pub enters : QuoteFields → List (Option QuoteSide) → Result ℕ Fault
enters f sides = and_then (read f) (λ q. Ok (total_of (stands q.whose sides)))

abbrev pub entered : QuoteFields → List (Option QuoteSide) → List (Option QuoteSide)
entered f sides = changed (read f) (λ q. put q.whose (Some q.terms) sides) sides

-- Withdrawal: none is left, and the volume that stood is answered; refused where no side stands.
abbrev pub withdraws : WhoseFields → List (Option QuoteSide) → Result ℕ Fault
withdraws f sides =
    and_then (read_whose f) (λ w. and_then (ok_or (stands w sides) NoSide) (λ s. Ok (total s)))

abbrev pub withdrawn : WhoseFields → List (Option QuoteSide) → List (Option QuoteSide)
withdrawn f sides =
    changed (read_whose f) (λ w. changed (ok_or (stands w sides) NoSide) (λ _. put w None sides) sides) sides

-- Question: displayed and reserve, 0 and 0 where no side stands.
abbrev pub volumes_of : Option QuoteSide → Volumes
volumes_of None = record { displayed = 0; reserve = 0 }
volumes_of (Some s) = volumes s

abbrev pub tells : WhoseFields → List (Option QuoteSide) → Result Volumes Fault
tells f sides = and_then (read_whose f) (λ w. Ok (volumes_of (stands w sides)))

-- Fill: the side after it is answered and stands; none, and nothing changed, where no side stands or it displays less.
abbrev pub fills_at : Whose → ℕ → List (Option QuoteSide) → Option QuoteSide
fills_at w v sides = option_and_then (fills v) (stands w sides)

abbrev pub after_fill : Whose → ℕ → List (Option QuoteSide) → List (Option QuoteSide)
after_fill w v sides = option_map_or (λ s. put w (Some s) sides) (fills_at w v sides) sides

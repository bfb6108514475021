-- What the fields of a quote say, or the first of them that is out of range.
use Rattle.std.specs.Prelude.{cond, not, Ok, Err, Result}
use Rattle.fields.specs.Ranges.{nonzero, within}
use Rattle.fields.specs.Refusals.{and_then}
use Rattle.book.specs.Sides.{sided}
use Rattle.quotes.specs.declared.entry.Quote.{Quote}
use Rattle.quotes.specs.declared.entry.QuoteFields.{QuoteFields}
use Rattle.quotes.specs.declared.entry.Whose.{Whose}
use Rattle.quotes.specs.declared.entry.WhoseFields.{WhoseFields}
use Rattle.quotes.specs.declared.fault.Fault.{Fault}
use Rattle.quotes.specs.declared.fault.Fault.TheVariants.{Range}
use Rattle.quotes.specs.declared.fault.Field.TheVariants.{Executor, Side, Relative, Boundary, Size, Reserve}
use Rattle.quotes.specs.declared.quote_side.QuoteSide.{QuoteSide}

abbrev pub read_whose : WhoseFields → Result Whose Fault
read_whose f =
    cond (not (within 1 8 f.executor)) (Err (Range Executor))
    (cond (not (within 0 1 f.side)) (Err (Range Side))
    (Ok (record { executor = f.executor; side = sided f.side })))

-- a new side displays its size
abbrev pub new_side : QuoteFields → QuoteSide
new_side f =
    record { relative = f.relative; boundary = nonzero f.boundary; size = f.size; displayed = f.size; reserve = f.reserve }

abbrev pub read_terms : QuoteFields → Result QuoteSide Fault
read_terms f =
    cond (not (within 1 1000000 f.relative)) (Err (Range Relative))
    (cond (not (within 0 100000000 f.boundary)) (Err (Range Boundary))
    (cond (not (within 1 1000000 f.size)) (Err (Range Size))
    (cond (not (within 0 1000000000 f.reserve)) (Err (Range Reserve))
    (Ok (new_side f)))))

abbrev pub read : QuoteFields → Result Quote Fault
read f = and_then (read_whose f.whose) (λ w. and_then (read_terms f) (λ s. Ok (record { whose = w; terms = s })))

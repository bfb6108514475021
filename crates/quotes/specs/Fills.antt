-- What stands of a quote side, its fill and its refill.
use Rattle.std.specs.Prelude.{ℕ, ◌+◌, ◌-◌, min, cond, Some, None, Option, nat_le}
use Rattle.quotes.specs.declared.quote_side.QuoteSide.{QuoteSide}
use Rattle.quotes.specs.declared.quote_side.Volumes.{Volumes}

-- displayed and reserve
abbrev pub total : QuoteSide → ℕ
total s = s.displayed + s.reserve

abbrev pub volumes : QuoteSide → Volumes
volumes s = record { displayed = s.displayed; reserve = s.reserve }

abbrev pub with_volumes : (displayed reserve : ℕ) → QuoteSide → QuoteSide
with_volumes d r s = record { relative = s.relative; boundary = s.boundary; size = s.size; displayed = d; reserve = r }

-- what is displayed is raised up to the size, as far as the reserve goes
abbrev pub raise : QuoteSide → ℕ
raise s = min (s.size - s.displayed) s.reserve

abbrev pub refilled : QuoteSide → QuoteSide
refilled s = with_volumes (s.displayed + raise s) (s.reserve - raise s) s

-- the volume is taken from what is displayed; then the side is refilled
abbrev pub filled : ℕ → QuoteSide → QuoteSide
filled v s = refilled (with_volumes (s.displayed - v) s.reserve s)

abbrev pub fills : ℕ → QuoteSide → Option QuoteSide
fills v s = cond (nat_le v s.displayed) (Some (filled v s)) None

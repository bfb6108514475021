-- Priority on a side of a book.
use Rattle.std.specs.Prelude.{Bool, true, false, cond, not, ◌&&◌, nat_lt}
use Rattle.book.specs.Sides.{better}
use Rattle.book.specs.declared.side.Side.{Side}
use Rattle.book.specs.declared.resting.Resting.{Resting}

-- the better limit first; at one limit the visible order before the hidden one; then the lower number
abbrev pub ahead : Side → Resting → Resting → Bool
ahead s a b =
    cond (better s a.limit b.limit) true
    (cond (better s b.limit a.limit) false
    (cond (a.visible && not b.visible) true
    (cond (b.visible && not a.visible) false
    (nat_lt a.number b.number))))

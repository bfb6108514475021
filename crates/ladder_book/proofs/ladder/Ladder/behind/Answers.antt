use Rattle.std.proofs.Common.{◌+◌, refl, sym, subst, arith}
use mir.Facts.{Fits-below}
use Rattle.ladder_book.specs.Listed.{Sits}
use Rattle.ladder_book.proofs.Nodes.{next_at}
use Rattle.ladder_book.proofs.Sound.{size_short}
use Rattle.ladder_book.proofs.Seats.{behind_sits}
use Rattle.ladder_book.proofs.ladder.Ladder.behind.Goals as goal

pub overflow_add-result : goal.overflow_add-result
overflow_add-result c =
    let s = c.args.self.now in
    Fits-below {n = 129} tt (omega (arith, size_short s c.args.seat.level c.requires.sits.level, c.requires.some, s.room))

pub returns : goal.returns
returns c =
    let s = c.args.self.now in
    let t = c.args.seat in
    record {
      sits = subst (λ x. Sits s (record { level = t.level; passed = t.passed + 1; last = t.place; place = x })) (sym (next_at s.places t.place)) (behind_sits s t c.requires.sits c.requires.some);
      level = refl;
      passed = refl;
    }

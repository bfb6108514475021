use Rattle.std.proofs.Common.{◌≡◌, ◌+◌, ◌≤◌, length, arith}
use Rattle.ladder_book.specs.Listed.{listed, place_of}
use Rattle.ladder_book.proofs.Walks.{last_place}
use Rattle.ladder_book.proofs.ladder.Ladder.after.Goals as goal

pub returns-in_err-worse : goal.returns-in_err-worse
returns-in_err-worse c =
    let s = c.args.self.now in
    let none : 1 ≤ c.args.seat.level → ⊥ = c.in_err-worse.ensures in
    let worst : c.args.seat.level ≡ 0 = omega arith in
    let last = rw c.as_slice.ensures at c.if-behind-as_slice.false in
    let end : place_of s c.args.seat + 1 ≡ length (listed s) = last_place s c.args.seat c.requires worst (omega (arith, last, c.behind-behind.ensures.passed)) in
    rw c.from_residual.ensures end

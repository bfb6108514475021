use Rattle.std.proofs.Common.{rules, ◌≡◌, ◌∙◌, ◌++◌, ap, sym, true}
use borrow.Author.Tests.{tests}
use Rattle.std.specs.Result.{IsOk}
use Rattle.book.specs.Sides.{reaches}
use Rattle.book.specs.declared.side.Side.TheVariants.{Ask}
use Rattle.book.specs.Reading.{left}
use Rattle.worked_fill.proofs.Writing.{one_more, swept_more}
use Rattle.worked_fill.specs.Text.{lot_line, swept_text}
use Rattle.worked_fill.proofs.account.write_swept.Goals as goal

pub loop-ask-preserved : goal.loop-ask-preserved
loop-ask-preserved g c plain =
    let before = c.loop-ask.invariant plain in
    let ok : IsOk c.writeln.result = search rules in
    let reached : reaches Ask c.in-Some.ask.limit c.args.price ≡ true = search (rules, tests) in
    let more = swept_text c.args.price (left g.B.ReadBook c.next.new.self) in
    one_more (lot_line c.from.result) more before
    (ap (swept_text c.args.price) c.in-Some.ensures.steps ∙ swept_more c.args.price c.in-Some.ask _ reached ∙ ap (λ lot. lot_line lot ++ more) (sym c.from.ensures))
    (c.writeln.ensures.writes before.wrote.plain ok)

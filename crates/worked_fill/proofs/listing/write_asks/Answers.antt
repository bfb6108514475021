use Rattle.std.proofs.Common.{rules, ◌≡◌, ap}
use Rattle.std.specs.Result.{IsOk}
use Rattle.book.specs.Reading.{left}
use Rattle.worked_fill.proofs.Writing.{at_first, one_more}
use Rattle.worked_fill.specs.Text.{ask_text, asks_text}
use Rattle.worked_fill.proofs.listing.write_asks.Goals as goal

pub loop-order-init : goal.loop-order-init
loop-order-init g c plain =
    let whole : left g.B.ReadBook c.into_iter-order-iterator.result ≡ g.B.ReadBook.asks c.args.book.now = search rules in
    at_first (ap (asks_text c.args.hidden) whole) plain

pub loop-order-preserved : goal.loop-order-preserved
loop-order-preserved g c plain =
    let before = c.loop-order.invariant plain in
    let ok : IsOk c.write_ask.result = search rules in
    one_more (ask_text c.args.hidden c.in-Some.order) (asks_text c.args.hidden (left g.B.ReadBook c.next.new.self)) before
    (ap (asks_text c.args.hidden) c.in-Some.ensures.steps) (c.write_ask.ensures before.wrote.plain ok)

use Rattle.std.proofs.Common.{◌≡◌, rules, ◌∙◌, Err}
use Rattle.book.specs.Lists.{entered, enters}
use Rattle.book.specs.Samples.{shown, unseen}
use Rattle.book.specs.declared.side.Side.TheVariants.{Ask}
use Rattle.worked_fill.proofs.Room.{room_for_three, full_for_three}
use Rattle.worked_fill.proofs.sample.enter_asks.Goals as goal

pub returns-in_err-enter-2-clause-answer : goal.returns-in_err-enter-2-clause-answer
returns-in_err-enter-2-clause-answer g c =
    let asks = g.B.ReadBook.asks c.args.book.now in
    let e = c.in_err-enter-2.field-0.0 in
    let told : enters (entered Ask (shown 1 320 54460) asks) ≡ Err e = search rules in
    let passed : c.from_residual-in_err-enter-2.result ≡ Err e = search rules in
    passed ∙ full_for_three Ask (shown 1 320 54460) asks e told

pub returns-clause-answer : goal.returns-clause-answer
returns-clause-answer g c =
    let asks = g.B.ReadBook.asks c.args.book.now in
    let told : c.enter-3.result ≡ enters (entered Ask (unseen 2 50 54410) (entered Ask (shown 1 320 54460) asks)) = search rules in
    told ∙ room_for_three Ask (shown 1 320 54460) (unseen 2 50 54410) asks

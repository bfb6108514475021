use Rattle.std.proofs.Common.{◌∙◌, not, refl, rules}
use borrow.Author.Tests.{tests}
use Rattle.std.proofs.lemmas.Iterator.Consumers.{count_from_yields_List, YieldsList-at, YieldsList-from_first}
use Rattle.std.proofs.lemmas.Iterator.Search.{YieldsList-from_take_while}
use Rattle.std.proofs.lemmas.List.Folds.{length-prefix_len}
use Rattle.book.specs.Reading.{left}
use Rattle.pricing.proofs.LeftOut.{leaves_out_at}
use Rattle.pricing.proofs.counting.hidden_in_front.Goals as goal

pub returns-clause-answer : goal.returns-clause-answer
returns-clause-answer g c =
    let t = c.take_while.ensures in
    let os = left g.B.ReadBook c.args.orders in
    let counted = count_from_yields_List c.take_while.result c.count.result c.count.ensures.ran
    (YieldsList-from_take_while _ (λ o. not o.visible)
    (YieldsList-at t.source (YieldsList-from_first (λ x. x) (left g.B.ReadBook) os refl))
    t.closure t.done (λ x b q k. search (rules, tests))) in
    counted ∙ length-prefix_len (λ o. not o.visible) os

pub returns-clause-meaning : goal.returns-clause-meaning
returns-clause-meaning g c = leaves_out_at _ _ _ (returns-clause-answer g c)

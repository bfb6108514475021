use Rattle.std.proofs.Common.{refl, ◌∙◌, rules}
use Rattle.std.proofs.lemmas.Iterator.Adapters.{position_from-zero}
use Rattle.std.proofs.lemmas.Iterator.Consumers.{YieldsList-from_first}
use Rattle.std.proofs.lemmas.Iterator.Search.{position_from_yields_List}
use Rattle.book.specs.Lists.{has_number}
use Rattle.ladder_book.specs.Walks.{left}
use Rattle.ladder_book.proofs.walk.Walk.before.Goals as goal

pub returns : goal.returns
returns c =
    position_from_yields_List (has_number c.args.number) c.position.new.self _ c.position.result c.position.ensures.ran (YieldsList-from_first (λ x. x) left (left c.args.self) refl) (λ x b q k. search rules)
    ∙ position_from-zero (has_number c.args.number) (left c.args.self)

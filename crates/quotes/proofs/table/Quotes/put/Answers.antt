use Rattle.std.proofs.Common.{IfSome}
use Rattle.std.proofs.lemmas.List.Elements.{All-set}
use Rattle.quotes.specs.Soundness.{Sound}
use Rattle.quotes.proofs.table.Quotes.put.Goals as goal

pub invariant_of-self-clause-sound : goal.invariant_of-self-clause-sound
invariant_of-self-clause-sound c =
    All-set (λ side. IfSome side Sound) c.args.self.now.sides c.in-Some.place c.args.side c.requires.sound c.args.self.now.sound

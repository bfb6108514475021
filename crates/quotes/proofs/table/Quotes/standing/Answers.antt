use Rattle.quotes.proofs.Sounds.{every_sound}
use Rattle.quotes.proofs.table.Quotes.standing.Goals as goal

pub returns-in_err-place-clause-all : goal.returns-in_err-place-clause-all
returns-in_err-place-clause-all c = every_sound c.args.self.now.sides c.args.self.now.sound

pub returns-clause-all : goal.returns-clause-all
returns-clause-all c = every_sound c.args.self.now.sides c.args.self.now.sound

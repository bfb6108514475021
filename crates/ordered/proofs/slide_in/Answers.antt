use Rattle.ordered.proofs.Slides.{risen, kept_risen}
use Rattle.ordered.proofs.slide_in.Goals as goal

pub returns : goal.returns
returns g c =
    let xs = c.args.slots.now in
    let e = risen xs c.args.used c.args.place c.requires.place c.requires.used c.args.item c.copy_within.new.self c.copy_within.ensures.after in
    record { slots = e; kept = kept_risen xs c.args.used c.args.place c.requires.place c.requires.used c.args.item _ _ e }

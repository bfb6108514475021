use Rattle.ordered.proofs.Slides.{sunk, kept_sunk}
use Rattle.ordered.proofs.slide_out.Goals as goal

pub returns : goal.returns
returns g c =
    let xs = c.args.slots.now in
    let e = sunk xs c.args.used c.args.place c.requires.place c.requires.used c.copy_within.new.self c.copy_within.ensures.after in
    record { slots = e; kept = kept_sunk xs c.args.used c.args.place c.requires.place c.requires.used _ _ e }

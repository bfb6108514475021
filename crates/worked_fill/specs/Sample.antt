-- The asks that are entered, and what a list of asks becomes by them.
use Rattle.std.specs.Prelude.{◌+◌, List, [], ◌∷◌, length, cond, Result, Ok, Err, nat_le, fold}
use Rattle.book.specs.Lists.{capacity, entered}
use Rattle.book.specs.Samples.{shown, unseen}
use Rattle.book.specs.declared.fault.Fault.{Fault}
use Rattle.book.specs.declared.fault.Fault.TheVariants.{Full}
use Rattle.book.specs.declared.resting.Resting.{Resting}
use Rattle.book.specs.declared.side.Side.TheVariants.{Ask}

-- as they come
abbrev pub sample : List Resting
sample = shown 1 320 54460 ∷ unseen 2 50 54410 ∷ shown 3 170 54390 ∷ []

-- each in its turn, as far as there is room
abbrev pub entered_sample : List Resting → List Resting
entered_sample asks = fold (λ os o. entered Ask o os) asks sample

-- there is room for all of them, or not
abbrev pub enters_sample : List Resting → Result Unit Fault
enters_sample asks = cond (nat_le (length asks + length sample) capacity) (Ok tt) (Err Full)

-- A list with its first order at another volume.
use Rattle.std.specs.Prelude.{ℕ, List, [], ◌∷◌}
use Rattle.book.specs.declared.resting.Resting.{Resting}

abbrev pub resized : ℕ → List Resting → List Resting
resized v [] = []
resized v (o ∷ os) = record { number = o.number; member = o.member; limit = o.limit; volume = v; visible = o.visible } ∷ os

-- A call whose fields are read first: a refusal is passed on, and leaves what stood.
use Rattle.std.specs.Prelude.{Ok, Err, Result}

-- what is answered
abbrev pub and_then : {A B E : Type 0} → Result A E → (A → Result B E) → Result B E
and_then (Ok x) f = f x
and_then (Err e) f = Err e

-- what stands then
abbrev pub changed : {A E S : Type 0} → Result A E → (A → S) → S → S
changed (Ok x) f before = f x
changed (Err e) f before = before

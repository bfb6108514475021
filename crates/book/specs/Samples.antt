-- Orders for worked examples.
use Rattle.std.specs.Prelude.{ℕ, true, false}
use Rattle.book.specs.declared.resting.Resting.{Resting}

abbrev pub shown : (number volume limit : ℕ) → Resting
shown n v l = record { number = n; member = 40; limit = l; volume = v; visible = true }

abbrev pub unseen : (number volume limit : ℕ) → Resting
unseen n v l = record { number = n; member = 40; limit = l; volume = v; visible = false }

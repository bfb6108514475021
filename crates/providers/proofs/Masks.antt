-- The bits of a mask, one for each executor.
use Rattle.std.proofs.Common.{◌≡◌, ℕ, ◌+◌, ◌*◌, ◌/◌, ◌%◌, ◌^◌, ◌<◌, cond, eqb, refl, ap, ◌∙◌, inl, inr, arith}
use lib.Count.{ones, ones_step}
use Rattle.std.proofs.lemmas.Nat.{shr-shr}
use Rattle.std.proofs.lemmas.Bool.{cases_Bool, eqb-false, eqb-true}
use Rattle.providers.specs.Lookups.{MasksAreTheirExecutors}
use Rattle.providers.specs.Settings.{agreements_in}

bit : (n w : ℕ) → cond (eqb (n % 2) 1) w 0 ≡ w * (n % 2)
bit n w =
    elim (cases_Bool (eqb (n % 2) 1)) [
      | inl t ↦ let e : n % 2 ≡ 1 = eqb-true (n % 2) 1 t in rw (t, e) (omega arith)
      | inr t ↦ let e : n % 2 ≡ 0 = omega (arith, eqb-false (n % 2) 1 t) in rw (t, e) (omega arith)
    ]

-- the ones from bit j on
from : (n j : ℕ) → ones (n / 2 ^ j) ≡ n / 2 ^ j % 2 + ones (n / 2 ^ (j + 1))
from n j = ones_step (n / 2 ^ j) ∙ ap (λ x. n / 2 ^ j % 2 + ones x) (shr-shr n j 1)

none : ones 0 ≡ 0
unfolding ones
none = refl

pub ones_are_agreements : (mask : ℕ) → mask < 256 → ones mask ≡ agreements_in mask
ones_are_agreements mask h =
    let all : ones mask ≡ ones (mask / 1) = ap ones (omega arith) in
    let past : ones (mask / 256) ≡ ones 0 = ap ones (omega arith) in
    simp bit (omega (arith, none, from mask 0, from mask 1, from mask 2, from mask 3, from mask 4, from mask 5, from mask 6, from mask 7))

pub masks_are_their_executors : MasksAreTheirExecutors
masks_are_their_executors mask h = simp bit (omega arith)

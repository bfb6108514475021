-- What is looked up of a member.
use Rattle.std.specs.Prelude.{◌≡◌, ℕ, ◌-◌, ◌/◌, ◌%◌, ◌^◌, ◌<◌, Bool, false, cond, ◌&&◌, ◌||◌, List, [], ◌∷◌, Some, None, sum_by, find, Option, ◌==◌, option_and_then}
use Rattle.fields.specs.Ranges.{within}
use Rattle.providers.specs.Members.{has_member}
use Rattle.providers.specs.declared.provider.Provider.{Provider}

-- the first provider of a member
abbrev pub provider_of : ℕ → List Provider → Option Provider
provider_of m = find (has_member m)

abbrev pub default_in : Option Provider → Option ℕ
default_in = option_and_then (λ p. p.default)

abbrev pub default_of : ℕ → List Provider → Option ℕ
default_of m ps = default_in (provider_of m ps)

-- the executors in a mask
abbrev pub executors : List ℕ
executors = 1 ∷ 2 ∷ 3 ∷ 4 ∷ 5 ∷ 6 ∷ 7 ∷ 8 ∷ []

-- bit k - 1 stands for the executor k
abbrev pub agreed : (mask k : ℕ) → Bool
agreed mask k = within 1 8 k && mask / 2 ^ (k - 1) % 2 == 1

-- a mask is the sum of the bits of the executors that it agrees with
abbrev pub MasksAreTheirExecutors : Type 0
MasksAreTheirExecutors = (mask : ℕ) → mask < 256 → mask ≡ sum_by (λ k. cond (agreed mask k) (2 ^ (k - 1)) 0) executors

abbrev pub agreed_in : Option Provider → ℕ → Bool
agreed_in None k = false
agreed_in (Some p) k = agreed p.agreements k

-- a member always agrees with itself
abbrev pub agrees : (member executor : ℕ) → List Provider → Bool
agrees m k ps = m == k || agreed_in (provider_of m ps) k

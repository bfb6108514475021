-- What a setting changes.
use Rattle.std.specs.Prelude.{◌≡◌, ℕ, cond, ◌||◌, List, Some, None, count_by, ◌==◌, ◌≢◌}
use Rattle.providers.specs.Lookups.{agreed, agreed_in, agrees, default_of, executors, provider_of}
use Rattle.providers.specs.Settings.{says_nothing}
use Rattle.providers.specs.declared.provider.Provider.{Provider}

-- the look-ups of the member that is set give what was set, and those of every other member are as they were; a provider that
-- says nothing does not stand; and n executors are agreed with then
pub record SetsJustThat (p : Provider) (n : ℕ) (before after : List Provider) : Type 0 where
  pub own : provider_of p.member after ≡ cond (says_nothing p) None (Some p)
  pub own_default : default_of p.member after ≡ p.default
  pub own_agreements : (k : ℕ) → agrees p.member k after ≡ (p.member == k || agreed p.agreements k)
  pub own_count : n ≡ count_by (agreed_in (provider_of p.member after)) executors
  pub other : (m : ℕ) → (m ≢ p.member) → provider_of m after ≡ provider_of m before
  pub other_default : (m : ℕ) → (m ≢ p.member) → default_of m after ≡ default_of m before
  pub other_agreements : (m k : ℕ) → (m ≢ p.member) → agrees m k after ≡ agrees m k before

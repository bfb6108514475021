-- Providers by their members.
use Rattle.std.specs.Prelude.{ℕ, ◌≤◌, Bool, List, IfSome, count_by, ◌==◌, nat_lt}
use Rattle.std.specs.List.{AllByRecursion}
use Rattle.ordered.specs.Order.{InOrder}
use Rattle.providers.specs.declared.provider.Provider.{Provider}

abbrev pub by_member : Unit {0} → Provider → Provider → Bool
by_member by p q = nat_lt p.member q.member

abbrev pub has_member : ℕ → Provider → Bool
has_member m p = m == p.member

pub record MembersStandInOrderAndOnce (ps : List Provider) : Type 0 where
  pub in_order : InOrder (by_member tt) ps
  pub once : (m : ℕ) → count_by (has_member m) ps ≤ 1

-- a default is 1 or more, since 0 says none
abbrev pub DefaultsAreNumbered : List Provider → Type 0
DefaultsAreNumbered = AllByRecursion (λ p. IfSome p.default (λ executor. 1 ≤ executor))

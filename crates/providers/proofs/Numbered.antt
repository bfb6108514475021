-- What each provider of a list keeps, as that its default is not 0.
use Rattle.std.proofs.Common.{◌≡◌, ℕ, zero, suc, ◌≤◌, Bool, List, [], ◌∷◌, set, IfSome, Some, find, sym, subst, inl, inr}
use Rattle.std.specs.List.{AllByRecursion, remove}
use Rattle.std.proofs.lemmas.Bool.{cases_Bool, cond_both}
use Rattle.ordered.specs.Order.{inserted}
use Rattle.providers.specs.Lookups.{provider_of}
use Rattle.providers.specs.Members.{DefaultsAreNumbered, has_member}
use Rattle.providers.specs.declared.provider.Provider.{Provider}

module _ {X : Type 0} (P : X → Type 0) where
  pub all_removed : (xs : List X) (i : ℕ) → AllByRecursion P xs → AllByRecursion P (remove xs i)
  all_removed [] zero h = tt
  all_removed [] (suc i) h = tt
  all_removed (x ∷ xs) zero h = h.1
  all_removed (x ∷ xs) (suc i) h = (h.0, all_removed xs i h.1)

  pub all_set : (x : X) (xs : List X) (i : ℕ) → P x → AllByRecursion P xs → AllByRecursion P (set xs i x)
  all_set x [] i p h = tt
  all_set x (y ∷ ys) zero p h = (p, h.1)
  all_set x (y ∷ ys) (suc i) p h = (h.0, all_set x ys i p h.1)

  pub all_inserted : (ahead : X → X → Bool) (x : X) (xs : List X) → P x → AllByRecursion P xs → AllByRecursion P (inserted ahead x xs)
  all_inserted ahead x [] p h = (p, tt)
  all_inserted ahead x (y ∷ ys) p h =
      cond_both (ahead x y) _ _ (AllByRecursion P) (λ _. (p, h)) (λ _. (h.0, all_inserted ahead x ys p h.1))

  all_found : (test : X → Bool) (xs : List X) → AllByRecursion P xs → IfSome (find test xs) P
  all_found test [] h = tt
  all_found test (x ∷ xs) h =
      elim (cases_Bool (test x)) [ inl t ↦ rw t h.0 | inr t ↦ rw t (all_found test xs h.1) ]

pub found_numbered : (m : ℕ) (ps : List Provider) (p : Provider) → DefaultsAreNumbered ps → Some p ≡ provider_of m ps → IfSome p.default (λ executor. 1 ≤ executor)
found_numbered m ps p h e =
    let numbered : Provider → Type 0 = λ q. IfSome q.default (λ executor. 1 ≤ executor) in
    subst (λ o. IfSome o numbered) (sym e) (all_found numbered (has_member m) ps h)

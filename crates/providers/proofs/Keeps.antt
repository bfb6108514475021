-- What a setting makes of the look-ups.
use Rattle.std.proofs.Common.{◌≡◌, ℕ, zero, suc, ◌≤◌, true, false, cond, ◌||◌, eqb, ltb, List, [], ◌∷◌, set, is_none, Some, None, Ok, Err, count_by, Option, Result, sym, refl, ap, ◌∙◌, inl, inr, arith}
use native.Mathlib.Nat.{zero-div}
use Rattle.std.specs.List.{remove}
use Rattle.std.specs.Map.{update}
use Rattle.std.proofs.lemmas.Map.{update_apart, update_here}
use Rattle.std.proofs.lemmas.Bool.{and_parts, and_right, cases_Bool, cond_both, eqb-true}
use Rattle.std.proofs.lemmas.Bool.Decides.{nat_tests}
use Rattle.fields.specs.Ranges.{within}
use Rattle.ordered.proofs.Finds.{Hits, Misses, place_hits, place_misses}
use Rattle.ordered.specs.Bounded.{has_room}
use Rattle.ordered.specs.Order.{inserted}
use Rattle.providers.proofs.Places.{counted, counted_one, found_none, found_nowhere}
use Rattle.providers.specs.Keeping.{SetsJustThat}
use Rattle.providers.specs.Lookups.{agreed, agreed_in, default_in, executors, provider_of}
use Rattle.providers.specs.Members.{by_member, has_member, MembersStandInOrderAndOnce}
use Rattle.providers.specs.Reading.{read}
use Rattle.providers.specs.Settings.{agreements_in, capacity, placed, put, put_at, puts, puts_at, says_nothing, sets, settled}
use Rattle.providers.specs.declared.fault.Fault.{Fault}
use Rattle.providers.specs.declared.fault.Fault.TheVariants.{Full}
use Rattle.providers.specs.declared.provider.Provider.{Provider}
use Rattle.providers.specs.declared.provider.ProviderFields.{ProviderFields}

-- each member's provider, where that of one is another now
abbrev with : List Provider → ℕ → Option Provider → ℕ → Option Provider
with ps m x q = update eqb (λ n. provider_of n ps) m x q

after_set : (p : Provider) (ps : List Provider) (i : ℕ) → Hits (has_member p.member) ps i → (q : ℕ) → provider_of q (set ps i p) ≡ with ps p.member (Some p) q
after_set p [] i h q = absurd h
after_set p (y ∷ ys) zero h q = grind (arith, nat_tests)
after_set p (y ∷ ys) (suc i) h q = let ih = after_set p ys i h.1 q in grind (arith, nat_tests, h.0)

-- the one that goes was the only one of its member
after_removal : (m : ℕ) (ps : List Provider) (i : ℕ) → Hits (has_member m) ps i → count_by (has_member m) ps ≤ 1 → (q : ℕ) → provider_of q (remove ps i) ≡ with ps m None q
after_removal m [] i h once q = absurd h
after_removal m (y ∷ ys) zero h once q =
    let gone = found_none (has_member m) ys (omega (arith, counted_one (has_member m) y ys h)) in
    elim (cases_Bool (eqb m q)) [ inl t ↦ rw (t, ← eqb-true m q t, gone) | inr t ↦ let u : eqb q y.member ≡ false = grind (arith, nat_tests) in rw (t, u) ]
after_removal m (y ∷ ys) (suc i) h once q =
    let more = counted (has_member m) y ys in
    let ih = after_removal m ys i h.1 (omega (arith, more)) q in grind (arith, nat_tests, h.0)

after_insertion : (p : Provider) (ps : List Provider) → Misses (has_member p.member) ps → (q : ℕ) → provider_of q (inserted (by_member tt) p ps) ≡ with ps p.member (Some p) q
after_insertion p [] m q = grind (arith, nat_tests)
after_insertion p (y ∷ ys) m q =
    let ih = after_insertion p ys m.1 q in
    cond_both (ltb p.member y.member) _ _ (λ zs. provider_of q zs ≡ with (y ∷ ys) p.member (Some p) q) (λ _. grind (arith, nat_tests)) (λ _. grind (arith, nat_tests, m.0))

same_without : (m : ℕ) (ps : List Provider) → Misses (has_member m) ps → (q : ℕ) → provider_of q ps ≡ with ps m None q
same_without m ps h q =
    elim (cases_Bool (eqb m q)) [ inl t ↦ rw (t, ← eqb-true m q t) (found_nowhere (has_member m) ps h) | inr t ↦ rw t ]

-- who stands for the member that is set
abbrev standing : Provider → Option Provider
standing p = cond (says_nothing p) None (Some p)

module _ (p : Provider) (n : ℕ) (ps : List Provider) (s : MembersStandInOrderAndOnce ps) where
  after_put_at : (o : Option ℕ) → placed p.member ps ≡ o → puts_at o p ps ≡ Ok n → (q : ℕ) → provider_of q (put_at o p ps) ≡ with ps p.member (standing p) q
  after_put_at (Some i) e ok q =
      let h = place_hits (has_member p.member) ps i e in
      elim (cases_Bool (says_nothing p)) [
        | inl t ↦ rw t (after_removal p.member ps i h (s.once p.member) q)
        | inr t ↦ rw t (after_set p ps i h q)
      ]
  after_put_at None e ok q =
      let m = place_misses (has_member p.member) ps e in
      elim (cases_Bool (says_nothing p)) [
        | inl t ↦ rw t (same_without p.member ps m q)
        | inr t ↦ elim (cases_Bool (has_room capacity ps)) [
          | inl room ↦ rw (t, room) (after_insertion p ps m q)
          | inr full ↦ absurd (let no : Err Full ≡ Ok n = rw (t, full) at ok in grind arith)
        ]
      ]

  after_put : puts p ps ≡ Ok n → (q : ℕ) → provider_of q (put p ps) ≡ with ps p.member (standing p) q
  after_put ok q = after_put_at (placed p.member ps) refl ok q

-- one that says nothing has no default and no agreement
nothing_default : (o : Option ℕ) → is_none o ≡ true → None ≡ o
nothing_default None h = refl
nothing_default (Some d) h = absurd (grind arith)

default_standing : (p : Provider) → default_in (standing p) ≡ p.default
default_standing p =
    elim (cases_Bool (says_nothing p)) [ inl t ↦ rw t (nothing_default p.default (and_parts _ _ t).1) | inr t ↦ rw t ]

nothing_agreed : (k : ℕ) → false ≡ agreed 0 k
nothing_agreed k = rw zero-div (sym (and_right (within 1 8 k) false refl))

agreed_standing : (p : Provider) (k : ℕ) → agreed_in (standing p) k ≡ agreed p.agreements k
agreed_standing p k =
    elim (cases_Bool (says_nothing p)) [
      | inl t ↦ rw (t, eqb-true p.agreements 0 (and_parts _ _ t).0) (nothing_agreed k)
      | inr t ↦ rw t
    ]

count_standing : (p : Provider) → count_by (agreed_in (standing p)) executors ≡ agreements_in p.agreements
count_standing p =
    elim (cases_Bool (says_nothing p)) [
      | inl t ↦ rw (t, eqb-true p.agreements 0 (and_parts _ _ t).0)
      | inr t ↦ rw t
    ]

counted_at : (p : Provider) (n : ℕ) (ps : List Provider) (o : Option ℕ) → puts_at o p ps ≡ Ok n → n ≡ agreements_in p.agreements
counted_at p n ps (Some i) ok = cc
counted_at p n ps None ok =
    elim (cases_Bool (says_nothing p || has_room capacity ps)) [
      | inl t ↦ let told : Ok (agreements_in p.agreements) ≡ Ok n = rw t at ok in cc
      | inr t ↦ absurd (let no : Err Full ≡ Ok n = rw t at ok in grind arith)
    ]

module _ (p : Provider) (n : ℕ) (ps : List Provider) (s : MembersStandInOrderAndOnce ps) (ok : puts p ps ≡ Ok n) where
  own : provider_of p.member (put p ps) ≡ standing p
  own = after_put p n ps s ok p.member ∙ update_here (λ n. provider_of n ps) p.member (standing p)

  other : (m : ℕ) → (m ≡ p.member → ⊥) → provider_of m (put p ps) ≡ provider_of m ps
  other m apart = after_put p n ps s ok m ∙ update_apart (λ n. provider_of n ps) p.member (standing p) m apart

  puts_just_that : SetsJustThat p n ps (put p ps)
  puts_just_that = record {
    own = own;
    other = other;
    own_default = ap default_in own ∙ default_standing p;
    own_agreements = λ k. ap (λ o. eqb p.member k || agreed_in o k) own ∙ ap (λ b. eqb p.member k || b) (agreed_standing p k);
    own_count = counted_at p n ps (placed p.member ps) ok ∙ sym (ap (λ o. count_by (agreed_in o) executors) own ∙ count_standing p);
    other_default = λ m apart. ap default_in (other m apart);
    other_agreements = λ m k apart. ap (λ o. eqb m k || agreed_in o k) (other m apart);
  }

pub sets_just_that : (f : ProviderFields) (p : Provider) (n : ℕ) (before after : List Provider) (r : Result ℕ Fault) → MembersStandInOrderAndOnce before
    → r ≡ sets f before → after ≡ settled f before → read f ≡ Ok p → r ≡ Ok n → SetsJustThat p n before after
sets_just_that f p n before after r s answer done e ok =
    let told : puts p before ≡ Ok n = rw (answer, e) at ok in
    rw (done, e) (puts_just_that p n before s told)

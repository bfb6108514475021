-- Members stay in order and once.
use Rattle.std.proofs.Common.{◌≡◌, ℕ, zero, suc, ◌+◌, ◌≤◌, Bool, cond, not, ◌&&◌, eqb, ltb, List, [], ◌∷◌, map, set, count_by, refl, ap, sym, ◌∙◌, inl, inr, arith, rules}
use Rattle.std.specs.List.{remove}
use Rattle.std.proofs.lemmas.Bool.{cases_Bool, cond_both, eqb-true}
use Rattle.ordered.proofs.Finds.{Hits, Misses}
use Rattle.ordered.proofs.Keeps.{keeps_order, removal_keeps}
use Rattle.ordered.specs.Order.{in_order, inserted, none_ahead}
use Rattle.providers.proofs.Places.{counted, counted_nowhere}
use Rattle.providers.specs.Members.{MembersStandInOrderAndOnce, by_member, has_member}
use Rattle.providers.specs.declared.provider.Provider.{Provider}

module _ {X : Type 0} (test : X → Bool) where
  removal_counts : (xs : List X) (i : ℕ) → count_by test (remove xs i) ≤ count_by test xs
  removal_counts [] zero = omega arith
  removal_counts [] (suc i) = omega arith
  removal_counts (x ∷ xs) zero = omega (arith, counted test x xs)
  removal_counts (x ∷ xs) (suc i) = omega (arith, counted test x xs, counted test x (remove xs i), removal_counts xs i)

  insertion_counts : (ahead : X → X → Bool) (x : X) (xs : List X) → count_by test (inserted ahead x xs) ≡ cond (test x) 1 0 + count_by test xs
  insertion_counts ahead x [] = counted test x []
  insertion_counts ahead x (y ∷ ys) =
      let ih = insertion_counts ahead x ys in
      cond_both (ahead x y) _ _ (λ zs. count_by test zs ≡ cond (test x) 1 0 + count_by test (y ∷ ys))
      (λ _. counted test x (y ∷ ys))
      (λ _. omega (arith, counted test y ys, counted test y (inserted ahead x ys), ih))

-- both are said of the members alone, and a write over a provider of its own member leaves those
abbrev members : List Provider → List ℕ
members ps = map (λ p. p.member) ps

none_ahead-members : (p : Provider) (ps : List Provider) → none_ahead (by_member tt) p ps ≡ none_ahead ltb p.member (members ps)
none_ahead-members p [] = refl
none_ahead-members p (q ∷ qs) = ap (λ b. not (ltb q.member p.member) && b) (none_ahead-members p qs)

in_order-members : (ps : List Provider) → in_order (by_member tt) ps ≡ in_order ltb (members ps)
in_order-members [] = refl
in_order-members (p ∷ ps) = rw (none_ahead-members p ps, in_order-members ps)

count-members : (m : ℕ) (ps : List Provider) → count_by (has_member m) ps ≡ count_by (eqb m) (members ps)
count-members m [] = refl
count-members m (p ∷ ps) = rw (counted (has_member m) p ps, counted (eqb m) p.member (members ps), count-members m ps)

members-set : (p : Provider) (ps : List Provider) (i : ℕ) → Hits (has_member p.member) ps i → members (set ps i p) ≡ members ps
members-set p [] i h = absurd h
members-set p (q ∷ qs) zero h = ap (λ m. m ∷ members qs) (eqb-true p.member q.member h)
members-set p (q ∷ qs) (suc i) h = ap (λ ms. q.member ∷ ms) (members-set p qs i h.1)

by_members : (ps qs : List Provider) → members qs ≡ members ps → MembersStandInOrderAndOnce ps → MembersStandInOrderAndOnce qs
by_members ps qs same s = record {
  in_order = in_order-members qs ∙ ap (in_order ltb) same ∙ sym (in_order-members ps) ∙ s.in_order;
  once = λ m. let c = count-members m qs ∙ ap (count_by (eqb m)) same ∙ sym (count-members m ps) in omega (arith, s.once m);
}

module _ (ps : List Provider) (s : MembersStandInOrderAndOnce ps) where
  pub removal_stands : (i : ℕ) → MembersStandInOrderAndOnce (remove ps i)
  removal_stands i = record {
    in_order = removal_keeps (by_member tt) ps i s.in_order;
    once = λ m. omega (arith, removal_counts (has_member m) ps i, s.once m);
  }

  pub write_stands : (p : Provider) (i : ℕ) → Hits (has_member p.member) ps i → MembersStandInOrderAndOnce (set ps i p)
  write_stands p i h = by_members ps (set ps i p) (members-set p ps i h) s

  pub insertion_stands : (p : Provider) → Misses (has_member p.member) ps → MembersStandInOrderAndOnce (inserted (by_member tt) p ps)
  insertion_stands p h = record {
    in_order = keeps_order (by_member tt) (λ x. search rules) (λ x y z. search rules) p ps s.in_order;
    once = λ m.
        let more = insertion_counts (has_member m) (by_member tt) p ps in
        elim (cases_Bool (eqb m p.member)) [
          | inl t ↦
              let none : count_by (has_member m) ps ≡ 0 = rw (eqb-true m p.member t) (counted_nowhere (has_member p.member) ps h) in
              let one = rw t at more in
              omega (arith, none, one)
          | inr t ↦ let same = rw t at more in omega (arith, same, s.once m)
        ];
  }

-- Insertion and removal keep a list in order: insertion under any irreflexive and transitive order, removal under any test.
use Rattle.std.proofs.Common.{◌≡◌, ℕ, zero, suc, Bool, true, false, not, List, [], ◌∷◌, ◌++◌, filter, refl, ap, inl, inr}
use Rattle.std.specs.List.{remove}
use Rattle.std.proofs.lemmas.Bool.{and_from, and_parts, both_ways, cases_Bool, cond_both, not_from_false, not-true}
use Rattle.ordered.specs.Order.{inserted, none_ahead, in_order, InOrder}

module _ {X : Type 0} (ahead : X → X → Bool) where
  none_parts : (x y : X) (ys : List X) → none_ahead ahead x (y ∷ ys) ≡ true → (not (ahead y x) ≡ true) × (none_ahead ahead x ys ≡ true)
  none_parts x y ys = and_parts (not (ahead y x)) (none_ahead ahead x ys)

  none_from : (x y : X) (ys : List X) → not (ahead y x) ≡ true → none_ahead ahead x ys ≡ true → none_ahead ahead x (y ∷ ys) ≡ true
  none_from x y ys = and_from (not (ahead y x)) (none_ahead ahead x ys)

  pub order_parts : (x : X) (xs : List X) → InOrder ahead (x ∷ xs) → (none_ahead ahead x xs ≡ true) × InOrder ahead xs
  order_parts x xs = and_parts (none_ahead ahead x xs) (in_order ahead xs)

  order_from : (x : X) (xs : List X) → none_ahead ahead x xs ≡ true → InOrder ahead xs → InOrder ahead (x ∷ xs)
  order_from x xs = and_from (none_ahead ahead x xs) (in_order ahead xs)

  none_removed : (x : X) (ys : List X) (i : ℕ) → none_ahead ahead x ys ≡ true → none_ahead ahead x (remove ys i) ≡ true
  none_removed x [] zero h = refl
  none_removed x [] (suc i) h = refl
  none_removed x (y ∷ ys) zero h = (none_parts x y ys h).1
  none_removed x (y ∷ ys) (suc i) h =
      let p = none_parts x y ys h in none_from x y (remove ys i) p.0 (none_removed x ys i p.1)

  pub removal_keeps : (xs : List X) (i : ℕ) → InOrder ahead xs → InOrder ahead (remove xs i)
  removal_keeps [] zero h = refl
  removal_keeps [] (suc i) h = refl
  removal_keeps (x ∷ xs) zero h = (order_parts x xs h).1
  removal_keeps (x ∷ xs) (suc i) h =
      let p = order_parts x xs h in order_from x (remove xs i) (none_removed x xs i p.0) (removal_keeps xs i p.1)

module _ {X : Type 0} (ahead : X → X → Bool) (irr : (x : X) → ahead x x ≡ false) (tr : (x y z : X) → ahead x y ≡ true → ahead y z ≡ true → ahead x z ≡ true) where
  -- what is not ahead of y, which x is ahead of, is not ahead of x
  not_ahead : (w x y : X) → ahead x y ≡ true → not (ahead w y) ≡ true → not (ahead w x) ≡ true
  not_ahead w x y xy wy =
      let P : Bool → Type 0 = λ b. ahead w x ≡ b → not b ≡ true in
      elim (ahead w x) as P [ true ↦ (λ e. let n : not true ≡ true = rw (tr w x y e xy) at wy in n) | false ↦ (λ e. refl) ] refl

  none_before : (x y : X) (ys : List X) → ahead x y ≡ true → none_ahead ahead y ys ≡ true → none_ahead ahead x ys ≡ true
  none_before x y [] xy h = refl
  none_before x y (z ∷ zs) xy h =
      let p = none_parts ahead y z zs h in none_from ahead x z zs (not_ahead z x y xy p.0) (none_before x y zs xy p.1)

  none_inserted : (y x : X) (ys : List X) → ahead x y ≡ false → none_ahead ahead y ys ≡ true → none_ahead ahead y (inserted ahead x ys) ≡ true
  none_inserted y x [] xy h = none_from ahead y x [] (not_from_false _ xy) refl
  none_inserted y x (z ∷ zs) xy h =
      let p = none_parts ahead y z zs h in
      cond_both (ahead x z) _ _ (λ ws. none_ahead ahead y ws ≡ true)
      (λ e. none_from ahead y x (z ∷ zs) (not_from_false _ xy) h)
      (λ e. none_from ahead y z (inserted ahead x zs) p.0 (none_inserted y x zs xy p.1))

  pub keeps_order : (x : X) (xs : List X) → InOrder ahead xs → InOrder ahead (inserted ahead x xs)
  keeps_order x [] h = refl
  keeps_order x (y ∷ ys) h =
      let p = order_parts ahead y ys h in
      cond_both (ahead x y) _ _ (InOrder ahead)
      (λ e. order_from ahead x (y ∷ ys) (none_from ahead x y ys (not_ahead y x y e (not_from_false _ (irr y))) (none_before x y ys e p.0)) h)
      (λ e. order_from ahead y (inserted ahead x ys) (none_inserted y x ys e p.0) (keeps_order x ys p.1))

-- Where any two records compare, what stands behind one that x is ahead of is behind x too.
module _ {X : Type 0} (ahead : X → X → Bool) (ranked : (x y z : X) → ahead x y ≡ false → ahead y z ≡ false → ahead x z ≡ false) where
  still_ahead : (x y z : X) → ahead x y ≡ true → not (ahead z y) ≡ true → ahead x z ≡ true
  still_ahead x y z xy zy =
      elim (cases_Bool (ahead x z)) [ inl t ↦ t | inr f ↦ absurd (both_ways (ahead x y) (ranked x z y f (not-true _ zy)) xy) ]

  all_behind : (x y : X) (ys : List X) → ahead x y ≡ true → none_ahead ahead y ys ≡ true
      → (filter (λ z. not (ahead x z)) ys ≡ []) × (filter (ahead x) ys ≡ ys)
  all_behind x y [] xy h = (refl, refl)
  all_behind x y (z ∷ zs) xy h =
      let p = none_parts ahead y z zs h in
      let t = still_ahead x y z xy p.0 in
      let ih = all_behind x y zs xy p.1 in
      (rw t ih.0, rw t (ap (λ ws. z ∷ ws) ih.1))

  pub goes_behind_equals : (x : X) (xs : List X) → InOrder ahead xs → inserted ahead x xs ≡ filter (λ y. not (ahead x y)) xs ++ x ∷ filter (ahead x) xs
  goes_behind_equals x [] h = refl
  goes_behind_equals x (y ∷ ys) h =
      let p = order_parts ahead y ys h in
      elim (cases_Bool (ahead x y)) [
        | inl t ↦ let b = all_behind x y ys t p.0 in rw (t, b.0, b.1)
        | inr t ↦ rw t (ap (λ zs. y ∷ zs) (goes_behind_equals x ys p.1))
      ]

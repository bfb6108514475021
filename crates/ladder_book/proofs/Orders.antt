-- Lists in order, taken apart and put together; a record behind those that it is not ahead of.
use Rattle.std.proofs.Common.{◌≡◌, ℕ, ◌-◌, ◌<◌, Bool, true, false, not, List, [], ◌∷◌, ◌++◌, map, length, refl, ap, ◌∙◌, arith}
use Rattle.std.specs.List.{remove, AllByRecursion}
use Rattle.std.proofs.lemmas.List.Edits.{remove-append_right}
use Rattle.std.proofs.lemmas.Bool.{and_from, and_parts, cond-true, cond-false, not_from_false, not-true}
use Rattle.ordered.proofs.Keeps.{order_parts}
use Rattle.ordered.specs.Order.{InOrder, in_order, inserted, none_ahead}
use Rattle.ladder_book.specs.Queues.{ends}

pub all_parts : {X : Type 0} (P : X → Type 0) (xs ys : List X) → AllByRecursion P (xs ++ ys) → AllByRecursion P xs × AllByRecursion P ys
all_parts P [] ys h = (tt, h)
all_parts P (x ∷ xs) ys h = let r = all_parts P xs ys h.1 in ((h.0, r.0), r.1)

pub all_unmap : {X Y : Type 0} (P : Y → Type 0) (f : X → Y) (xs : List X) → AllByRecursion P (map f xs) → AllByRecursion (λ x. P (f x)) xs
all_unmap P f [] h = tt
all_unmap P f (x ∷ xs) h = (h.0, all_unmap P f xs h.1)

pub removed_at : {X : Type 0} (xs : List X) (y : X) (ys : List X) (n : ℕ) → length xs ≡ n → remove (xs ++ y ∷ ys) n ≡ xs ++ ys
removed_at xs y ys n e = let z : n - n ≡ 0 = omega arith in remove-append_right xs (y ∷ ys) n n e (omega arith) ∙ ap (λ i. xs ++ remove (y ∷ ys) i) z

module _ {X : Type 0} (a : X → X → Bool) where
  none_split : (x : X) (xs ys : List X) → none_ahead a x (xs ++ ys) ≡ true → (none_ahead a x xs ≡ true) × (none_ahead a x ys ≡ true)
  none_split x [] ys h = (refl, h)
  none_split x (z ∷ xs) ys h =
      let p = and_parts (not (a z x)) (none_ahead a x (xs ++ ys)) h in
      let r = none_split x xs ys p.1 in
      (and_from (not (a z x)) (none_ahead a x xs) p.0 r.0, r.1)

  pub order_split : (xs ys : List X) → InOrder a (xs ++ ys) → InOrder a xs × InOrder a ys
  order_split [] ys h = (refl, h)
  order_split (x ∷ xs) ys h =
      let p = order_parts a x (xs ++ ys) h in
      let r = order_split xs ys p.1 in
      (and_from (none_ahead a x xs) (in_order a xs) (none_split x xs ys p.0).0 r.0, r.1)

  pub none_all : (x : X) (xs : List X) → none_ahead a x xs ≡ true → AllByRecursion (λ y. a y x ≡ false) xs
  none_all x [] h = tt
  none_all x (y ∷ ys) h = let p = and_parts (not (a y x)) (none_ahead a x ys) h in (not-true (a y x) p.0, none_all x ys p.1)

  -- none of those in front of one in a list in order has it ahead
  pub order_front : (xs ys : List X) (y : X) → InOrder a (xs ++ y ∷ ys) → AllByRecursion (λ x. a y x ≡ false) xs
  order_front [] ys y h = tt
  order_front (x ∷ xs) ys y h =
      let p = order_parts a x (xs ++ y ∷ ys) h in
      ((none_all x (y ∷ ys) (none_split x xs (y ∷ ys) p.0).1).0, order_front xs ys y p.1)

  -- before the first that it is ahead of
  abbrev pub Stops : X → List X → Type 0
  Stops o [] = Unit {0}
  Stops o (x ∷ xs) = a o x ≡ true

  pub stops_all : (o : X) (xs : List X) → AllByRecursion (λ x. a o x ≡ true) xs → Stops o xs
  stops_all o [] h = tt
  stops_all o (x ∷ xs) h = h.0

  inserted_stop : (o : X) (xs : List X) → Stops o xs → inserted a o xs ≡ o ∷ xs
  inserted_stop o [] h = refl
  inserted_stop o (x ∷ xs) h = cond-true (a o x) (o ∷ x ∷ xs) (x ∷ inserted a o xs) h

  pub inserted_between : (o : X) (xs ys : List X) → AllByRecursion (λ x. a o x ≡ false) xs → Stops o ys → inserted a o (xs ++ ys) ≡ xs ++ o ∷ ys
  inserted_between o [] ys h s = inserted_stop o ys s
  inserted_between o (x ∷ xs) ys h s =
      cond-false (a o x) (o ∷ x ∷ (xs ++ ys)) (x ∷ inserted a o (xs ++ ys)) h.0 ∙ ap (λ l. x ∷ l) (inserted_between o xs ys h.1 s)

  -- where any two compare, what is not ahead of the last of a list in order is ahead of none of it
  pub none_by_last : ((x y z : X) → a x y ≡ false → a y z ≡ false → a x z ≡ false) → (o d : X) (xs : List X) → InOrder a xs
      → (0 < length xs → a o (ends d xs) ≡ false) → AllByRecursion (λ x. a o x ≡ false) xs
  none_by_last ranked o d [] h f = tt
  none_by_last ranked o d (x ∷ []) h f = (f (omega arith), tt)
  none_by_last ranked o d (x ∷ y ∷ ys) h f =
      let p = order_parts a x (y ∷ ys) h in
      let r = none_by_last ranked o d (y ∷ ys) p.1 (λ _. f (omega arith)) in
      (ranked o y x r.0 (none_all x (y ∷ ys) p.0).0, r)

  none_from : (x : X) (ys : List X) → AllByRecursion (λ y. a y x ≡ false) ys → none_ahead a x ys ≡ true
  none_from x [] h = refl
  none_from x (y ∷ ys) h = and_from (not (a y x)) (none_ahead a x ys) (not_from_false (a y x) h.0) (none_from x ys h.1)

  none_put : (x o : X) (xs ys : List X) → none_ahead a x (xs ++ ys) ≡ true → a o x ≡ false → none_ahead a x (xs ++ o ∷ ys) ≡ true
  none_put x o [] ys h e = and_from (not (a o x)) (none_ahead a x ys) (not_from_false (a o x) e) h
  none_put x o (z ∷ xs) ys h e =
      let p = and_parts (not (a z x)) (none_ahead a x (xs ++ ys)) h in
      and_from (not (a z x)) (none_ahead a x (xs ++ o ∷ ys)) p.0 (none_put x o xs ys p.1 e)

  -- a record put where those before let it stand and it lets those behind
  pub order_put : (o : X) (xs ys : List X) → InOrder a (xs ++ ys) → AllByRecursion (λ x. a o x ≡ false) xs → AllByRecursion (λ y. a y o ≡ false) ys → InOrder a (xs ++ o ∷ ys)
  order_put o [] ys h f g = and_from (none_ahead a o ys) (in_order a ys) (none_from o ys g) h
  order_put o (x ∷ xs) ys h f g =
      let p = order_parts a x (xs ++ ys) h in
      and_from (none_ahead a x (xs ++ o ∷ ys)) (in_order a (xs ++ o ∷ ys)) (none_put x o xs ys p.0 f.0) (order_put o xs ys p.1 f.1 g)

-- What limit and mark alone tell of priority.
use Rattle.std.proofs.Common.{◌≡◌, ℕ, ◌≤◌, Bool, true, false, not, List, [], ◌∷◌, ◌++◌, map, sym, ap, ◌∙◌, subst, arith}
use Rattle.std.specs.List.{AllByRecursion}
use Rattle.std.proofs.ByRecursion.{All-append, All-weaker}
use Rattle.std.proofs.lemmas.List.{map-append}
use Rattle.std.proofs.lemmas.Bool.{not-false}
use Rattle.std.proofs.lemmas.Bool.Decides.{nat_tests}
use Rattle.ordered.proofs.Keeps.{order_parts}
use Rattle.ordered.specs.Order.{InOrder}
use Rattle.book.specs.Priority.{ahead}
use Rattle.book.specs.declared.resting.Resting.{Resting}
use Rattle.book.specs.declared.side.Side.{Side}
use Rattle.book.specs.declared.side.Side.TheVariants.{Bid, Ask}
use Rattle.ladder_book.specs.declared.level.Level.{Level}
use Rattle.ladder_book.specs.Queues.{at, bare, book, Falls, ids, occurs, queue, sign}
use Rattle.ladder_book.proofs.Orders.{all_unmap, none_all, order_front, order_split}
use Rattle.ladder_book.proofs.Places.{later_in, occurs_self}
use Rattle.ladder_book.proofs.Sound.{Proper}

bare_ahead : (s : Side) (o x : Resting) → ahead s (bare o) (bare x) ≡ true → ahead s o x ≡ true
bare_ahead Bid o x h = grind (arith, nat_tests)
bare_ahead Ask o x h = grind (arith, nat_tests)

bare_behind : (s : Side) (o x : Resting) → ahead s (bare x) (bare o) ≡ true → ahead s o x ≡ false
bare_behind Bid o x h = grind (arith, nat_tests)
bare_behind Ask o x h = grind (arith, nat_tests)

-- what holds of every order with the sign of its level, place by place
map_all : (P : Resting → Type 0) (f : ℕ → Resting) (xs : List ℕ) → ((i : ℕ) → 1 ≤ occurs i xs → P (f i)) → AllByRecursion P (map f xs)
map_all P f [] h = tt
map_all P f (x ∷ xs) h = (h x (let e = occurs_self x xs in omega arith), map_all P f xs (λ i g. h i (later_in i x xs g)))

by_sign : (P : Resting → Type 0) (orders : List Resting) (next : List ℕ) (ls : List Level) → AllByRecursion (Proper orders next) ls
    → AllByRecursion (λ l. (x : Resting) → bare x ≡ sign l → P x) ls → AllByRecursion P (book orders next ls)
by_sign P orders next [] p h = tt
by_sign P orders next (l ∷ ls) p h =
    subst (AllByRecursion P) (sym (map-append (at orders) (ids next ls) (queue next l)))
    (All-append P (book orders next ls) (map (at orders) (queue next l)) (by_sign P orders next ls p.1 h.1) (map_all P (at orders) (queue next l) (λ i g. h.0 (at orders i) (p.0.keyed i g))))

module _ (side : Side) (orders : List Resting) (next : List ℕ) (o : Resting) (ls : List Level) (p : AllByRecursion (Proper orders next) ls) where
  pub better_behind : AllByRecursion (λ l. ahead side (sign l) (bare o) ≡ true) ls → AllByRecursion (λ x. ahead side o x ≡ false) (book orders next ls)
  better_behind h =
      by_sign (λ x. ahead side o x ≡ false) orders next ls p
      (All-weaker (λ l. ahead side (sign l) (bare o) ≡ true) (λ l. (x : Resting) → bare x ≡ sign l → ahead side o x ≡ false) (λ l g x e. bare_behind side o x (ap (λ z. ahead side z (bare o)) e ∙ g)) ls h)

  pub worse_before : AllByRecursion (λ l. ahead side (bare o) (sign l) ≡ true) ls → AllByRecursion (λ x. ahead side o x ≡ true) (book orders next ls)
  worse_before h =
      by_sign (λ x. ahead side o x ≡ true) orders next ls p
      (All-weaker (λ l. ahead side (bare o) (sign l) ≡ true) (λ l. (x : Resting) → bare x ≡ sign l → ahead side o x ≡ true) (λ l g x e. bare_ahead side o x (ap (λ z. ahead side (bare o) z) e ∙ g)) ls h)

-- the levels on either side of one
module _ (side : Side) (lo hi : List Level) (l : Level) (h : Falls side (lo ++ l ∷ hi)) where
  abbrev under : Resting → Resting → Bool
  under a b = not (ahead side a b)

  parts : InOrder under (map sign lo ++ sign l ∷ map sign hi)
  parts = subst (InOrder under) (map-append sign lo (l ∷ hi)) h

  pub falls_above : AllByRecursion (λ x. ahead side (sign x) (sign l) ≡ true) hi
  falls_above =
      let q = (order_split under (map sign lo) (sign l ∷ map sign hi) parts).1 in
      let r = none_all under (sign l) (map sign hi) (order_parts under (sign l) (map sign hi) q).0 in
      All-weaker (λ x. under (sign x) (sign l) ≡ false) (λ x. ahead side (sign x) (sign l) ≡ true) (λ x g. not-false (ahead side (sign x) (sign l)) g) hi (all_unmap (λ y. under y (sign l) ≡ false) sign hi r)

  pub falls_below : AllByRecursion (λ x. ahead side (sign l) (sign x) ≡ true) lo
  falls_below =
      let r = order_front under (map sign lo) (map sign hi) (sign l) parts in
      All-weaker (λ x. under (sign l) (sign x) ≡ false) (λ x. ahead side (sign l) (sign x) ≡ true) (λ x g. not-false (ahead side (sign l) (sign x)) g) lo (all_unmap (λ y. under (sign l) y ≡ false) sign lo r)

-- In a list in priority order, the hidden orders in front of the first visible one are those strictly better than the best visible limit.
use Rattle.std.proofs.Common.{◌≡◌, ℕ, suc, true, false, cond, not, List, [], ◌∷◌, take, drop, Some, None, filter, Option, sym, refl, ap, subst, one-add, arith}
use Rattle.std.proofs.lemmas.Bool.{and_parts, and_right, cond_both, cond-false}
use Rattle.std.proofs.lemmas.Bool.Decides.{nat_tests}
use Rattle.ordered.specs.Order.{none_ahead, in_order}
use Rattle.book.specs.Priority.{ahead}
use Rattle.book.specs.Sides.{better}
use Rattle.book.specs.declared.resting.Resting.{Resting}
use Rattle.book.specs.declared.side.Side.{Side}
use Rattle.book.specs.declared.side.Side.TheVariants.{Bid, Ask}
use Rattle.pricing.specs.Counting.{left_out, better_of, best_visible, better_hidden, LeavesOutTheBetterHidden}

-- what is not ahead is not better
not_better : (s : Side) (x o : Resting) → not (ahead s x o) ≡ true → better s x.limit o.limit ≡ false
not_better Bid x o h = grind (arith, nat_tests)
not_better Ask x o h = grind (arith, nat_tests)

-- a visible order that is not ahead of a hidden one is worse
better_than_visible : (s : Side) (x o : Resting) → not (ahead s x o) ≡ true → x.visible ≡ true → o.visible ≡ false
    → better s o.limit x.limit ≡ true
better_than_visible Bid x o h v w = grind (arith, nat_tests)
better_than_visible Ask x o h v w = grind (arith, nat_tests)

-- what no visible limit beats, a further limit that is no better does not beat either
unbeaten : (s : Side) (l k : ℕ) (b : Option ℕ) → better s k l ≡ false → better_of s l b ≡ l → better_of s l (Some (better_of s k b)) ≡ l
unbeaten s l k None p q = cond-false _ k l p
unbeaten s l k (Some m) p q = cond_both (better s m k) m k (λ z. cond (better s z l) z l ≡ l) (λ _. q) (λ _. cond-false _ k l p)

-- no visible limit beats that of an order which none is ahead of
best_first : (s : Side) (o : Resting) (os : List Resting) → none_ahead (ahead s) o os ≡ true → better_of s o.limit (best_visible s os) ≡ o.limit
best_first s o [] h = refl
best_first s o (x ∷ xs) h =
    let p = and_parts _ (none_ahead (ahead s) o xs) h in
    let ih = best_first s o xs p.1 in
    cond_both x.visible _ _ (λ b. better_of s o.limit b ≡ o.limit)
    (λ _. unbeaten s o.limit x.limit (best_visible s xs) (not_better s x o p.0) ih)
    (λ _. ih)

-- a hidden order beats every visible limit that it beats one by one
beats : (s : Side) (o : Resting) (k : ℕ) (b : Option ℕ) → o.visible ≡ false → better s o.limit k ≡ true → better_hidden s b o ≡ true
    → better_hidden s (Some (better_of s k b)) o ≡ true
beats s o k None w p q = rw (w, p)
beats s o k (Some m) w p q =
    cond_both (better s m k) m k (λ z. better_hidden s (Some z) o ≡ true) (λ _. q) (λ _. rw (w, p))

-- a hidden order that none is ahead of is better than the best visible limit
hidden_first : (s : Side) (o : Resting) (os : List Resting) → none_ahead (ahead s) o os ≡ true → o.visible ≡ false
    → better_hidden s (best_visible s os) o ≡ true
hidden_first s o [] h w = rw w
hidden_first s o (x ∷ xs) h w =
    let p = and_parts _ (none_ahead (ahead s) o xs) h in
    let ih = hidden_first s o xs p.1 w in
    cond_both x.visible _ _ (λ b. better_hidden s b o ≡ true)
    (λ v. beats s o x.limit (best_visible s xs) w (better_than_visible s x o p.0 v w) ih)
    (λ _. ih)

-- behind a visible order that none is ahead of, no hidden order is better than its limit
none_left_out : (s : Side) (o : Resting) (os : List Resting) → none_ahead (ahead s) o os ≡ true
    → (filter (better_hidden s (Some o.limit)) os ≡ []) × (filter (λ x. not (better_hidden s (Some o.limit) x)) os ≡ os)
none_left_out s o [] h = (refl, refl)
none_left_out s o (x ∷ xs) h =
    let p = and_parts _ (none_ahead (ahead s) o xs) h in
    let ih = none_left_out s o xs p.1 in
    let n = and_right (not x.visible) _ (not_better s x o p.0) in
    (rw n ih.0, rw n (ap (λ ys. x ∷ ys) ih.1))

-- the front of the hidden orders and what follows it, by a best visible limit
abbrev Parted : Side → Option ℕ → List Resting → Type 0
Parted s b os =
    (take (left_out os) os ≡ filter (better_hidden s b) os)
    × (drop (left_out os) os ≡ filter (λ o. not (better_hidden s b o)) os)

parted_visible : (s : Side) (o : Resting) (os : List Resting) → none_ahead (ahead s) o os ≡ true → o.visible ≡ true → Parted s (Some o.limit) (o ∷ os)
parted_visible s o os h v =
    let r = none_left_out s o os h in
    let n : left_out (o ∷ os) ≡ 0 = rw v in
    let t : better_hidden s (Some o.limit) o ≡ false = rw v in
    (rw (n, t) (sym r.0), rw (n, t) (ap (λ xs. o ∷ xs) (sym r.1)))

parted_hidden : (s : Side) (b : Option ℕ) (o : Resting) (os : List Resting) → o.visible ≡ false → better_hidden s b o ≡ true → Parted s b os
    → Parted s b (o ∷ os)
parted_hidden s b o os v t r =
    let n : left_out (o ∷ os) ≡ suc (left_out os) = rw v (one-add _) in
    (rw (n, t) (ap (λ xs. o ∷ xs) r.0), rw (n, t) r.1)

pub leaves_out : (s : Side) (os : List Resting) → LeavesOutTheBetterHidden s (left_out os) os
leaves_out s [] h = (refl, refl)
leaves_out s (o ∷ os) h =
    let p = and_parts (none_ahead (ahead s) o os) (in_order (ahead s) os) h in
    cond_both o.visible _ _ (λ b. Parted s b (o ∷ os))
    (λ v. subst (λ (l : ℕ). Parted s (Some l) (o ∷ os)) (sym (best_first s o os p.0)) (parted_visible s o os p.0 v))
    (λ v. parted_hidden s _ o os v (hidden_first s o os p.0 v) (leaves_out s os p.1))

pub leaves_out_at : (s : Side) (os : List Resting) (n : ℕ) → n ≡ left_out os → LeavesOutTheBetterHidden s n os
leaves_out_at s os n e = rw e (leaves_out s os)

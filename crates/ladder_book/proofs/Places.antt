-- How often a place comes, and walks along links.
use Rattle.std.proofs.Common.{◌≡◌, ℕ, zero, suc, ◌+◌, ◌<◌, ◌≤◌, cond, eqb, ◌≢◌, List, [], ◌∷◌, ◌++◌, map, length, get_or, sym, refl, ap, ◌∙◌, arith}
use Rattle.std.proofs.lemmas.Bool.Decides.{nat_tests}
use Rattle.ladder_book.specs.Queues.{walk, hop, ends, occurs, once}

pub occurs_append : (k : ℕ) (xs ys : List ℕ) → occurs k (xs ++ ys) ≡ occurs k xs + occurs k ys
occurs_append k [] ys = omega arith
occurs_append k (x ∷ xs) ys = omega (arith, occurs_append k xs ys)

pub occurs_self : (x : ℕ) (xs : List ℕ) → occurs x (x ∷ xs) ≡ 1 + occurs x xs
occurs_self x xs = grind (arith, nat_tests)

pub later_in : (k x : ℕ) (xs : List ℕ) → 1 ≤ occurs k xs → 1 ≤ occurs k (x ∷ xs)
later_in k x xs h = let e : occurs k (x ∷ xs) ≡ cond (eqb k x) 1 0 + occurs k xs = refl in omega arith

pub rest_none : (j x : ℕ) (xs : List ℕ) → occurs j (x ∷ xs) ≡ 0 → occurs j xs ≡ 0
rest_none j x xs e = omega (arith, e)

-- a place that comes is no place that does not
pub unlike : (k x : ℕ) (xs : List ℕ) → 1 ≤ occurs k xs → occurs x xs ≡ 0 → k ≢ x
unlike k x xs h e q = let z : occurs k xs ≡ occurs x xs = ap (λ n. occurs n xs) q in omega arith

pub once_most : (k : ℕ) → once k ≤ 1
once_most k = grind (arith, nat_tests)

pub once_low : (k : ℕ) → 1 ≤ once k → k < 128
once_low k e = grind (arith, nat_tests)

-- a sum that computes from the left
abbrev pub plus : ℕ → ℕ → ℕ
plus zero m = m
plus (suc j) m = suc (plus j m)

pub plus_is : (j m : ℕ) → plus j m ≡ j + m
plus_is zero m = omega arith
plus_is (suc j) m = omega (arith, plus_is j m)

pub length_walk : (next : List ℕ) (n h : ℕ) → length (walk next n h) ≡ n
length_walk next zero h = refl
length_walk next (suc n) h = ap suc (length_walk next n (get_or next h 0))

pub walk_split : (next : List ℕ) (j m h : ℕ) → walk next (plus j m) h ≡ walk next j h ++ walk next m (hop next j h)
walk_split next zero m h = refl
walk_split next (suc j) m h = ap (λ l. h ∷ l) (walk_split next j m (get_or next h 0))

pub hop_more : (next : List ℕ) (j h : ℕ) → hop next (suc j) h ≡ get_or next (hop next j h) 0
hop_more next zero h = refl
hop_more next (suc j) h = hop_more next j (get_or next h 0)

pub get_or_walk : (next : List ℕ) (n h i d : ℕ) → i < n → get_or (walk next n h) i d ≡ hop next i h
get_or_walk next zero h i d g = absurd (omega arith)
get_or_walk next (suc n) h zero d g = refl
get_or_walk next (suc n) h (suc i) d g = get_or_walk next n (get_or next h 0) i d (omega arith)

pub hop_in : (next : List ℕ) (n h i : ℕ) → i < n → 1 ≤ occurs (hop next i h) (walk next n h)
hop_in next zero h i g = absurd (omega arith)
hop_in next (suc n) h zero g = let e = occurs_self h (walk next n (get_or next h 0)) in omega arith
hop_in next (suc n) h (suc i) g = later_in (hop next i (get_or next h 0)) h (walk next n (get_or next h 0)) (hop_in next n (get_or next h 0) i (omega arith))

pub ends_walk : (next : List ℕ) (d n h : ℕ) → ends d (walk next (suc n) h) ≡ hop next n h
ends_walk next d zero h = refl
ends_walk next d (suc n) h = ends_walk next h n (get_or next h 0)

pub ends_append : (d : ℕ) (xs ys : List ℕ) → ends d (xs ++ ys) ≡ ends (ends d xs) ys
ends_append d [] ys = refl
ends_append d (x ∷ xs) ys = ends_append x xs ys

-- links that are as they were along a walk leave it so
pub walk_same : (next N : List ℕ) (n h : ℕ) → ((i : ℕ) → 1 ≤ occurs i (walk next n h) → get_or N i 0 ≡ get_or next i 0) → walk N n h ≡ walk next n h
walk_same next N zero h f = refl
walk_same next N (suc n) h f =
    let e = occurs_self h (walk next n (get_or next h 0)) in
    ap (λ m. h ∷ walk N n m) (f h (omega arith)) ∙ ap (λ l. h ∷ l) (walk_same next N n (get_or next h 0) (λ i g. f i (later_in i h (walk next n (get_or next h 0)) g)))

-- links that are as they were for j steps, and then lead to v
pub walk_turned : (next N : List ℕ) (v j m h : ℕ) → ((i : ℕ) → 1 ≤ occurs i (walk next j h) → get_or N i 0 ≡ get_or next i 0) → get_or N (hop next j h) 0 ≡ v
    → walk N (plus (suc j) m) h ≡ walk next (suc j) h ++ walk N m v
walk_turned next N v zero m h f e = ap (λ x. h ∷ walk N m x) e
walk_turned next N v (suc j) m h f e =
    let o = occurs_self h (walk next j (get_or next h 0)) in
    ap (λ x. h ∷ walk N (plus (suc j) m) x) (f h (omega arith))
    ∙ ap (λ l. h ∷ l) (walk_turned next N v j m (get_or next h 0) (λ i g. f i (later_in i h (walk next j (get_or next h 0)) g)) e)

pub ends_any : {X : Type 0} (x y : X) (zs : List X) → 0 < length zs → ends x zs ≡ ends y zs
ends_any x y [] h = absurd (omega arith)
ends_any x y (z ∷ zs) h = refl

pub ends_map : {X Y : Type 0} (f : X → Y) (d : X) (xs : List X) → ends (f d) (map f xs) ≡ f (ends d xs)
ends_map f d [] = refl
ends_map f d (x ∷ xs) = ends_map f x xs

-- where each place comes once at most, the one that j steps lead to comes neither before nor in what follows
pub apart_from_last : (next : List ℕ) (j h : ℕ) (rest : List ℕ) → ((i : ℕ) → occurs i (walk next (suc j) h ++ rest) ≤ 1)
    → (occurs (hop next j h) (walk next j h) ≡ 0) × (occurs (hop next j h) rest ≡ 0)
apart_from_last next j h rest f =
    let x = hop next j h in
    let one : plus j 1 ≡ suc j = plus_is j 1 ∙ omega arith in
    let w = ap (λ n. occurs x (walk next n h)) (sym one) ∙ (ap (occurs x) (walk_split next j 1 h) ∙ occurs_append x (walk next j h) (x ∷ [])) in
    let a = occurs_append x (walk next (suc j) h) rest in
    let b = occurs_self x [] in
    let d = f x in
    (omega arith, omega arith)

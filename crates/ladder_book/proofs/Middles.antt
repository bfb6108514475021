-- Some levels in the middle replaced by others, and every other level as it was.
use Rattle.std.proofs.Common.{◌≡◌, ℕ, ◌+◌, ◌<◌, ◌≤◌, false, ◌≢◌, List, [], ◌∷◌, ◌++◌, map, length, get_or, set, sym, refl, ap, ◌∙◌, subst, arith}
use Rattle.std.specs.List.{remove, AllByRecursion}
use Rattle.std.proofs.ByRecursion.{All-append}
use Rattle.std.proofs.lemmas.List.{append_assoc, get_or-set_other, get_or-set_same, length-append, length-map, map-append}
use Rattle.ordered.proofs.Keeps.{keeps_order, removal_keeps}
use Rattle.ordered.specs.Order.{InOrder, inserted}
use Rattle.book.specs.Ranks.{irreflexive, transitive}
use Rattle.book.specs.Priority.{ahead}
use Rattle.book.specs.declared.resting.Resting.{Resting}
use Rattle.book.specs.declared.side.Side.{Side}
use Rattle.ladder_book.specs.declared.level.Level.{Level}
use Rattle.ladder_book.specs.Queues.{at, bare, book, ends, Falls, ids, nobody, occurs, once, queue}
use Rattle.ladder_book.proofs.Orders.{Stops, all_parts, inserted_between, removed_at}
use Rattle.ladder_book.proofs.Places.{occurs_append, occurs_self, once_low, once_most, rest_none, unlike, walk_same}
use Rattle.ladder_book.proofs.Sound.{Proper, Sound, ids_append}

ids_middle : (next : List ℕ) (lo M hi : List Level) → ids next (lo ++ (M ++ hi)) ≡ (ids next hi ++ ids next M) ++ ids next lo
ids_middle next lo M hi = ids_append next lo (M ++ hi) ∙ ap (λ z. z ++ ids next lo) (ids_append next M hi)

pub regroup : {X : Type 0} (a f g b : List X) → (a ++ (f ++ g)) ++ b ≡ (a ++ f) ++ (g ++ b)
regroup a f g b = simp append_assoc

-- the places of all levels, where those of the middle are F and R
places_are : (next : List ℕ) (lo M hi : List Level) (F R : List ℕ) → ids next M ≡ F ++ R → ids next (lo ++ (M ++ hi)) ≡ (ids next hi ++ F) ++ (R ++ ids next lo)
places_are next lo M hi F R e = ids_middle next lo M hi ∙ (ap (λ z. (ids next hi ++ z) ++ ids next lo) e ∙ regroup (ids next hi) F R (ids next lo))

proper_one : (orders O : List Resting) (next N : List ℕ) (l : Level) → Proper orders next l → queue N l ≡ queue next l
    → ((i : ℕ) → 1 ≤ occurs i (queue next l) → at O i ≡ at orders i) → Proper O N l
proper_one orders O next N l p q f = record {
  filled = p.filled;
  keyed = λ i h. (let g = subst (λ w. 1 ≤ occurs i w) q h in ap bare (f i g) ∙ p.keyed i g);
  tailed = p.tailed ∙ ap (ends 0) (sym q);
}

-- links and orders as they were at the places of some levels
module _ (orders O : List Resting) (next N : List ℕ) where
  ids_same : (ls : List Level) → ((i : ℕ) → 1 ≤ occurs i (ids next ls) → get_or N i 0 ≡ get_or next i 0) → ids N ls ≡ ids next ls
  ids_same [] f = refl
  ids_same (l ∷ ls) f =
      let w = queue next l in
      ap (λ z. z ++ queue N l) (ids_same ls (λ i g. f i (let a = occurs_append i (ids next ls) w in omega arith)))
      ∙ ap (λ z. ids next ls ++ z) (walk_same next N l.size l.head (λ i g. f i (let a = occurs_append i (ids next ls) w in omega arith)))

  proper_same : (ls : List Level) → ((i : ℕ) → 1 ≤ occurs i (ids next ls) → get_or N i 0 ≡ get_or next i 0) → ((i : ℕ) → 1 ≤ occurs i (ids next ls) → at O i ≡ at orders i)
      → AllByRecursion (Proper orders next) ls → AllByRecursion (Proper O N) ls
  proper_same [] f g p = tt
  proper_same (l ∷ ls) f g p =
      let w = queue next l in
      let left : (i : ℕ) → 1 ≤ occurs i (ids next ls) → 1 ≤ occurs i (ids next (l ∷ ls)) = λ i h. (let a = occurs_append i (ids next ls) w in omega arith) in
      let right : (i : ℕ) → 1 ≤ occurs i w → 1 ≤ occurs i (ids next (l ∷ ls)) = λ i h. (let a = occurs_append i (ids next ls) w in omega arith) in
      (proper_one orders O next N l p.0 (walk_same next N l.size l.head (λ i h. f i (right i h))) (λ i h. g i (right i h)), proper_same ls (λ i h. f i (left i h)) (λ i h. g i (left i h)) p.1)

pub map_set : (orders : List Resting) (j : ℕ) (r : Resting) (xs : List ℕ) → occurs j xs ≡ 0 → map (at (set orders j r)) xs ≡ map (at orders) xs
map_set orders j r [] e = refl
map_set orders j r (x ∷ xs) e =
    let h = occurs_self x xs in
    let ne : x ≢ j = unlike x j (x ∷ xs) (omega arith) e in
    ap (λ o. o ∷ map (at (set orders j r)) xs) (get_or-set_other orders j x r nobody ne) ∙ ap (λ l. at orders x ∷ l) (map_set orders j r xs (rest_none j x xs e))

-- what is wanted of the levels that are left without the order at a slot, which was the n-th
abbrev pub Cut : Side → List Resting → (next free : List ℕ) → ℕ → List Level → ℕ → List ℕ → List Level → Type 0
Cut side orders next free slot live n N rest =
    (book orders N rest ≡ remove (book orders next live) n) × (length (ids N rest) + 1 ≡ length (ids next live)) × Sound side orders N (slot ∷ free) rest

-- what is wanted of the levels that an order was put into, at a slot
abbrev pub Put : Side → List Resting → (next free : List ℕ) → ℕ → List Level → Resting → List ℕ → List Level → Type 0
Put side orders next free slot live o N more =
    (book (set orders slot o) N more ≡ inserted (ahead side) o (book orders next live))
    × (length (ids N more) ≡ length (ids next live) + 1)
    × Sound side (set orders slot o) N free more

-- An order cut out: the middle's places were F, the slot, G, and are F, G.
module _ (side : Side) (orders : List Resting) (next N : List ℕ) (slot : ℕ) (free : List ℕ) (lo M M' hi : List Level) (F G : List ℕ)
    (s : Sound side orders next free (lo ++ (M ++ hi)))
    (was : ids next M ≡ F ++ slot ∷ G) (is : ids N M' ≡ F ++ G)
    (same : (i : ℕ) → (1 ≤ occurs i (ids next M) → ⊥) → get_or N i 0 ≡ get_or next i 0)
    (proper' : AllByRecursion (Proper orders N) M') (falls' : Falls side (lo ++ (M' ++ hi))) where
  cut_from : ids next (lo ++ (M ++ hi)) ≡ (ids next hi ++ F) ++ slot ∷ (G ++ ids next lo)
  cut_from = places_are next lo M hi F (slot ∷ G) was

  three : (i : ℕ) → occurs i (ids next hi) + occurs i (ids next M) + occurs i (ids next lo) ≤ 1
  three i =
      let a = occurs_append i (ids next hi) (ids next M) in
      let b = occurs_append i (ids next hi ++ ids next M) (ids next lo) in
      let d = ap (occurs i) (ids_middle next lo M hi) in
      let e = occurs_append i (ids next (lo ++ (M ++ hi))) free in
      let z = s.apart i in
      let y = once_most i in
      omega arith

  hi_links : (i : ℕ) → 1 ≤ occurs i (ids next hi) → get_or N i 0 ≡ get_or next i 0
  hi_links i g = same i (λ w. let t = three i in omega arith)

  lo_links : (i : ℕ) → 1 ≤ occurs i (ids next lo) → get_or N i 0 ≡ get_or next i 0
  lo_links i g = same i (λ w. let t = three i in omega arith)

  cut_to : ids N (lo ++ (M' ++ hi)) ≡ (ids next hi ++ F) ++ (G ++ ids next lo)
  cut_to =
      let a = ids_same orders orders next N hi hi_links in
      let b = ids_same orders orders next N lo lo_links in
      places_are N lo M' hi F G is ∙ (ap (λ z. (z ++ F) ++ (G ++ ids N lo)) a ∙ ap (λ z. (ids next hi ++ F) ++ (G ++ z)) b)

  cut_list : (n : ℕ) → length (ids next hi) + length F ≡ n → book orders N (lo ++ (M' ++ hi)) ≡ remove (book orders next (lo ++ (M ++ hi))) n
  cut_list n e =
      let P = ids next hi ++ F in
      let Q = G ++ ids next lo in
      let f = at orders in
      let a = length-append (ids next hi) F in
      let b = length-map P f in
      ap (map f) cut_to ∙ (map-append f P Q ∙ sym (ap (λ z. remove (map f z) n) cut_from ∙ (ap (λ z. remove z n) (map-append f P (slot ∷ Q)) ∙ removed_at (map f P) (f slot) (map f Q) n (omega arith))))

  cut_count : length (ids N (lo ++ (M' ++ hi))) + 1 ≡ length (ids next (lo ++ (M ++ hi)))
  cut_count =
      let P = ids next hi ++ F in
      let Q = G ++ ids next lo in
      let a = length-append P Q in
      let b = length-append P (slot ∷ Q) in
      let d = ap length cut_to in
      let e = ap length cut_from in
      omega arith

  cut_sound : Sound side orders N (slot ∷ free) (lo ++ (M' ++ hi))
  cut_sound =
      let P = ids next hi ++ F in
      let Q = G ++ ids next lo in
      let p = all_parts (Proper orders next) lo (M ++ hi) s.proper in
      let q = all_parts (Proper orders next) M hi p.1 in
      record {
        apart = λ k. (
            let a = occurs_append k (P ++ Q) (slot ∷ free) in
            let b = occurs_append k P Q in
            let d = occurs_append k (P ++ slot ∷ Q) free in
            let e = occurs_append k P (slot ∷ Q) in
            let z : occurs k ((P ++ slot ∷ Q) ++ free) ≡ once k = ap (λ l. occurs k (l ++ free)) (sym cut_from) ∙ s.apart k in
            ap (λ l. occurs k (l ++ slot ∷ free)) cut_to ∙ omega arith);
        proper = All-append (Proper orders N) lo (M' ++ hi) (proper_same orders orders next N lo lo_links (λ i h. refl) p.0) (All-append (Proper orders N) M' hi proper' (proper_same orders orders next N hi hi_links (λ i h. refl) q.1));
        falls = falls';
        ordered = subst (InOrder (ahead side)) (sym (cut_list (length (ids next hi) + length F) refl)) (removal_keeps (ahead side) (book orders next (lo ++ (M ++ hi))) (length (ids next hi) + length F) s.ordered);
      }

  pub cut : (n : ℕ) → length (ids next hi) + length F ≡ n → Cut side orders next free slot (lo ++ (M ++ hi)) n N (lo ++ (M' ++ hi))
  cut n e = (cut_list n e, cut_count, cut_sound)

-- An order put in: the middle's places were F, G, and are F, the slot, G.
module _ (side : Side) (orders : List Resting) (next N : List ℕ) (slot : ℕ) (free : List ℕ) (lo M M' hi : List Level) (F G : List ℕ) (o : Resting)
    (s : Sound side orders next (slot ∷ free) (lo ++ (M ++ hi))) (wide : length orders ≡ 128)
    (was : ids next M ≡ F ++ G) (is : ids N M' ≡ F ++ slot ∷ G)
    (same : (i : ℕ) → i ≢ slot → (1 ≤ occurs i (ids next M) → ⊥) → get_or N i 0 ≡ get_or next i 0)
    (proper' : AllByRecursion (Proper (set orders slot o) N) M') (falls' : Falls side (lo ++ (M' ++ hi)))
    (behind : AllByRecursion (λ x. ahead side o x ≡ false) (map (at orders) (ids next hi ++ F))) (before : Stops (ahead side) o (map (at orders) (G ++ ids next lo))) where
  put_from : ids next (lo ++ (M ++ hi)) ≡ (ids next hi ++ F) ++ (G ++ ids next lo)
  put_from = places_are next lo M hi F G was

  four : (i : ℕ) → occurs i (ids next hi) + occurs i (ids next M) + occurs i (ids next lo) + occurs i (slot ∷ free) ≡ once i
  four i =
      let a = occurs_append i (ids next hi) (ids next M) in
      let b = occurs_append i (ids next hi ++ ids next M) (ids next lo) in
      let d = ap (occurs i) (ids_middle next lo M hi) in
      let e = occurs_append i (ids next (lo ++ (M ++ hi))) (slot ∷ free) in
      let z = s.apart i in
      omega arith

  none_slot : (occurs slot (ids next hi) ≡ 0) × (occurs slot (ids next M) ≡ 0) × (occurs slot (ids next lo) ≡ 0)
  none_slot = let a = four slot in let b = occurs_self slot free in let y = once_most slot in (omega arith, omega arith, omega arith)

  slot_low : slot < 128
  slot_low = let a = four slot in let b = occurs_self slot free in once_low slot (omega arith)

  hi_kept : (i : ℕ) → 1 ≤ occurs i (ids next hi) → get_or N i 0 ≡ get_or next i 0
  hi_kept i g = same i (unlike i slot (ids next hi) g none_slot.0) (λ w. let t = four i in let y = once_most i in omega arith)

  lo_kept : (i : ℕ) → 1 ≤ occurs i (ids next lo) → get_or N i 0 ≡ get_or next i 0
  lo_kept i g = same i (unlike i slot (ids next lo) g none_slot.2) (λ w. let t = four i in let y = once_most i in omega arith)

  put_to : ids N (lo ++ (M' ++ hi)) ≡ (ids next hi ++ F) ++ slot ∷ (G ++ ids next lo)
  put_to =
      let a = ids_same orders orders next N hi hi_kept in
      let b = ids_same orders orders next N lo lo_kept in
      places_are N lo M' hi F (slot ∷ G) is ∙ (ap (λ z. (z ++ F) ++ slot ∷ (G ++ ids N lo)) a ∙ ap (λ z. (ids next hi ++ F) ++ slot ∷ (G ++ z)) b)

  put_list : book (set orders slot o) N (lo ++ (M' ++ hi)) ≡ inserted (ahead side) o (book orders next (lo ++ (M ++ hi)))
  put_list =
      let A = ids next hi in
      let B = ids next lo in
      let P = A ++ F in
      let Q = G ++ B in
      let f = at orders in
      let g = at (set orders slot o) in
      let fa = occurs_append slot A F in
      let fb = occurs_append slot G B in
      let fm = occurs_append slot F G in
      let fw = ap (occurs slot) was in
      let low = slot_low in
      let n0 = none_slot.0 in
      let n1 = none_slot.1 in
      let n2 = none_slot.2 in
      ap (map g) put_to ∙ (map-append g P (slot ∷ Q) ∙ (ap (λ z. z ++ map g (slot ∷ Q)) (map_set orders slot o P (omega arith))
      ∙ (ap (λ x. map f P ++ x ∷ map g Q) (get_or-set_same orders slot o nobody (omega arith)) ∙ (ap (λ z. map f P ++ o ∷ z) (map_set orders slot o Q (omega arith))
      ∙ sym (ap (λ z. inserted (ahead side) o (map f z)) put_from ∙ (ap (inserted (ahead side) o) (map-append f P Q) ∙ inserted_between (ahead side) o (map f P) (map f Q) behind before))))))

  put_count : length (ids N (lo ++ (M' ++ hi))) ≡ length (ids next (lo ++ (M ++ hi))) + 1
  put_count =
      let P = ids next hi ++ F in
      let Q = G ++ ids next lo in
      let a = length-append P Q in
      let b = length-append P (slot ∷ Q) in
      let d = ap length put_to in
      let e = ap length put_from in
      omega arith

  put_sound : Sound side (set orders slot o) N free (lo ++ (M' ++ hi))
  put_sound =
      let P = ids next hi ++ F in
      let Q = G ++ ids next lo in
      let O = set orders slot o in
      let p = all_parts (Proper orders next) lo (M ++ hi) s.proper in
      let q = all_parts (Proper orders next) M hi p.1 in
      record {
        apart = λ k. (
            let a = occurs_append k (P ++ Q) (slot ∷ free) in
            let b = occurs_append k P Q in
            let d = occurs_append k (P ++ slot ∷ Q) free in
            let e = occurs_append k P (slot ∷ Q) in
            let z : occurs k ((P ++ Q) ++ slot ∷ free) ≡ once k = ap (λ l. occurs k (l ++ slot ∷ free)) (sym put_from) ∙ s.apart k in
            ap (λ l. occurs k (l ++ free)) put_to ∙ omega arith);
        proper = All-append (Proper O N) lo (M' ++ hi)
            (proper_same orders O next N lo lo_kept (λ i h. get_or-set_other orders slot i o nobody (unlike i slot (ids next lo) h none_slot.2)) p.0)
            (All-append (Proper O N) M' hi proper' (proper_same orders O next N hi hi_kept (λ i h. get_or-set_other orders slot i o nobody (unlike i slot (ids next hi) h none_slot.0)) q.1));
        falls = falls';
        ordered = subst (InOrder (ahead side)) (sym put_list) (keeps_order (ahead side) (irreflexive side) (transitive side) o (book orders next (lo ++ (M ++ hi))) s.ordered);
      }

  pub put : Put side orders next free slot (lo ++ (M ++ hi)) o N (lo ++ (M' ++ hi))
  put = (put_list, put_count, put_sound)

-- An order cut out of its queue.
use Rattle.std.proofs.Common.{◌≡◌, ℕ, zero, suc, ◌+◌, ◌-◌, ◌<◌, ◌≤◌, false, cond, eqb, List, [], ◌∷◌, ◌++◌, map, length, get_or, take, drop, set, sym, refl, ap, ◌∙◌, subst, inl, inr, add-one, arith}
use Rattle.std.specs.List.{remove, AllByRecursion}
use Rattle.std.proofs.ByRecursion.{All-get_or}
use Rattle.std.proofs.lemmas.List.{append-nil, drop-set, get_or-set_other, get_or-set_same, map-append, set_split}
use Rattle.std.proofs.lemmas.Bool.{cases_eq, cond_both, cond-false, cond-true, eq-eqb, eqb-false, eqb-true, ne_eqb}
use Rattle.ordered.proofs.Keeps.{removal_keeps}
use Rattle.ordered.specs.Order.{InOrder}
use Rattle.ordered.specs.Bounded.{items}
use Rattle.book.specs.declared.resting.Resting.{Resting}
use Rattle.book.specs.declared.side.Side.{Side}
use Rattle.ladder_book.specs.declared.ladder.Ladder.{Ladder}
use Rattle.ladder_book.specs.declared.level.Level.{Level}
use Rattle.ladder_book.specs.declared.level.Node.{Node}
use Rattle.ladder_book.specs.declared.level.Seat.{Seat}
use Rattle.ladder_book.specs.Levels.{led, lessened, shrunk, Stands}
use Rattle.ladder_book.specs.Listed.{level_of, listed, place_of, Sits}
use Rattle.ladder_book.specs.Queues.{book, ends, Falls, hop, ids, level_at, nexts, nowhere, occurs, queue, records, sign, sizes, walk}
use Rattle.ladder_book.proofs.Middles.{Cut, cut}
use Rattle.ladder_book.proofs.Orders.{removed_at}
use Rattle.ladder_book.proofs.Places.{apart_from_last, ends_any, ends_append, ends_walk, hop_in, length_walk, occurs_append, once_most, plus, plus_is, rest_none, unlike, walk_same, walk_split, walk_turned}
use Rattle.ladder_book.proofs.Sound.{Given, Proper, Sound, held_places, ids_cut, length_ids, level_cut, nexts_long, opened, records_long, shut, falls_put}

-- levels that fall do so without one of them
falls_drop : (side : Side) (lo hi : List Level) (l : Level) → Falls side (lo ++ l ∷ hi) → Falls side (lo ++ hi)
falls_drop side lo hi l h =
    subst (InOrder _) (ap (λ z. remove z (length (map sign lo))) (map-append sign lo (l ∷ hi)) ∙ (removed_at (map sign lo) (sign l) (map sign hi) (length (map sign lo)) refl ∙ sym (map-append sign lo hi)))
    (removal_keeps _ (map sign (lo ++ l ∷ hi)) (length (map sign lo)) h)

-- the links of a queue without the place at a seat, behind which m stand
cut_walk : (next : List ℕ) (passed m h last p : ℕ) → (0 < passed → last ≡ hop next (passed - 1) h) → (0 < passed → last < length next)
    → ((i : ℕ) → occurs i (walk next passed h ++ p ∷ walk next m (get_or next p 0)) ≤ 1)
    → walk (cond (eqb passed 0) next (set next last (get_or next p 0))) (plus passed m) (cond (eqb passed 0) (get_or next p 0) h) ≡ walk next passed h ++ walk next m (get_or next p 0)
cut_walk next zero m h last p el lb f = refl
cut_walk next (suc j) m h last p el lb f =
    let after = get_or next p 0 in
    let N = set next last after in
    let one : suc j - 1 ≡ j = omega arith in
    let q : last ≡ hop next j h = el (omega arith) ∙ ap (λ i. hop next i h) one in
    let r = apart_from_last next j h (p ∷ walk next m after) f in
    let away : (xs : List ℕ) → occurs (hop next j h) xs ≡ 0 → (i : ℕ) → 1 ≤ occurs i xs → get_or N i 0 ≡ get_or next i 0 =
    λ xs none i g. get_or-set_other next last i after 0 (λ e. unlike i (hop next j h) xs g none (e ∙ q)) in
    let some : eqb (suc j) 0 ≡ false = ne_eqb (suc j) 0 (λ e. omega arith) in
    subst (λ b. walk (cond b next N) (plus (suc j) m) (cond b after h) ≡ walk next (suc j) h ++ walk next m after) (sym some)
    (walk_turned next N after j m h (away (walk next j h) r.0) (ap (λ x. get_or N x 0) (sym q) ∙ get_or-set_same next last after 0 (lb (omega arith)))
    ∙ ap (λ z. walk next (suc j) h ++ z) (walk_same next N m after (away (walk next m after) (rest_none (hop next j h) p (walk next m after) r.1))))

-- the last place of such a queue
cut_tail : (next : List ℕ) (passed m h last p tail size : ℕ) → passed + 1 + m ≡ size → (0 < passed → last ≡ hop next (passed - 1) h) → (size ≡ 1 → ⊥)
    → tail ≡ ends 0 (walk next passed h ++ p ∷ walk next m (get_or next p 0))
    → cond (eqb (passed + 1) size) last tail ≡ ends 0 (walk next passed h ++ walk next m (get_or next p 0))
cut_tail next passed m h last p tail size all el ne is =
    let G = walk next m (get_or next p 0) in
    let n = length_walk next m (get_or next p 0) in
    elim (cases_eq (passed + 1) size) [
      | inl q ↦
          let z : m ≡ 0 = omega arith in
          let pos : 0 < passed = omega arith in
          let e : passed ≡ suc (passed - 1) = omega arith in
          cond-true _ _ _ (eq-eqb (passed + 1) size q) ∙ (el pos ∙ (sym (ends_walk next 0 (passed - 1) h) ∙ (ap (λ i. ends 0 (walk next i h)) (sym e)
          ∙ (ap (ends 0) (sym (append-nil (walk next passed h))) ∙ ap (λ i. ends 0 (walk next passed h ++ walk next i (get_or next p 0))) (sym z)))))
      | inr q ↦
          cond-false _ _ _ (ne_eqb (passed + 1) size q) ∙ (is ∙ (ends_append 0 (walk next passed h) (p ∷ G) ∙ (ends_any p (ends 0 (walk next passed h)) G (omega arith) ∙ sym (ends_append 0 (walk next passed h) G))))
    ]

module _ (side : Side) (orders : List Resting) (next free : List ℕ) (live : List Level) (t : Seat)
    (s : Sound side orders next free live) (links : length next ≡ 128) (h : t.level < length live) (st : Stands next (level_at live t.level) t) (g : t.passed < (level_at live t.level).size) where
  abbrev k : ℕ
  k = t.level

  abbrev l : Level
  l = level_at live k

  abbrev lo : List Level
  lo = take k live

  abbrev hi : List Level
  hi = drop (k + 1) live

  abbrev after : ℕ
  after = get_or next t.place 0

  abbrev m : ℕ
  m = l.size - (t.passed + 1)

  abbrev F : List ℕ
  F = walk next t.passed l.head

  abbrev G : List ℕ
  G = walk next m after

  was : queue next l ≡ F ++ t.place ∷ G
  was =
      let e : l.size ≡ plus t.passed (suc m) = sym (plus_is t.passed (suc m) ∙ omega arith) in
      ap (λ n. walk next n l.head) e ∙ (walk_split next t.passed (suc m) l.head ∙ ap (λ x. F ++ x ∷ walk next m (get_or next x 0)) (sym (st.place_is g)))

  sound : Sound side orders next free (lo ++ l ∷ hi)
  sound = subst (Sound side orders next free) (level_cut live k h) s

  own : Proper orders next l
  own = All-get_or (Proper orders next) live k nowhere h s.proper

  apart_here : (i : ℕ) → occurs i (F ++ t.place ∷ G) ≤ 1
  apart_here i =
      let a = occurs_append i (ids next hi) (queue next l) in
      let b = occurs_append i (ids next hi ++ queue next l) (ids next lo) in
      let d = ap (occurs i) (ids_cut next live k h) in
      let e = occurs_append i (ids next live) free in
      let z = s.apart i in
      let y = once_most i in
      let w = ap (occurs i) was in
      omega arith

  is : walk (led next t after) (l.size - 1) (shrunk l t after).head ≡ F ++ G
  is =
      let e : l.size - 1 ≡ plus t.passed m = sym (plus_is t.passed m ∙ omega arith) in
      ap (λ n. walk (led next t after) n (shrunk l t after).head) e ∙ cut_walk next t.passed m l.head t.last t.place st.last_is (λ p. let b = st.last_low p in omega arith) apart_here

  same : (i : ℕ) → (1 ≤ occurs i (queue next l) → ⊥) → get_or (led next t after) i 0 ≡ get_or next i 0
  same i f =
      cond_both (eqb t.passed 0) next (set next t.last after) (λ N. get_or N i 0 ≡ get_or next i 0) (λ _. refl)
      (λ q.
      let p : 0 < t.passed = omega (arith, eqb-false t.passed 0 q) in
      let here = hop_in next l.size l.head (t.passed - 1) (omega arith) in
      get_or-set_other next t.last i after 0 (λ e. f (subst (λ x. 1 ≤ occurs x (queue next l)) (sym (e ∙ st.last_is p)) here)))

  shrunk_proper : (l.size ≡ 1 → ⊥) → Proper orders (led next t after) (shrunk l t after)
  shrunk_proper ne = record {
    filled = omega (arith, own.filled);
    keyed = λ i q. own.keyed i (
        let a : 1 ≤ occurs i (F ++ G) = subst (λ w. 1 ≤ occurs i w) is q in
        let b = occurs_append i F G in
        let d = occurs_append i F (t.place ∷ G) in
        let e = ap (occurs i) was in
        omega arith);
    tailed = cut_tail next t.passed m l.head t.last t.place l.tail l.size (omega arith) st.last_is ne (own.tailed ∙ ap (ends 0) was) ∙ ap (ends 0) (sym is);
  }

  place_is : length (ids next hi) + length F ≡ sizes hi + t.passed
  place_is = let a = length_ids next hi in let b = length_walk next t.passed l.head in omega arith

  -- what is left, where the level is
  abbrev Left : List Level → Type 0
  Left rest = Cut side orders next free t.place live (sizes hi + t.passed) (led next t after) rest

  left : (M' : List Level) (rest : List Level) → rest ≡ lo ++ (M' ++ hi) → ids (led next t after) M' ≡ F ++ G → AllByRecursion (Proper orders (led next t after)) M' → Falls side (lo ++ (M' ++ hi)) → Left rest
  left M' rest e z p f =
      subst Left (sym e) (subst (λ v. Cut side orders next free t.place v (sizes hi + t.passed) (led next t after) (lo ++ (M' ++ hi))) (sym (level_cut live k h))
      (cut side orders next (led next t after) t.place free lo (l ∷ []) M' hi F G sound was z same p f (sizes hi + t.passed) place_is))

  unlinked_one : l.size ≡ 1 → Left (remove live k)
  unlinked_one one =
      let z : l.size - 1 ≡ 0 = omega arith in
      left [] (remove live k) (ap (λ n. lo ++ drop n live) (sym (add-one k))) (ap (λ n. walk (led next t after) n (shrunk l t after).head) (sym z) ∙ is) tt (falls_drop side lo hi l sound.falls)

  unlinked_more : (l.size ≡ 1 → ⊥) → Left (set live k (shrunk l t after))
  unlinked_more ne =
      let x = shrunk l t after in
      left (x ∷ []) (set live k x) (set_split live k x h ∙ ap (λ n. lo ++ x ∷ drop n live) (sym (add-one k))) is (shrunk_proper ne, tt) (falls_put side lo hi l x refl sound.falls)

-- a side without its order at a seat
module _ (s : Ladder) (t : Seat) (a : Sits s t) (g : t.passed < (level_of s t).size) where
  abbrev follows : ℕ
  follows = get_or (nexts s.places) t.place 0

  gone : Cut s.side (records s.places) (nexts s.places) (drop s.count s.slots) t.place (items s.levels) (place_of s t) (led (nexts s.places) t follows) (lessened (items s.levels) t follows)
  gone =
      let live = items s.levels in
      let free = drop s.count s.slots in
      let size = (level_of s t).size in
      cond_both (eqb size 1) (remove live t.level) (set live t.level (shrunk (level_of s t) t follows)) (Cut s.side (records s.places) (nexts s.places) free t.place live (place_of s t) (led (nexts s.places) t follows))
      (λ q. unlinked_one s.side (records s.places) (nexts s.places) free live t (opened s) (nexts_long s) a.level a.stands g (eqb-true size 1 q))
      (λ q. unlinked_more s.side (records s.places) (nexts s.places) free live t (opened s) (nexts_long s) a.level a.stands g (eqb-false size 1 q))

  pub some_held : 0 < s.count
  some_held = let b = gone.1 in let n = held_places s in omega arith

  module _ (after : ℕ) (ea : after ≡ follows) (ps : List Node) (slots : List ℕ) (count : ℕ) (shown : List Level) (eo : records ps ≡ records s.places)
      (en : nexts ps ≡ led (nexts s.places) t after) (el : shown ≡ lessened (items s.levels) t after) where
    on : nexts ps ≡ led (nexts s.places) t follows
    on = en ∙ ap (led (nexts s.places) t) ea

    kept : shown ≡ lessened (items s.levels) t follows
    kept = el ∙ ap (lessened (items s.levels) t) ea

    pub unlink_given : length s.slots ≡ 128 → count ≡ s.count - 1 → slots ≡ set s.slots (s.count - 1) t.place → Given s.side ps slots count shown
    unlink_given places ec es =
        let b = gone.1 in
        let m = held_places s in
        let r = s.room in
        let one : s.count - 1 + 1 ≡ s.count = omega arith in
        let free : drop count slots ≡ t.place ∷ drop s.count s.slots =
        ap (λ i. drop i slots) ec ∙ (ap (drop (s.count - 1)) es ∙ (drop-set s.slots (s.count - 1) t.place (omega arith) ∙ ap (λ i. t.place ∷ drop i s.slots) one)) in
        shut s.side ps (records s.places) (led (nexts s.places) t follows) slots (t.place ∷ drop s.count s.slots) count shown (lessened (items s.levels) t follows)
        eo on (records_long s) (omega arith) kept free (omega arith) gone.2

    pub unlink_list : book (records ps) (nexts ps) shown ≡ remove (listed s) (place_of s t)
    unlink_list =
        ap (book (records ps) (nexts ps)) kept ∙ (ap (λ z. book z (nexts ps) (lessened (items s.levels) t follows)) eo
        ∙ (ap (λ z. book (records s.places) z (lessened (items s.levels) t follows)) on ∙ gone.0))

-- Seats in queues, and the places of the list that they are.
use Rattle.std.proofs.Common.{◌≡◌, ℕ, suc, ◌+◌, ◌-◌, ◌<◌, ◌≤◌, List, ◌++◌, length, get_or, take, drop, Some, sym, refl, ap, ◌∙◌, subst, add-one, arith}
use Rattle.std.specs.List.{remove, slice_get}
use Rattle.std.proofs.lemmas.List.{append-nil, drop_all, drop_more, get_or-append-add, get_or_append_left, get_or-map, length-append, length-map, take_all}
use Rattle.std.proofs.lemmas.Option.{slice_get-get_or, slice_get_past}
use Rattle.ordered.specs.Bounded.{items}
use Rattle.book.specs.declared.resting.Resting.{Resting}
use Rattle.ladder_book.specs.declared.ladder.Ladder.{Ladder}
use Rattle.ladder_book.specs.declared.level.Level.{Level}
use Rattle.ladder_book.specs.declared.level.Seat.{Seat}
use Rattle.ladder_book.specs.Levels.{Stands}
use Rattle.ladder_book.specs.Queues.{at, book, ends, hop, ids, level_at, nexts, nobody, nowhere, queue, records, sizes, walk}
use Rattle.ladder_book.proofs.Places.{ends_walk, get_or_walk, hop_more, length_walk}
use Rattle.ladder_book.specs.Listed.{level_of, listed, Located, Past, place_of, Sits}
use Rattle.ladder_book.proofs.Sound.{held_places, hop_low, ids_cut, length_ids}

-- a place past the end is out of a list already
removed_past : {X : Type 0} (xs : List X) (i : ℕ) → length xs ≤ i → remove xs i ≡ xs
removed_past xs i h = let t = take_all i xs h in let d = drop_all (suc i) xs (omega arith) in rw (t, d, append-nil)

-- the seats of a level's queue
module _ (s : Ladder) (k : ℕ) (h : k < length (items s.levels)) where
  abbrev l : Level
  l = level_at (items s.levels) k

  pub front_sits : Sits s (record { level = k; passed = 0; last = l.head; place = l.head })
  front_sits = record {
    level = h;
    stands = record {
      within = omega arith;
      place_is = λ g. refl;
      last_is = λ g. absurd (omega arith);
      place_low = λ g. hop_low s k h 0 g;
      last_low = λ g. absurd (omega arith);
    };
  }

  pub back_sits : Sits s (record { level = k; passed = l.size; last = l.tail; place = l.tail }) × (l.tail < 128)
  back_sits =
      let f = s.filled k h in
      let e : l.size ≡ suc (l.size - 1) = omega arith in
      let last : l.tail ≡ hop (nexts s.places) (l.size - 1) l.head = s.tailed k h ∙ (ap (λ n. ends 0 (walk (nexts s.places) n l.head)) e ∙ ends_walk (nexts s.places) 0 (l.size - 1) l.head) in
      let low : l.tail < 128 = subst (λ x. x < 128) (sym last) (hop_low s k h (l.size - 1) (omega arith)) in
      let st : Stands (nexts s.places) l (record { level = k; passed = l.size; last = l.tail; place = l.tail }) =
      record { within = omega arith; place_is = λ g. absurd (omega arith); last_is = λ _. last; place_low = λ g. absurd (omega arith); last_low = λ _. low } in
      (record { level = h; stands = st }, low)

pub behind_sits : (s : Ladder) (t : Seat) → Sits s t → t.passed < (level_of s t).size
    → Sits s (record { level = t.level; passed = t.passed + 1; last = t.place; place = get_or (nexts s.places) t.place 0 })
behind_sits s t a g =
    let l = level_of s t in
    let st = a.stands in
    let back : t.passed + 1 - 1 ≡ t.passed = omega arith in
    let place : get_or (nexts s.places) t.place 0 ≡ hop (nexts s.places) (t.passed + 1) l.head =
    ap (λ x. get_or (nexts s.places) x 0) (st.place_is g) ∙ (sym (hop_more (nexts s.places) t.passed l.head) ∙ ap (λ m. hop (nexts s.places) m l.head) (sym (add-one t.passed))) in
    record {
      level = a.level;
      stands = record {
        within = omega arith;
        place_is = λ _. place;
        last_is = λ _. st.place_is g ∙ ap (λ m. hop (nexts s.places) m l.head) (sym back);
        place_low = λ f. subst (λ x. x < 128) (sym place) (hop_low s t.level a.level (t.passed + 1) f);
        last_low = λ _. st.place_low g;
      };
    }

-- the levels from k on, by their sizes
pub sizes_from : (live : List Level) (k : ℕ) → k < length live → sizes (drop k live) ≡ sizes (drop (k + 1) live) + (level_at live k).size
sizes_from live k h = ap sizes (drop_more live k nowhere h)

-- the order so many steps down the queue of a level
pub look_steps : (orders : List Resting) (next : List ℕ) (live : List Level) (k steps place : ℕ) → k < length live → steps < (level_at live k).size
    → place ≡ sizes (drop (k + 1) live) + steps → slice_get (book orders next live) place ≡ Some (at orders (hop next steps (level_at live k).head))
look_steps orders next live k steps place h g e =
    let U = ids next (drop (k + 1) live) in
    let W = queue next (level_at live k) in
    let B = ids next (take k live) in
    let u = length_ids next (drop (k + 1) live) in
    let w = length_walk next (level_at live k).size (level_at live k).head in
    let a = length-append U W in
    let b = length-append (U ++ W) B in
    let d = ap length (ids_cut next live k h) in
    let m = length-map (ids next live) (at orders) in
    let p : place ≡ length U + steps = omega arith in
    let read : get_or (ids next live) place 0 ≡ hop next steps (level_at live k).head =
    ap (λ l. get_or l place 0) (ids_cut next live k h) ∙ (get_or_append_left (U ++ W) B 0 place (omega arith)
    ∙ (ap (λ i. get_or (U ++ W) i 0) p ∙ (get_or-append-add U W steps 0 ∙ get_or_walk next (level_at live k).size (level_at live k).head steps 0 g))) in
    slice_get-get_or (book orders next live) place nobody (omega arith) ∙ ap Some (get_or-map (at orders) (ids next live) place 0 nobody (omega arith) ∙ ap (at orders) read)

-- the search for a place, which has come to a level from the best on
module _ (s : Ladder) where
  abbrev live : List Level
  live = items s.levels

  pub located_past : (k steps place : ℕ) → k ≡ 0 → place ≡ sizes (drop k live) + steps → Past s place
  located_past k steps place z is =
      let a = ap (λ m. sizes (drop m live)) z in
      let b = length_ids (nexts s.places) live in
      let d = held_places s in
      let e = s.held in
      let past : length (listed s) ≤ place = omega arith in
      record { none = slice_get_past (listed s) place past; same = removed_past (listed s) place past }

  pub located : (k steps place : ℕ) (t : Seat) → place ≡ sizes (drop k live) + steps → 0 < k → Sits s t → t.level ≡ k - 1 → t.passed ≡ steps
      → steps < (level_at live (k - 1)).size → Located s place t
  located k steps place t e p a el ep g =
      let one : t.level + 1 ≡ k = omega arith in
      let f = ap (λ i. (level_at live i).size) el in
      let d = ap (λ i. sizes (drop i live)) one in
      let some : t.passed < (level_of s t).size = omega arith in
      let is : place ≡ place_of s t = omega arith in
      record {
        holds = record { sits = a; some = some };
        is = is;
        order = look_steps (records s.places) (nexts s.places) live t.level t.passed place a.level some is ∙ ap (λ x. Some (at (records s.places) x)) (sym (a.stands.place_is some));
      }

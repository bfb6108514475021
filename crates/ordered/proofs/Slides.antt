-- Records moved by one slot.
use Rattle.std.proofs.Common.{◌≡◌, ℕ, ◌+◌, ◌-◌, ◌<◌, ◌≤◌, List, [], ◌∷◌, ◌++◌, length, get_or, take, drop, set, sym, ap, ◌∙◌, add-one, arith}
use lib.Seq.{paste}
use Rattle.std.proofs.Math.Seq.{take-set-lt}
use Rattle.std.specs.List.{insert as inserted_at, remove}
use Rattle.std.proofs.lemmas.List.{append_assoc, drop-take, length-append, length-drop, length-take, length-take-le, set_at, take_at, take_more, take-take}

-- a part of the first `used` records, as a copy reads it
part : {X : Type 0} (xs : List X) (used i : ℕ) → i ≤ used → take (used - i) (drop i xs) ≡ drop i (take used xs)
part xs used i l =
    let whole : i + (used - i) ≡ used = omega arith in
    sym (drop-take i (used - i) xs) ∙ ap (λ n. drop i (take n xs)) whole

module _ {X : Type 0} (xs : List X) (used i : ℕ) (l : i ≤ used) (room : used < length xs) (v : X) where
  -- moved up by one, and the item written into the gap
  pub risen : (ys : List X) → ys ≡ paste xs (i + 1) (drop i xs) (used - i) → set ys i v ≡ inserted_at (take used xs) i v ++ drop (used + 1) xs
  risen ys e =
      let p = part xs used i l in
      let past : i + 1 + (used - i) ≡ used + 1 = omega arith in
      let rest = drop i (take used xs) ++ drop (used + 1) xs in
      let moved : ys ≡ (take (i + 1) xs ++ drop i (take used xs)) ++ drop (used + 1) xs = e ∙ rw (p, past) in
      let split = moved ∙ append_assoc (take (i + 1) xs) (drop i (take used xs)) (drop (used + 1) xs)
      ∙ ap (λ zs. zs ++ rest) (take_more xs i v (omega arith)) ∙ append_assoc (take i xs) (get_or xs i v ∷ []) rest in
      let written = ap (λ zs. set zs i v) split ∙ set_at (take i xs) (get_or xs i v) rest v i (length-take-le i xs (omega arith)) in
      let t = take-take i used xs l in
      let a = append_assoc (take i (take used xs)) (v ∷ drop i (take used xs)) (drop (used + 1) xs) in
      cc written

  -- the list that is kept then
  pub kept_risen : (zs rest : List X) → zs ≡ inserted_at (take used xs) i v ++ rest → take (used + 1) zs ≡ inserted_at (take used xs) i v
  kept_risen zs rest e =
      let n : length (inserted_at (take used xs) i v) ≡ used + 1 = simp (length-append, length-take, length-drop) (omega arith) in
      ap (take (used + 1)) e ∙ take_at (inserted_at (take used xs) i v) rest (used + 1) n

module _ {X : Type 0} (xs : List X) (used i : ℕ) (h : i < used) (few : used ≤ length xs) where
  -- moved down by one
  pub sunk : (ys : List X) → ys ≡ paste xs i (drop (i + 1) xs) (used - (i + 1)) → ys ≡ remove (take used xs) i ++ drop (used - 1) xs
  sunk ys e =
      let p = part xs used (i + 1) (omega arith) in
      let past : i + (used - (i + 1)) ≡ used - 1 = omega arith in
      let t = take-take i used xs (omega arith) in
      e ∙ rw (p, past, t, ← add-one i)

  pub kept_sunk : (zs rest : List X) → zs ≡ remove (take used xs) i ++ rest → take (used - 1) zs ≡ remove (take used xs) i
  kept_sunk zs rest e =
      let n : length (remove (take used xs) i) ≡ used - 1 = simp (length-append, length-take, length-drop) (omega arith) in
      ap (take (used - 1)) e ∙ take_at (remove (take used xs) i) rest (used - 1) n

-- a record written among the first n
pub written : {X : Type 0} (n : ℕ) (xs : List X) (i : ℕ) (v : X) → i < n → take n (set xs i v) ≡ set (take n xs) i v
written = take-set-lt

-- The turns of the averaging walk, over any list.
use Rattle.std.proofs.Common.{◌≡◌, ℕ, ◌+◌, ◌-◌, ◌*◌, ◌≤◌, min, true, false, leb, List, [], ◌∷◌, Some, None, sym, ap, ◌∙◌, mul-le-mul_left, arith}
use Rattle.std.proofs.lemmas.Bool.{le-leb, lt-leb}
use Rattle.book.specs.declared.resting.Resting.{Resting}
use Rattle.pricing.specs.Counting.{counting}
use Rattle.pricing.specs.Walk.{covered, walked}

-- What holds with `wanted` of the q shares still to walk over `rest`: it gives what all of the list gives, and a share so far
-- costs at most the largest limit of 32 bits.
pub record Walking (q : ℕ) (os : List Resting) (wanted cost : ℕ) (rest : List Resting) : Type 0 where
  pub gives : covered wanted cost rest ≡ covered q 0 (counting os)
  pub within : wanted ≤ q
  pub bound : cost ≤ (q - wanted) * 4294967295

module _ {q wanted cost : ℕ} {os rest : List Resting} (w : Walking q os wanted cost rest) where
  walked_tested : 1 ≤ q → q ≤ 1000000 → walked q os ≡ covered wanted cost rest
  walked_tested l h =
      let t : leb 1 q ≡ true = le-leb 1 q l in
      let u : leb q 1000000 ≡ true = le-leb q 1000000 h in
      rw (t, u) (sym w.gives)

  pub walked_short : rest ≡ [] → 1 ≤ q → q ≤ 1000000 → None ≡ walked q os
  walked_short e l h = sym (walked_tested l h ∙ ap (covered wanted cost) e)

  module _ {o : Resting} {others : List Resting} {s : ℕ} (e : rest ≡ o ∷ others) (m : s ≡ min wanted o.volume) where
    -- the shares taken of one order cost no more than so many at the largest limit
    pub bound_more : o.limit ≤ 4294967295 → cost + s * o.limit ≤ (q - (wanted - s)) * 4294967295
    bound_more l =
        let p : s * o.limit ≤ s * 4294967295 = mul-le-mul_left s l in
        omega (arith, w.within, w.bound)

    module _ {sum : ℕ} (added : sum ≡ cost + s * o.limit) where
      pub walked_whole : s ≡ wanted → 1 ≤ q → q ≤ 1000000 → Some (record { cost = sum; last = o.limit }) ≡ walked q os
      walked_whole all l h =
          let t : leb wanted o.volume ≡ true = le-leb wanted o.volume (omega arith) in
          sym (walked_tested l h ∙ rw (e, t, added, all))

      pub walking_more : (s ≡ wanted → ⊥) → o.limit ≤ 4294967295 → Walking q os (wanted - s) sum others
      walking_more n l =
          let t : leb wanted o.volume ≡ false = lt-leb wanted o.volume (omega arith) in
          let v : s ≡ o.volume = omega arith in
          let step : covered wanted cost rest ≡ covered (wanted - s) sum others = rw (e, t, added, v) in
          record { gives = sym step ∙ w.gives; within = omega (arith, w.within); bound = rw added (bound_more l) }

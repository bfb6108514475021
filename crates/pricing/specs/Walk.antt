-- The averaging walk over the orders that count.
use Rattle.std.specs.Prelude.{ℕ, ◌+◌, ◌-◌, ◌*◌, Bool, cond, ◌&&◌, List, [], ◌∷◌, length, take, replicate, Some, None, sum, Option, nat_le, slice_index}
use Rattle.std.specs.List.{flat_map}
use Rattle.book.specs.declared.resting.Resting.{Resting}
use Rattle.pricing.specs.Counting.{counting}
use Rattle.pricing.specs.declared.records.Walked.{Walked}

-- upon a cost so far: limit times shares over the first `wanted` shares, and the limit of the order that has the last of them
abbrev pub covered : (wanted cost : ℕ) → List Resting → Option Walked
covered wanted cost [] = None
covered wanted cost (o ∷ os) =
    cond (nat_le wanted o.volume) (Some (record { cost = cost + wanted * o.limit; last = o.limit }))
    (covered (wanted - o.volume) (cost + o.volume * o.limit) os)

-- an order has 1 to 1,000,000 shares
abbrev pub orderable : ℕ → Bool
orderable q = nat_le 1 q && nat_le q 1000000

abbrev pub walked : ℕ → List Resting → Option Walked
walked q os = cond (orderable q) (covered q 0 (counting os)) None

-- What that means share by share: the shares in the order in which they are walked, each as its order's limit;
-- the cost is the sum of the first q, and the last limit walked is the q-th.
abbrev pub shares : List Resting → List ℕ
shares os = flat_map (λ o. replicate o.volume o.limit) os

abbrev pub by_share : ℕ → List ℕ → Option Walked
by_share q limits =
    cond (orderable q && nat_le q (length limits))
    (Some (record { cost = sum (take q limits); last = slice_index limits (q - 1) }))
    None

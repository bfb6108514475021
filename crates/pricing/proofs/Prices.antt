-- What the rounding and the relative limit come to.
use Rattle.std.proofs.Common.{◌≡◌, ℕ, ◌+◌, ◌-◌, ◌*◌, ◌<◌, ◌≤◌, leb, ap, mul-le-mul_right, mul_assoc, add-mul, div-mul-le_self, mul_left_comm, arith}
use native.Mathlib.Nat.{lt-div-mul-add}
use Rattle.book.specs.declared.side.Side.{Side}
use Rattle.book.specs.declared.side.Side.TheVariants.{Bid, Ask}
use Rattle.std.proofs.lemmas.Nat.{div_below}
use Rattle.std.proofs.lemmas.Bool.{cond_both, leb-true}
use Rattle.pricing.specs.Price.{rounded, quoted, Nearest, BeatsTheCost}

pub nearest : (cost q : ℕ) → 1 ≤ q → Nearest cost q (rounded cost q)
nearest cost q some =
    let low = div-mul-le_self (2 * cost + q) (2 * q) in
    let high = lt-div-mul-add {a = 2 * cost + q} {b = 2 * q} (omega arith) in
    let twice = mul_left_comm (rounded cost q) 2 q in
    (omega arith, omega arith)

-- limits of 32 bits have an average of 32 bits
pub rounded_fits : (cost q : ℕ) → 1 ≤ q → cost ≤ q * 4294967295 → rounded cost q < 4294967296
rounded_fits cost q some bound = div_below (2 * cost + q) (2 * q) 4294967296 (omega arith) (omega arith)

-- a price at least one below the average, and one at least one above it
below : (cost q average p : ℕ) → p + 1 ≤ average → Nearest cost q average → (2 * p + 1) * q ≤ 2 * cost
below cost q average p l n =
    let k : (p + 1) * q ≤ average * q = mul-le-mul_right q l in
    omega (arith, add-mul p 1 q, add-mul (2 * p) 1 q, mul_assoc 2 p q)

above : (cost q average p : ℕ) → average + 1 ≤ p → Nearest cost q average → 2 * cost ≤ (2 * p - 1) * q
above cost q average p l n =
    let k : (average + 1) * q ≤ p * q = mul-le-mul_right q l in
    let m : 2 * p - 1 + 1 ≡ 2 * p = omega arith in
    omega (arith, add-mul average 1 q, add-mul (2 * p - 1) 1 q, mul_assoc 2 p q, ap (λ x. x * q) m)

pub beats : (s : Side) (cost q average relative : ℕ) → 1 ≤ relative → Nearest cost q average → BeatsTheCost s cost q (quoted s average relative)
beats Ask cost q a r some n =
    cond_both (leb 1 (a - r)) _ _ (BeatsTheCost Ask cost q) (λ t. below cost q a (a - r) (omega (arith, leb-true 1 (a - r) t)) n) (λ _. tt)
beats Bid cost q a r some n = cond_both (leb 1 (a + r)) _ _ (BeatsTheCost Bid cost q) (λ t. above cost q a (a + r) (omega arith) n) (λ _. tt)

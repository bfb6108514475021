-- A number in its range, or refused.
use Rattle.std.specs.Prelude.{ℕ, Bool, cond, ◌&&◌, Some, None, Ok, Err, Option, Result, ◌==◌, nat_le}

-- both ends are in the range
abbrev pub within : (least most : ℕ) → ℕ → Bool
within least most n = nat_le least n && nat_le n most

abbrev pub ranged : {E : Type 0} → (least most : ℕ) → E → ℕ → Result ℕ E
ranged least most fault n = cond (within least most n) (Ok n) (Err fault)

-- 0 says none
abbrev pub nonzero : ℕ → Option ℕ
nonzero n = cond (n == 0) None (Some n)

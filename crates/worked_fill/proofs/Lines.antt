-- What `{:>5}` writes.
use Rattle.std.proofs.Common.{◌≡◌, ℕ, ◌-◌, ◌^◌, ◌∷◌, length, replicate, refl, ap, arith, zero, suc}
use Rattle.std.proofs.lemmas.List.{append-nil}
use Rattle.std.specs.Char.{encode_utf8}
use Rattle.std.specs.Fmt.{decimal, styled_decimal, padded_integral, char_count, format_spec}
use Rattle.std.specs.List.{repeat}
use Rattle.worked_fill.specs.Text.{right_aligned}

spaces : (n : ℕ) → repeat n (encode_utf8 32) ≡ replicate n 32
unfolding encode_utf8
spaces zero = refl
spaces (suc n) = ap (λ t. 32 ∷ t) (spaces n)

pub in_five_places : (n : ℕ) → styled_decimal (format_spec 32 3 0 5 (2 ^ 64 - 1)) n ≡ right_aligned 5 (decimal n)
unfolding padded_integral char_count
in_five_places n =
    let p = 5 - length (decimal n) in
    let pad : 5 - length (decimal n) - 0 - 0 ≡ p = omega arith in
    let behind : p - p ≡ 0 = omega arith in
    rw (pad, behind, spaces p) (simp append-nil refl)

-- What `{:03}` writes.
use Rattle.std.proofs.Common.{◌≡◌, ℕ, ◌+◌, ◌/◌, ◌%◌, ◌<◌, ◌≤◌, ◌-◌, ◌*◌, ◌^◌, [], ◌∷◌, ◌++◌, subst, ◌∙◌, arith, List}
use Rattle.std.proofs.Math.Logic.{⊎_elim}
use Rattle.std.proofs.lemmas.Bool.{cases_lt}
use Rattle.std.specs.Fmt.{decimal, styled_decimal, padded_integral, char_count, format_spec}
use Rattle.std.proofs.lemmas.Fmt.{decimal_digit, decimal_step, decimal_is_IsNumeral}
use Rattle.std.proofs.lemmas.List.{append_assoc}
use Rattle.std.proofs.lemmas.Int.Digits.{digits_value_push}
use Rattle.std.proofs.lemmas.Str.{digit_value_digit}
use Rattle.std.specs.Char.{digit_value}
use Rattle.std.specs.Str.Parse.{digits_value}
use Rattle.euro.specs.Text.{digit, three_digits}

two : (n : ℕ) → 10 ≤ n → n < 100 → decimal n ≡ digit (n / 10) ∷ digit (n % 10) ∷ []
two n large small = rw (decimal_step n large (omega arith), decimal_digit (n / 10) (omega arith))

three : (n : ℕ) → 100 ≤ n → n < 1000 → decimal n ≡ three_digits n
three n large small =
    let hundreds : n / 10 / 10 ≡ n / 100 = omega arith in
    rw (decimal_step n (omega arith) (omega arith), two (n / 10) (omega arith) (omega arith), hundreds)

-- of a number below 1000 its three digits
pub zeros_in_front : (n : ℕ) → n < 1000 → styled_decimal (format_spec 32 0 4 3 (2 ^ 64 - 1)) n ≡ three_digits n
unfolding padded_integral char_count
zeros_in_front n small = ⊎_elim
    (λ one. rw (decimal_digit n one) (grind arith))
    (λ more. ⊎_elim (λ short. rw (two n more short) (grind arith)) (λ long. rw (three n long small)) (cases_lt n 100))
    (cases_lt n 10)

value_of_digit : (d : ℕ) → d < 10 → digit_value (digit d) ≡ d
value_of_digit d small = omega (arith, digit_value_digit (digit d) (omega arith))

-- three digits more
value_of_three : (ds : List ℕ) (n : ℕ) → n < 1000 → digits_value 10 (ds ++ three_digits n) ≡ digits_value 10 ds * 1000 + n
value_of_three ds n small =
    let a = digit (n / 100) in
    let b = digit (n / 10 % 10) in
    let c = digit (n % 10) in
    let pieces : ds ++ (a ∷ []) ++ (b ∷ []) ++ (c ∷ []) ≡ ds ++ three_digits n =
    append_assoc (ds ++ (a ∷ [])) (b ∷ []) (c ∷ []) ∙ append_assoc ds (a ∷ []) (b ∷ c ∷ []) in
    subst (λ t. digits_value 10 t ≡ digits_value 10 ds * 1000 + n) pieces
    (rw (
      digits_value_push 10 (ds ++ (a ∷ []) ++ (b ∷ [])) c,
      digits_value_push 10 (ds ++ (a ∷ [])) b,
      digits_value_push 10 ds a,
      value_of_digit (n / 100) (omega arith),
      value_of_digit (n / 10 % 10) (omega arith),
      value_of_digit (n % 10) (omega arith),
    )
    (omega arith))

pub value_of_text : (n : ℕ) → n < 2 ^ 64 → digits_value 10 (decimal (n / 1000) ++ three_digits (n % 1000)) ≡ n
value_of_text n small =
    let whole : digits_value 10 (decimal (n / 1000)) ≡ n / 1000 = (decimal_is_IsNumeral (n / 1000) (omega arith)).1 in
    rw (value_of_three (decimal (n / 1000)) (n % 1000) (omega arith), whole) (omega arith)

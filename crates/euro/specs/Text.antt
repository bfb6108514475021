-- How an amount in thousandths of a euro is written.
use Rattle.std.specs.Prelude.{◌≡◌, ℕ, ◌+◌, ◌/◌, ◌%◌, ◌^◌, ◌<◌, List, [], ◌∷◌, ◌++◌, codes, decimal, map}
use Rattle.std.specs.Str.Parse.{digits_value}

-- the character of a digit, which for 0 is 48
abbrev pub digit : ℕ → ℕ
digit n = 48 + n

-- hundreds, tens and ones of a number below 1000, zeros in front
abbrev pub three_digits : ℕ → List ℕ
three_digits n = digit (n / 100) ∷ digit (n / 10 % 10) ∷ digit (n % 10) ∷ []

-- the whole euros, a point, and the rest as three digits
abbrev pub euro_text : ℕ → List ℕ
euro_text n = decimal (n / 1000) ++ (codes "." ++ three_digits (n % 1000))

-- the digits of the text, without the point, are the amount in thousandths
abbrev pub TextIsTheAmount : Type 0
TextIsTheAmount = (n : ℕ) → n < 2 ^ 64 → digits_value 10 (decimal (n / 1000) ++ three_digits (n % 1000)) ≡ n

-- amounts written out by hand
pub record Written : Type 0 where
  pub amount : ℕ
  pub text : List ℕ

abbrev pub amounts : List Written
amounts =
    record { amount = 0; text = codes "0.000" } ∷
    record { amount = 8; text = codes "0.008" } ∷
    record { amount = 90; text = codes "0.090" } ∷
    record { amount = 4100; text = codes "4.100" } ∷
    record { amount = 54423; text = codes "54.423" } ∷
    record { amount = 27215600; text = codes "27215.600" } ∷
    []

abbrev pub AmountsHold : Type 0
AmountsHold = map (λ w. euro_text w.amount) amounts ≡ map (λ w. w.text) amounts

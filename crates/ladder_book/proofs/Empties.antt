-- A side without orders: every place is free.
use Rattle.std.proofs.Common.{◌≡◌, ℕ, suc, ◌+◌, ◌<◌, cond, List, [], ◌∷◌, length, get_or, refl, ◌∙◌, arith}
use Rattle.std.proofs.lemmas.List.{length-map}
use Rattle.std.specs.Prelude.{nat_lt}
use Rattle.std.proofs.lemmas.Bool.Decides.{nat_tests}
use Rattle.book.specs.declared.side.Side.{Side}
use Rattle.ladder_book.specs.declared.level.Level.{Level}
use Rattle.ladder_book.specs.declared.level.Node.{Node}
use Rattle.ladder_book.specs.Queues.{occurs, once}
use Rattle.ladder_book.proofs.Sound.{Given, shut}

-- of the places from a on, each comes once and no other comes
run : (xs : List ℕ) (a k : ℕ) → ((i : ℕ) → i < length xs → get_or xs i 0 ≡ a + i) → occurs k xs ≡ cond (nat_lt k a) 0 (cond (nat_lt k (a + length xs)) 1 0)
run [] a k f = grind (arith, nat_tests)
run (x ∷ xs) a k f =
    let x_is : x ≡ a = f 0 (omega arith) ∙ omega arith in
    let ih = run xs (a + 1) k (λ i h. f (suc i) (omega arith) ∙ omega arith) in
    grind (arith, nat_tests)

all_once : (xs : List ℕ) → length xs ≡ 128 → ((k : ℕ) → k < 128 → get_or xs k 0 ≡ k) → (k : ℕ) → occurs k xs ≡ once k
all_once xs n f k =
    let r = run xs 0 k (λ i h. f i (omega arith) ∙ omega arith) in
    grind (arith, nat_tests)

pub empty_sound : (side : Side) (places : List Node) (slots : List ℕ) (shown : List Level) → length places ≡ 128 → length slots ≡ 128
    → ((k : ℕ) → k < 128 → get_or slots k 0 ≡ k) → shown ≡ [] → Given side places slots 0 shown
empty_sound side places slots shown wide ns f none =
    shut side places _ _ slots slots 0 shown [] refl refl (length-map places (λ p. p.order) ∙ wide) (omega arith) none refl refl (record { apart = all_once slots ns f; proper = tt; falls = refl; ordered = refl })

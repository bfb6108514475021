-- A loop that writes the text of a list, order by order.
use Rattle.std.proofs.Common.{◌≡◌, ℕ, ◌+◌, suc, arith, true, false, inl, inr, ap, filter, List, [], ◌∷◌, ◌++◌, refl, subst, ◌∙◌}
use Rattle.std.proofs.Output.{has_written_append, writes_in_calls_nil}
use Rattle.std.proofs.lemmas.List.{append_assoc}
use Rattle.std.specs.List.{prefix_len}
use Rattle.std.proofs.lemmas.Bool.{cases_Bool}
use Rattle.std.specs.Fmt.{HasWritten, IsPlainFormatter}
use Rattle.std.specs.declared.fmt.Formatter.{Formatter}
use Rattle.book.specs.Sides.{reaches}
use Rattle.book.specs.declared.resting.Resting.{Resting}
use Rattle.book.specs.declared.side.Side.TheVariants.{Ask}
use Rattle.worked_fill.specs.Text.{asks_text, lot_line, lot_of, swept_text}

-- from f to g a part of the whole text has been written, and the rest is left
pub record Writing {W : Type 0} (took : W → List ℕ → W → Type 0) (f : Formatter W) (whole left : List ℕ) (g : Formatter W) : Type 0 where
  pub done : List ℕ
  pub wrote : HasWritten took f done g
  pub split : done ++ left ≡ whole

pub at_first : {W : Type 0} {took : W → List ℕ → W → Type 0} {f : Formatter W} {whole left : List ℕ} → left ≡ whole → IsPlainFormatter f → Writing took f whole left f
at_first {took = took} {f = f} all plain = record { done = []; wrote = record { wrote = writes_in_calls_nil took f.writer; plain = plain }; split = all }

pub one_more : {W : Type 0} {took : W → List ℕ → W → Type 0} {f g h : Formatter W} {whole left : List ℕ} (line more : List ℕ) → Writing took f whole left g
    → left ≡ line ++ more → HasWritten took g line h → Writing took f whole more h
one_more {f = f} {g = g} {h = h} {whole = whole} line more w is wrote = record {
  done = w.done ++ line;
  wrote = has_written_append _ f w.done g line h w.wrote wrote;
  split = append_assoc w.done line more ∙ subst (λ t. w.done ++ t ≡ whole) is w.split;
}

-- the next ask is swept too
pub swept_more : (price : ℕ) (o : Resting) (os : List Resting) → reaches Ask o.limit price ≡ true → swept_text price (o ∷ os) ≡ lot_line (lot_of o) ++ swept_text price os
swept_more price o os reached =
    let n = prefix_len (λ x. reaches Ask x.limit price) os in
    let next : 1 + n ≡ suc n = omega arith in
    rw (reached, next) refl

-- order by order: a hidden one adds nothing, a visible one the same line
pub asks_shown : (os : List Resting) → asks_text false os ≡ asks_text true (filter (λ o. o.visible) os)
asks_shown [] = refl
asks_shown (o ∷ os) = elim (cases_Bool o.visible) [
  | inl seen ↦ rw seen (ap (λ t. lot_line (lot_of o) ++ t) (asks_shown os))
  | inr unseen ↦ rw unseen (asks_shown os)
]

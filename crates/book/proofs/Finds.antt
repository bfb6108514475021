-- What find tells of a number.
use Rattle.std.proofs.Common.{◌≡◌, ℕ, zero, suc, List, [], ◌∷◌, take, Some, None, Ok, Err, Option, Result, sym, refl, ap, subst, ◌∙◌, arith}
use Rattle.std.specs.Option.{option_map}
use Rattle.std.specs.List.{position_from, slice_get}
use Rattle.std.proofs.ByRecursion.{All-weaker}
use Rattle.std.proofs.lemmas.Bool.{eqb-true, eqb-false}
use Rattle.ordered.proofs.Finds.{Hits, place_hits, place_misses}
use Rattle.book.specs.Keeping.{FindIsExact, NoneHas}
use Rattle.book.specs.Lists.{found, has_number, placed, position, volume_at, volume_of}
use Rattle.book.specs.Sides.{on}
use Rattle.book.specs.declared.fault.Fault.{Fault}
use Rattle.book.specs.declared.fault.Fault.TheVariants.{Unknown}
use Rattle.book.specs.declared.resting.Resting.{Resting}
use Rattle.book.specs.declared.side.Side.TheVariants.{Ask}
use Rattle.book.specs.declared.whole.Position.{Position}

-- the order at a place that was told has the number
hit_has : (n : ℕ) (os : List Resting) (k : ℕ) → Hits (has_number n) os k → option_map (λ o. o.number) (slice_get os k) ≡ Some n
hit_has n [] k h = absurd h
hit_has n (o ∷ os) zero h = ap Some (eqb-true o.number n h)
hit_has n (o ∷ os) (suc k) h = hit_has n os k h.1

-- no order in front of it has
hit_first : (n : ℕ) (os : List Resting) (k : ℕ) → Hits (has_number n) os k → NoneHas n (take k os)
hit_first n [] k h = absurd h
hit_first n (o ∷ os) zero h = tt
hit_first n (o ∷ os) (suc k) h = (eqb-false o.number n h.0, hit_first n os k h.1)

-- the place of a number is that of its key
pub placed_key : (n i : ℕ) (os : List Resting) → placed n i os ≡ position_from (has_number n) i os
placed_key n i os = refl

-- no order has a number without a place
none_placed : (n : ℕ) (os : List Resting) → placed n 0 os ≡ None → NoneHas n os
none_placed n os h = All-weaker _ (λ o. o.number ≡ n → ⊥) (λ o. eqb-false o.number n) os (place_misses (has_number n) os (sym (placed_key n 0 os) ∙ h))

volume_told : (n : ℕ) (x : Option Resting) (e : Fault) → option_map (λ o. o.number) x ≡ Some n → volume_of x ≡ Err e → ⊥
volume_told n None e h r = grind arith
volume_told n (Some o) e h r = grind arith

same_position : (p q : Position) → ◌≡◌ {A = Result Position Fault} (Ok p) (Ok q) → p ≡ q
same_position p q e = cc

module _ (n : ℕ) (bids asks : List Resting) where
  abbrev HasNumber : Position → Type 0
  HasNumber p = option_map (λ o. o.number) (slice_get (on p.side bids asks) p.place) ≡ Some n

  abbrev IsFirst : Position → Type 0
  IsFirst p = NoneHas n (take p.place (on p.side bids asks)) × (p.side ≡ Ask → NoneHas n bids)

  told_by : (a b : Option ℕ) (p : Position) → placed n 0 bids ≡ a → placed n 0 asks ≡ b → position a b ≡ Ok p → HasNumber p × IsFirst p
  told_by (Some i) b p ea eb h =
      let hit = place_hits (has_number n) bids i (sym (placed_key n 0 bids) ∙ ea) in
      subst (λ (q : Position). HasNumber q × IsFirst q) (same_position _ p h) (hit_has n bids i hit, (hit_first n bids i hit, λ e. absurd (grind arith)))
  told_by None (Some i) p ea eb h =
      let hit = place_hits (has_number n) asks i (sym (placed_key n 0 asks) ∙ eb) in
      subst (λ (q : Position). HasNumber q × IsFirst q) (same_position _ p h) (hit_has n asks i hit, (hit_first n asks i hit, λ e. none_placed n bids ea))
  told_by None None p ea eb h = absurd (grind arith)

  told : (p : Position) → found n bids asks ≡ Ok p → HasNumber p × IsFirst p
  told p h = told_by (placed n 0 bids) (placed n 0 asks) p refl refl h

  refused_by : (a b : Option ℕ) (e : Fault) → placed n 0 bids ≡ a → placed n 0 asks ≡ b → position a b ≡ Err e
      → (e ≡ Unknown) × NoneHas n bids × NoneHas n asks
  refused_by (Some i) b e ea eb h = absurd (grind arith)
  refused_by None (Some i) e ea eb h = absurd (grind arith)
  refused_by None None e ea eb h = (cc, none_placed n bids ea, none_placed n asks eb)

  removing : (r : Result Position Fault) (e : Fault) → found n bids asks ≡ r → volume_at r bids asks ≡ Err e → r ≡ Err e
  removing (Err f) e h v = let same : f ≡ e = cc in ap Err same
  removing (Ok p) e h v = absurd (volume_told n _ e (told p h).0 v)

pub find_is_exact : FindIsExact
find_is_exact = record {
  told = λ n bids asks p h. (told n bids asks p h).0;
  first = λ n bids asks p h. (told n bids asks p h).1;
  refused = λ n bids asks e. refused_by n bids asks (placed n 0 bids) (placed n 0 asks) e refl refl;
  removing = λ n bids asks e. removing n bids asks (found n bids asks) e refl;
}

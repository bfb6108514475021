-- The calls keep lists in order, and change only volumes.
use Rattle.std.proofs.Common.{◌≡◌, ℕ, eqb, ◌⊎◌, List, [], ◌∷◌, map, drop, Ok, Err, Result, refl, inl, inr}
use Rattle.std.specs.List.{remove}
use Rattle.std.proofs.lemmas.Bool.{cond_both}
use Rattle.ordered.proofs.Keeps as ordered
use Rattle.ordered.specs.Order.{InOrder}
use Rattle.book.specs.Ranks.{irreflexive, transitive}
use Rattle.book.specs.Keeping.{CallsKeepOrder, CallsKeepFaces, OneLess, face}
use Rattle.book.specs.Lists.{asks_less, bids_less, entered, fits, found, has_room, lowered, taken}
use Rattle.book.specs.Priority.{ahead}
use Rattle.book.specs.Sides.{on}
use Rattle.book.specs.declared.fault.Fault.{Fault}
use Rattle.book.specs.declared.resting.Resting.{Resting}
use Rattle.book.specs.declared.side.Side.{Side}
use Rattle.book.specs.declared.side.Side.TheVariants.{Bid, Ask}
use Rattle.book.specs.declared.whole.Position.{Position}

entering : (s : Side) (o : Resting) (os : List Resting) → InOrder (ahead s) os → InOrder (ahead s) (entered s o os)
entering s o os h = cond_both (has_room os) _ os (InOrder (ahead s)) (λ _. ordered.keeps_order (ahead s) (irreflexive s) (transitive s) o os h) (λ _. h)

taking : (s : Side) (v : ℕ) (os : List Resting) → InOrder (ahead s) os → InOrder (ahead s) (taken v os)
taking s v [] h = h
taking s v (o ∷ os) h =
    cond_both (fits v o) _ (o ∷ os) (InOrder (ahead s))
    (λ _. cond_both (eqb v o.volume) os (lowered v o ∷ os) (InOrder (ahead s)) (λ _. (ordered.order_parts (ahead s) o os h).1) (λ _. h))
    (λ _. h)

-- what holds of a list, and of it without an order, holds of both sides when an order is removed
module _ (P : List Resting → Type 0) (os : List Resting) (same : P os) (less : (i : ℕ) → P (remove os i)) where
  one_less : (s : Side) (i : ℕ) → P (on s (remove os i) os) × P (on s os (remove os i))
  one_less Bid i = (less i, same)
  one_less Ask i = (same, less i)

  bids_kept : (r : Result Position Fault) → P (bids_less r os)
  bids_kept (Err e) = same
  bids_kept (Ok p) = (one_less p.side p.place).0

  asks_kept : (r : Result Position Fault) → P (asks_less r os)
  asks_kept (Err e) = same
  asks_kept (Ok p) = (one_less p.side p.place).1

pub keeps_order : CallsKeepOrder
keeps_order = record {
  entering = entering;
  taking = taking;
  removing_bids = λ n bids asks h. bids_kept (InOrder (ahead Bid)) bids h (λ i. ordered.removal_keeps (ahead Bid) bids i h) (found n bids asks);
  removing_asks = λ n bids asks h. asks_kept (InOrder (ahead Ask)) asks h (λ i. ordered.removal_keeps (ahead Ask) asks i h) (found n bids asks);
}

abbrev Kept : (before after : List Resting) → Type 0
Kept before after = ((map face after ≡ map face before) × (drop 1 after ≡ drop 1 before)) ⊎ (after ≡ drop 1 before)

taking_faces : (v : ℕ) (os : List Resting) → Kept os (taken v os)
taking_faces v [] = inr refl
taking_faces v (o ∷ os) =
    cond_both (fits v o) _ (o ∷ os) (Kept (o ∷ os))
    (λ _. cond_both (eqb v o.volume) os (lowered v o ∷ os) (Kept (o ∷ os)) (λ _. inr refl) (λ _. inl (refl, refl)))
    (λ _. inl (refl, refl))

pub keeps_faces : CallsKeepFaces
keeps_faces = record {
  taking = taking_faces;
  removing_bids = λ n bids asks. bids_kept (OneLess bids) bids (inl refl) (λ i. inr (i, refl)) (found n bids asks);
  removing_asks = λ n bids asks. asks_kept (OneLess asks) asks (inl refl) (λ i. inr (i, refl)) (found n bids asks);
}

-- What is read of a place and written there, in the lists of orders and of links.
use Rattle.std.proofs.Common.{◌≡◌, ℕ, List, get_or, set, sym, refl}
use Rattle.std.proofs.lemmas.List.{map-set}
use Rattle.std.proofs.Math.ListN.{get_or-map}
use Rattle.std.proofs.Math.Seq.{map-set_same}
use Rattle.book.specs.declared.resting.Resting.{Resting}
use Rattle.ladder_book.specs.declared.level.Node.{Node}
use Rattle.ladder_book.specs.Queues.{at, nexts, records, vacant}

pub next_at : (ps : List Node) (i : ℕ) → (get_or ps i vacant).next ≡ get_or (nexts ps) i 0
next_at ps i = sym (get_or-map (λ p. p.next) ps i vacant)

pub order_at : (ps : List Node) (i : ℕ) → (get_or ps i vacant).order ≡ at (records ps) i
order_at ps i = sym (get_or-map (λ p. p.order) ps i vacant)

pub records_set : (ps : List Node) (i : ℕ) (n : Node) → records (set ps i n) ≡ set (records ps) i n.order
records_set ps i n = map-set (λ p. p.order) ps i n

pub nexts_set : (ps : List Node) (i : ℕ) (n : Node) → nexts (set ps i n) ≡ set (nexts ps) i n.next
nexts_set ps i n = map-set (λ p. p.next) ps i n

-- one of the two written alone leaves the other as it was
pub records_same : (ps : List Node) (i next : ℕ) → records (set ps i (record { order = (get_or ps i vacant).order; next = next })) ≡ records ps
records_same ps i next = map-set_same (λ p. p.order) ps i _ vacant refl

pub nexts_same : (ps : List Node) (i : ℕ) (o : Resting) → nexts (set ps i (record { order = o; next = (get_or ps i vacant).next })) ≡ nexts ps
nexts_same ps i o = map-set_same (λ p. p.next) ps i _ vacant refl

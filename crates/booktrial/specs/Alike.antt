-- When a book stands as the plain one does.
use Rattle.std.specs.Prelude.{◌≡◌, ◌<◌, ℕ, List, length, Some}
use Rattle.std.specs.List.{slice_get}
use Rattle.book.specs.declared.resting.Resting.{Resting}
use Rattle.book.specs.declared.side.Side.{Side}
use Rattle.book.specs.declared.side.Side.TheVariants.{Bid, Ask}
use Rattle.booktrial.specs.Arrivals.{place_of}
use Rattle.booktrial.specs.Calls.{Lists}

-- each of the first n orders that came stands in the list at the place that it finds by counting
abbrev pub StandsTo : Side → (came list : List Resting) → (n : ℕ) → Type 0
StandsTo s came list n = (k : ℕ) (o : Resting) → k < n → slice_get came k ≡ Some o → slice_get list (place_of s came k o) ≡ Some o

-- the list has as many orders as came, and each stands there
pub record AlikeOn (s : Side) (came list : List Resting) : Type 0 where
  pub count : length list ≡ length came
  pub each : StandsTo s came list (length came)

pub record Alike (plain book : Lists) : Type 0 where
  pub bids : AlikeOn Bid plain.bids book.bids
  pub asks : AlikeOn Ask plain.asks book.asks

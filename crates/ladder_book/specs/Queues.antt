-- Queues of places, and the list of orders that they stand for.
use Rattle.std.specs.Prelude.{ℕ, zero, suc, ◌+◌, false, cond, not, List, [], ◌∷◌, ◌++◌, map, ◌==◌, nat_lt, slice_index, slice_index_or}
use Rattle.ordered.specs.Order.{InOrder}
use Rattle.book.specs.Priority.{ahead}
use Rattle.book.specs.declared.resting.Resting.{Resting}
use Rattle.book.specs.declared.side.Side.{Side}
use Rattle.ladder_book.specs.declared.level.Level.{Level}
use Rattle.ladder_book.specs.declared.level.Node.{Node}
use Rattle.book.specs.Signs.{like, sign_of}

-- what stands at the places: their orders, and the places that they lead on to
abbrev pub records : List Node → List Resting
records ps = map (λ p. p.order) ps

abbrev pub nexts : List Node → List ℕ
nexts ps = map (λ p. p.next) ps

-- n places from h on, each followed by what `next` holds there
abbrev pub walk : List ℕ → ℕ → ℕ → List ℕ
walk next zero h = []
walk next (suc n) h = h ∷ walk next n (slice_index next h)

-- the place n steps on
abbrev pub hop : List ℕ → ℕ → ℕ → ℕ
hop next zero h = h
hop next (suc n) h = hop next n (slice_index next h)

-- the last of a list; d where it is empty
abbrev pub ends : {X : Type 0} → X → List X → X
ends d [] = d
ends d (x ∷ xs) = ends x xs

-- how often k comes
abbrev pub occurs : ℕ → List ℕ → ℕ
occurs k [] = 0
occurs k (x ∷ xs) = cond (k == x) 1 0 + occurs k xs

abbrev pub once : ℕ → ℕ
once k = cond (nat_lt k 128) 1 0

-- the places of a level, its first order's first
abbrev pub queue : List ℕ → Level → List ℕ
queue next l = walk next l.size l.head

-- the places of all levels, the best level's first: it stands last in the array
abbrev pub ids : List ℕ → List Level → List ℕ
ids next [] = []
ids next (l ∷ ls) = ids next ls ++ queue next l

abbrev pub sizes : List Level → ℕ
sizes [] = 0
sizes (l ∷ ls) = sizes ls + l.size

abbrev pub nobody : Resting
nobody = record { number = 0; member = 0; limit = 0; volume = 0; visible = false }

abbrev pub vacant : Node
vacant = record { order = nobody; next = 0 }

abbrev pub nowhere : Level
nowhere = record { sign = record { limit = 0; visible = false }; head = 0; tail = 0; size = 0 }

abbrev pub at : List Resting → ℕ → Resting
at orders i = slice_index_or orders i nobody

abbrev pub level_at : List Level → ℕ → Level
level_at levels k = slice_index_or levels k nowhere

-- the orders of some levels, the first by priority first
abbrev pub book : List Resting → List ℕ → List Level → List Resting
book orders next live = map (at orders) (ids next live)

-- an order's limit and mark alone, and a level's
abbrev pub bare : Resting → Resting
bare o = like (sign_of o)

abbrev pub sign : Level → Resting
sign l = like l.sign

-- each level has a better limit than those before it in the array, or the same limit and is visible where they are hidden
abbrev pub Falls : Side → List Level → Type 0
Falls s live = InOrder (λ a b. not (ahead s a b)) (map sign live)

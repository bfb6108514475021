-- What a trial stands as, and what calls make of it.
use Rattle.std.specs.Prelude.{ℕ, ◌+◌, ◌%◌, ◌^◌}
use Rattle.booktrial.specs.Calls.{Lists, after, answered}
use Rattle.booktrial.specs.Counts.{tallied}
use Rattle.booktrial.specs.Drawn.{Drawn}
use Rattle.booktrial.specs.Plain.{after_plainly}
use Rattle.booktrial.specs.PlainLists.{plain_lists}
use Rattle.booktrial.specs.Weight.{book_weight}
use Rattle.booktrial.specs.declared.rivals.Rivals.{Ghosts}
use Rattle.booktrial.specs.declared.tally.Tally.{Tally}
use Rattle.booktrial.specs.declared.trial.Trial.{Trial}

-- the lists of the plain book and of the books, the state of the generator, and what was counted and weighed
pub record Standing : Type 0 where
  pub plain : Lists
  pub books : Lists
  pub state : ℕ
  pub tally : Tally
  pub weight : ℕ

abbrev pub standing : {R : Type 0} → Ghosts R → Trial R → Standing
standing rivals t = record { plain = plain_lists t.plain; books = rivals.lists t.books; state = t.draw.state; tally = t.tally; weight = t.weight }

-- after a drawn call, which all got and which was counted
abbrev pub called : Drawn → Standing → Standing
called d s = record {
  plain = after_plainly d.call s.plain;
  books = after d.call s.books;
  state = d.state;
  tally = tallied d.call (answered d.call s.books) s.tally;
  weight = s.weight;
}

-- after what was compared was weighed too
abbrev pub weighed : Standing → Standing
weighed s = record s { weight = (s.weight + book_weight s.plain) % 2 ^ 64 }

use Rattle.std.proofs.Common.{sym, ◌∙◌, rules}
use Rattle.std.proofs.lemmas.List.{drop_all}
use Rattle.book.specs.Listed.{listed}
use Rattle.book.specs.Reading.{left}
use Rattle.book.proofs.Looks.{drop_looked, makes_progress, past_looked, within_looked}
use Rattle.book.proofs.orders.OrdersIterator.next.Goals as goal

pub returns-in_err-order-clause-steps : goal.returns-in_err-order-clause-steps
returns-in_err-order-clause-steps g c =
    let s = c.args.self.now in
    let orders = listed g.B.ReadBook s.side s.book.now in
    let end = drop_all s.place orders (past_looked orders s.place (sym c.in_err-order.was ∙ c.peek.ensures)) in
    rw c.from_residual.ensures (end, end)

pub overflow_add-self : goal.overflow_add-self
overflow_add-self g c =
    let s = c.args.self.now in
    let within = within_looked (listed g.B.ReadBook s.side s.book.now) s.place _ (sym c.in_ok-order.was ∙ c.peek.ensures) in
    let countable = s.countable in
    search rules

pub returns-clause-steps : goal.returns-clause-steps
returns-clause-steps g c = let s = c.args.self.now in drop_looked (listed g.B.ReadBook s.side s.book.now) s.place _ (sym c.in_ok-order.was ∙ c.peek.ensures)

pub returns-clause-goes : goal.returns-clause-goes
returns-clause-goes g c = makes_progress (left g.B.ReadBook) _ _ _ (returns-clause-steps g c)

use Rattle.stock_machine.proofs.rows.Rows.copy.Goals as goal

pub invariant_of-result : goal.invariant_of-result
invariant_of-result g c = rw (c.in_ok-book.ensures, c.in_ok-spent.ensures) c.self.invariant

use Rattle.std.proofs.Common.{rules, ◌≡◌}
use Rattle.std.specs.List.{filter}
use Rattle.std.proofs.lemmas.Fn.{filter_same}
use Rattle.order_book.specs.Parts.{has_shares}
use Rattle.order_book.proofs.RisingLists.{live_swept, rising_swept}
use Rattle.order_book.proofs.rising.RisingOrders.sweep.Goals as goal
use Rattle.order_book.proofs.rising.RisingOrders.sweep.Goals.{After-retain}

swept : (g : _) (c : After-retain g) → c.retain.new.self.items ≡ filter has_shares c.self.inside.rows.items
swept g c = filter_same _ has_shares _ (λ x b f' k. search rules) c.self.inside.rows.items c.retain.new.self.items c.retain.ensures.filtered

pub invariant_of-self : goal.invariant_of-self
invariant_of-self g c =
    (c.self.invariant.0, rw (swept g (goal.at.invariant_of-self g c).After-retain) (rising_swept c.self.inside.rows.items c.self.invariant.1))

pub returns-then-self-len : goal.returns-then-self-len
returns-then-self-len g c =
    rw (swept g (goal.at.returns-then-self-len g c).After-retain, ← c.self.view_is) (live_swept c.self.inside.first c.self.inside.rows.items)

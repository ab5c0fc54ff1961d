use Rattle.std.proofs.Common.{rules, ◌≡◌, ◌==◌, ℕ, not, cond, false, ap, ◌∙◌}
use Rattle.std.specs.Ordering.{nat_cmp}
use Rattle.std.specs.BTreeMap.{is_at}
use Rattle.std.specs.List.{filter}
use Rattle.std.proofs.lemmas.Fn.{filter_same}
use Rattle.std.proofs.lemmas.List.Kept.{IsStrictlyIncreasing-filter}
use Rattle.stock_machine.specs.SpentParts.{risen}
use Rattle.stock_machine.proofs.SpentLists.{is_in, left_of, none_left}
use Rattle.stock_machine.proofs.spent.take_out.Goals as goal
use Rattle.stock_machine.proofs.spent.take_out.Goals.{After-retain}

kept : (g : _) (c : After-retain g) → c.retain.new.self.items ≡ filter (λ x. not (x == c.in-Some.distance)) c.args.distances.now.items
kept g c = filter_same _ (λ x. not (x == c.in-Some.distance)) _ (λ x b f' k. search rules) c.args.distances.now.items c.retain.new.self.items c.retain.ensures.filtered

pub returns-in_default-clause-gone : goal.returns-in_default-clause-gone
returns-in_default-clause-gone g c = none_left c.args.reference c.args.first c.args.distances.now.items (λ k d lt. c.in_default.ensures.none _ (c.type_inv.distances k d lt))

pub returns-clause-rising : goal.returns-clause-rising
returns-clause-rising g c =
    rw (kept g (goal.at.returns-clause-rising g c).After-retain) (IsStrictlyIncreasing-filter _ c.args.distances.now.items c.requires)

pub returns-clause-gone : goal.returns-clause-gone
returns-clause-gone g c q =
    let items = c.args.distances.now.items in
    rw (kept g (goal.at.returns-clause-gone g c).After-retain) (
    left_of c.args.first c.in-Some.distance items q
    ∙ ap (λ (n : ℕ). cond (is_at (nat_cmp n) q) false (is_in q (risen c.args.first items))) c.in-Some.ensures.some
    )

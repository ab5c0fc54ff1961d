use Rattle.std.proofs.Common.{List, ℕ, sym, ap, subst, ◌∙◌}
use Rattle.binaryfile.specs.Entries.{bytes_of, Splits}
use Rattle.binaryfile.proofs.Splitting.{contents_splits}
use Rattle.binaryfile.proofs.day.Day.bytes.Goals as goal

pub returns-clause-bytes : goal.returns-clause-bytes
returns-clause-bytes g c =
    let items = c.self.inside.bytes.items in
    c.as_slice.ensures.value ∙ (contents_splits items c.self.invariant.are).whole ∙ ap bytes_of c.self.view_is

pub returns-clause-split : goal.returns-clause-split
returns-clause-split g c =
    let items = c.self.inside.bytes.items in
    let split = subst (λ contents. Splits items contents) c.self.view_is (contents_splits items c.self.invariant.are) in
    subst (λ (x : List ℕ). Splits x c.args.self.now) (sym c.as_slice.ensures.value) split

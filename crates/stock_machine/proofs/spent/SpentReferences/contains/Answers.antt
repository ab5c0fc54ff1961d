use Rattle.std.proofs.Common.{◌≡◌, ◌||◌, Bool, true, false, ◌∙◌, sym, ap, refl}
use Rattle.stock_machine.proofs.SpentLists.{contains_parts, is_in}
use Rattle.stock_machine.proofs.spent.SpentReferences.contains.Goals as goal

first_true : (a b : Bool) → a ≡ true → a ≡ (a || b)
first_true true b is = refl
first_true false b is = cc

second : (a b : Bool) → a ≡ false → b ≡ (a || b)
second a b is = sym (ap (λ a. a || b) is)

pub returns-then-has_risen : goal.returns-then-has_risen
returns-then-has_risen g c =
    let i = c.self.inside in
    let risen = rw c.deref.ensures.value at c.has_risen.ensures in
    rw (← c.self.view_is) (
    first_true c.has_risen.result (is_in c.args.reference i.others.keys) c.if-has_risen.true
    ∙ ap (λ b. b || is_in c.args.reference i.others.keys) risen ∙ sym (contains_parts c.args.reference i.first i.distances.items i.others.keys)
    )

pub returns-else-has_risen : goal.returns-else-has_risen
returns-else-has_risen g c =
    let i = c.self.inside in
    let risen = rw c.deref.ensures.value at c.has_risen.ensures in
    rw (← c.self.view_is) (
    c.contains.ensures ∙ second c.has_risen.result (is_in c.args.reference i.others.keys) c.if-has_risen.false
    ∙ ap (λ b. b || is_in c.args.reference i.others.keys) risen ∙ sym (contains_parts c.args.reference i.first i.distances.items i.others.keys)
    )

use Rattle.std.proofs.Common.{rules, arith, refl, ap, ◌≡◌, ◌∙◌, ◌%◌}
use Rattle.top_cell.specs.Rule.{sight_of}
use Rattle.top_cell.proofs.ReaderSteps.{reader_begins, reader_ends}
use Rattle.top_cell.proofs.TriesAndChanges.{begun, is_screen, taken_at, won, lost, missed}
use Rattle.top_cell.proofs.trying.try_once.Goals as goal

pub load-began-requires : goal.load-began-requires
load-began-requires c = let s = c.requires.seat in (s.0, omega (arith, s.1), reader_begins _ _ _ _ _ c.requires.screen.0 c.requires.screen.1)

pub take_words-words-requires : goal.take_words-words-requires
take_words-words-requires c =
    let s = c.requires.seat in
    let e = c.load-began.ensures in
    let even : c.load-began.result % 2 ≡ 0 = omega (arith, c.if-began-eq1.false) in
    let begins = begun _ _ _ c.requires.screen.0 e.2.0 in
    let b = begins.3 even in
    record { seat = (e.0 ∙ s.0, s.1); begun = (is_screen _ _ _ b, ap (λ u. (sight_of u).taken) b) }

pub load-count-requires : goal.load-count-requires
load-count-requires c =
    let s = c.requires.seat in
    let e = c.load-began.ensures in
    let even : c.load-began.result % 2 ≡ 0 = omega (arith, c.if-began-eq1.false) in
    let begins = begun _ _ _ c.requires.screen.0 e.2.0 in
    let b = begins.3 even in
    let t = c.take_words-words.ensures in
    (t.same.0 ∙ (e.0 ∙ s.0), omega (arith, s.1), reader_ends _ _ _ _ _ c.take_words-words.result (taken_at _ _ _ (sight_of c.args.seat.now.me.0) _ _ b t.took) refl (search rules))

pub returns-then-began-eq1 : goal.returns-then-began-eq1
returns-then-began-eq1 c =
    let e = c.load-began.ensures in
    let begins = begun _ _ _ c.requires.screen.0 e.2.0 in
    let m = missed _ _ _ c.requires.screen.0 e.2.0 c.if-began-eq1.true begins.1 in
    record { same = (e.0, e.1); screen = (m.0.0, m.0.1, e.2.1); ok = tt; err = m.1; counts = m.2 }

pub returns-then-count-began : goal.returns-then-count-began
returns-then-count-began c =
    let e = c.load-began.ensures in
    let even : c.load-began.result % 2 ≡ 0 = omega (arith, c.if-began-eq1.false) in
    let begins = begun _ _ _ c.requires.screen.0 e.2.0 in
    let b = begins.3 even in
    let t = c.take_words-words.ensures in
    let n = c.load-count.ensures in
    let m = won _ _ _ _ _ c.take_words-words.result c.requires.screen.0 (taken_at _ _ _ (sight_of c.args.seat.now.me.0) _ _ b t.took) n.2.0 c.if-count-began.true even begins.1 begins.2 in
    record { same = (n.0 ∙ (t.same.0 ∙ e.0), n.1 ∙ (t.same.1 ∙ e.1)); screen = (m.0.0, m.0.1, n.2.1 ∙ (t.slots ∙ e.2.1)); ok = m.1; err = tt; counts = m.2 }

pub returns-else-count-began : goal.returns-else-count-began
returns-else-count-began c =
    let e = c.load-began.ensures in
    let even : c.load-began.result % 2 ≡ 0 = omega (arith, c.if-began-eq1.false) in
    let begins = begun _ _ _ c.requires.screen.0 e.2.0 in
    let b = begins.3 even in
    let t = c.take_words-words.ensures in
    let n = c.load-count.ensures in
    let m = lost _ _ _ _ _ c.take_words-words.result c.requires.screen.0 (taken_at _ _ _ (sight_of c.args.seat.now.me.0) _ _ b t.took) n.2.0 c.if-count-began.false begins.1 begins.2 in
    record { same = (n.0 ∙ (t.same.0 ∙ e.0), n.1 ∙ (t.same.1 ∙ e.1)); screen = (m.0.0, m.0.1, n.2.1 ∙ (t.slots ∙ e.2.1)); ok = tt; err = m.1; counts = m.2 }

use Rattle.std.proofs.Common.{◌≡◌, ◌+◌, ◌-◌, ◌≤◌, ◌∙◌, List, ℕ, length, take, sym, ap, arith, rules}
use Rattle.day_segments.proofs.Filled.{followed, kept, rest_long}
use Rattle.day_segments.proofs.reading.next_bytes.Goals as goal

pub returns-clause-bytes : goal.returns-clause-bytes
returns-clause-bytes g c =
    let filled = c.in_ok-came.ensures {u = tt} in
    let carried : List ℕ = c.args.carried.now in
    let at : ℕ = length carried in
    let old : List ℕ = c.extend_from_slice.new.self.items in
    let is_old : old ≡ carried = search (rules, c.in_ok-bytes.ensures, c.in_ok-extend_from_slice.ensures) in
    let longer : at ≤ at + c.args.room = omega arith in
    let grown : List ℕ = c.resize.new.self.items in
    let whole : List ℕ = c.deref_mut.result.now in
    let is : whole ≡ grown = c.deref_mut.ensures.value in
    let long : length grown ≡ at + c.args.room = search (rules, c.in_ok-resize.ensures.len) in
    let all : length whole ≡ at + c.args.room = ap length is ∙ long in
    let place : length whole - at ≡ c.args.room = omega (arith, all) in
    followed _ _ carried whole c.fill.new.buffer c.truncate.new.self.items _ at c.args.room _ _ _ c.in_ok-came.came filled.filled filled.long
    (sym filled.long ∙ rest_long at whole c.fill.new.buffer filled.long ∙ place) place (sym c.deref_mut.ensures.len) all
    (ap (take at) is ∙ kept at (at + c.args.room) old grown _ (ap length is_old) longer c.in_ok-resize.ensures.items ∙ is_old) c.truncate.ensures.items

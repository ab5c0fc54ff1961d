use Rattle.std.proofs.Common.{sym, subst, arith, option_map, List, ℕ}
use Rattle.itch_text.specs.Text.{lines_of}
use Rattle.itch_text.proofs.LinesTaken.{Taken}
use Rattle.itch_text.specs.declared.place.Place.TheVariants.{Entries}
use Rattle.itch_text.proofs.LinesTaken.{none_taken, one_more_taken, fault_denotes_nothing, lines_left, split_lines, left_shorter}
use Rattle.itch_text.proofs.assembler.assemble.Goals as goal

pub lines-init : goal.lines-init
lines-init g c = record {
  taken = subst (λ (bytes : List ℕ). Taken c.args.text.now bytes Entries 0 (lines_of c.args.text.now)) (sym c.new-bytes.ensures.items) (none_taken c.args.text.now);
  counted = omega arith;
}

pub lines-preserved : goal.lines-preserved
lines-preserved g c =
    let left = lines_left (option_map (λ r. r.now) c.split_line.result.1) in
    let cut = split_lines (λ r. r.now) c.in-Some.lines.now c.split_line.result.0.now c.split_line.result.1 c.split_line.ensures in
    let taken = rw (c.in-Some.is, cut) at c.lines.invariant.taken in
    let counted = rw c.in-Some.is at c.lines.invariant.counted in
    record {
      taken = one_more_taken c.args.text.now c.lines.bytes.items c.put_line.new.out.items c.lines.place c.in-Ok.next c.lines.number c.split_line.result.0.now left taken c.in-Ok.ensures;
      counted = omega (arith, counted, left_shorter (λ r. r.now) c.in-Some.lines.now c.split_line.result.0.now c.split_line.result.1 c.split_line.ensures);
    }

pub returns-in-Err-clause-nothing_denoted : goal.returns-in-Err-clause-nothing_denoted
returns-in-Err-clause-nothing_denoted g c =
    let left = lines_left (option_map (λ r. r.now) c.split_line.result.1) in
    let cut = split_lines (λ r. r.now) c.in-Some.lines.now c.split_line.result.0.now c.split_line.result.1 c.split_line.ensures in
    let taken = rw (c.in-Some.is, cut) at c.lines.invariant.taken in
    rw c.fault_at.ensures (fault_denotes_nothing c.args.text.now c.lines.bytes.items c.put_line.new.out.items c.lines.place c.lines.number c.split_line.result.0.now left c.in-Err.error taken c.in-Err.ensures)

use Rattle.std.proofs.Common.{◌+◌, ◌≤◌, length, option_map}
use Rattle.itch_text.proofs.LinesTaken.{Taken}
use Rattle.itch_text.proofs.LinesTaken.{lines_left, left_len}
use Rattle.itch_text.proofs.assembler.assemble.Given as goal

abbrev pub invariant-lines : goal.invariant-lines
invariant-lines g l = record {
  taken : Taken l.text l.bytes.items l.place l.number (lines_left (option_map (λ r. r.now) l.rest));
  counted : l.number + left_len (option_map (λ r. r.now) l.rest) ≤ length l.text + 1;
}

abbrev pub decreases-lines : goal.decreases-lines
decreases-lines g l = left_len (option_map (λ r. r.now) l.rest)

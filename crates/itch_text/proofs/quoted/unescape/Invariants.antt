use Rattle.std.proofs.Common.{◌≡◌, ◌-◌, ◌≤◌, drop, take, length, replicate}
use Rattle.itch_text.specs.Values.{unescaped}
use Rattle.itch_text.specs.Fields.{extended}
use Rattle.itch_text.proofs.quoted.unescape.Given as goal

abbrev pub invariant-bytes : goal.invariant-bytes
invariant-bytes l = record {
  read : unescaped l.inner ≡ extended (take l.length l.bytes) (unescaped l.rest);
  within : l.length ≤ l.width;
  long : length l.bytes ≡ 8;
  left : drop l.length l.bytes ≡ replicate (8 - l.length) 32;
}

abbrev pub decreases-bytes : goal.decreases-bytes
decreases-bytes l = length l.rest

use Rattle.std.proofs.Common.{◌≡◌, ◌-◌, drop, length, replicate, take}
use Rattle.itch_readings.proofs.naming.symbol_of.Given as goal

abbrev pub invariant-loop-index : goal.invariant-loop-index
invariant-loop-index l = record {
  long : length l.symbol ≡ 8;
  taken : take l.index l.symbol ≡ take l.index l.text;
  left : drop l.index l.symbol ≡ replicate (8 - l.index) 32;
}

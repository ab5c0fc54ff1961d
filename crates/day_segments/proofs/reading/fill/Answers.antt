use Rattle.std.proofs.Common.{◌-◌, ◌∙◌, length, sym, subst, arith, rules}
use Rattle.std.proofs.KnownBytes.{Consumes-trans}
use Rattle.std.specs.Io.KnownBytes.{Consumes}
use Rattle.day_segments.proofs.Filled.{filled_long, filled_more, rest_long}
use Rattle.day_segments.proofs.reading.fill.Goals as goal

pub loop-at-preserved : goal.loop-at-preserved
loop-at-preserved g c =
    let left = g.R.Read.remaining in
    let before = c.loop-at.invariant in
    let read = c.in_ok-count.ensures in
    let rest = rest_long c.loop-at.at c.loop-at.buffer c.read.new.buffer c.read.auto.buffer in
    let long = filled_long c.loop-at.at (length c.loop-at.buffer - c.loop-at.at) c.loop-at.buffer c.read.new.buffer (omega (arith, before.within)) rest in
    record {
      gave = subst (Consumes (left c.args.feed.now.device) (left c.read.new.self.device)) (sym (filled_more _ _ _ _ _ before.within read.within.0))
          (Consumes-trans _ _ _ _ _ before.gave read.bytes.0);
      within = omega (arith, long, rest, read.within.0, before.within);
      long = long ∙ before.long;
      working = search rules;
    }

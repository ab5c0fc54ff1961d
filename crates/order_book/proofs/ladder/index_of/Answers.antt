use Rattle.std.proofs.Common.{arith}
use Rattle.itch_table.specs.Levels.{no_level}
use Rattle.order_book.proofs.NearLevels.{better_by_rank, better_from, gap_after, worse_by_rank}
use Rattle.order_book.proofs.ladder.index_of.Goals as goal

pub returns-then-rank-clause-missing : goal.returns-then-rank-clause-missing
returns-then-rank-clause-missing c =
    gap_after c.args.side c.args.levels.now c.args.price c.loop.end no_level c.requires (omega arith) c.loop.invariant.0
    c.loop.invariant.1 (worse_by_rank c.args.side c.args.price _ (omega (arith, c.if-rank.true, c.rank.ensures, c.rank-in-loop.ensures)))

pub loop-preserved : goal.loop-preserved
loop-preserved c =
    let greater =
    better_by_rank c.args.side c.args.price _ c.ranges.price.fits c.if-end-eq0.element_fits.fits c.if-other-price.false
    (omega (arith, c.if-rank.false, c.rank.ensures, c.rank-in-loop.ensures)) in (
      omega (arith, c.loop.invariant.0),
      better_from c.args.side c.args.levels.now c.args.price c.loop.end no_level (omega arith) c.loop.invariant.0 c.loop.invariant.1 greater,
    )

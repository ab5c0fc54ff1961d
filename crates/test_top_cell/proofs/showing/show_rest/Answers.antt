use Rattle.test_top_cell.proofs.showing.show_rest.Goals as goal

pub show_next-requires : goal.show_next-requires
show_next-requires g c = c.loop.invariant.in_step

use Rattle.itch_show.specs.Engine.{file_limits, shown_at}
use Rattle.itch_show.proofs.TwiceRuns.{runs}
use Rattle.itch_show.proofs.engine.show_run.Goals as goal

pub returns : goal.returns
returns g c =
    let made = c.show_of_file-made.ensures in
    let sent = c.send_made.ensures in
    runs (shown_at c.args.name c.args.place file_limits) g.R.Read.remaining g.S.Read.remaining g.W.Write.contents _ _ _ _ _ _ c.show_of_file-made.result _
    made.answer made.needed made.read made.not_write made.failed made.failed_again made.for_good made.again_for_good made.taken made.taken_again sent.sends sent.for_good

use Rattle.itch_show.specs.Engine.{file_limits}
use Rattle.itch_show.proofs.TwiceRuns.{runs}
use Rattle.itch_why.specs.Why.{why}
use Rattle.itch_why.proofs.engine.why_run.Goals as goal

pub returns : goal.returns
returns g c =
    let made = c.why_of_file-made.ensures in
    let sent = c.send_made.ensures in
    runs (why c.args.number file_limits) g.R.Read.remaining g.S.Read.remaining g.W.Write.contents _ _ _ _ _ _ c.why_of_file-made.result _
    made.answer made.needed made.read made.not_write made.failed made.failed_again made.for_good made.again_for_good made.taken made.taken_again sent.sends sent.for_good

use Rattle.std.proofs.Common.{List, ap, subst, ◌∙◌}
use Rattle.std.specs.Prelude.{Contains}
use Rattle.std.proofs.lemmas.Result.{IfOk-weaker}
use Rattle.debugger.specs.declared.breakpoint.Break.{Break}
use Rattle.debugger.specs.Sessions.{Session, with_break}
use Rattle.debugger.proofs.debugging.Debugger.add_break.Goals as goal

pub returns-clause-new : goal.returns-clause-new
returns-clause-new g c =
    let inside = c.self.inside in
    let day = inside.day.now.payloads in
    let b = c.args.breakpoint in
    let breaks = ap (λ (s : Session). s.breaks) c.self.view_is in
    IfOk-weaker c.add.result _ _ (λ index added absent.
    let new = added (λ there. absent (subst (λ (ks : List Break). Contains ks b) breaks there)) in
    ap (λ (bs : List Break). let s : Session = record { day = day; every = inside.tracks.every; position = inside.position; breaks = bs } in s) new
    ∙ ap (λ (s : Session). with_break s b) c.self.view_is) c.add.ensures.new

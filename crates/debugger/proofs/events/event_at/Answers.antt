use Rattle.std.proofs.Common.{length, ap, ◌∙◌, arith}
use Rattle.std.specs.Prelude.{None, Some}
use Rattle.itch_layouts.specs.Shapes.{shape_of}
use Rattle.itch_table.specs.Projection.{event_with}
use Rattle.day_core.proofs.MachineSteps.{payload_is}
use Rattle.debugger.specs.Sessions.{systems_of}
use Rattle.debugger.proofs.Shown.{event_latest, is_event}
use Rattle.debugger.proofs.events.event_at.Goals as goal

pub returns-in_err-latest_until : goal.returns-in_err-latest_until
unfolding systems_of
returns-in_err-latest_until g c =
    let day = c.args.day.now.payloads in
    let found = c.in_err-latest_until.ensures (is_event day) (length day) c.requires.systems c.requires.within in
    c.from_residual.ensures ∙ event_latest day c.args.n None found

pub payload-requires-clause-first : goal.payload-requires-clause-first
unfolding systems_of
payload-requires-clause-first g c =
    let day = c.args.day.now.payloads in
    (c.in_ok-latest_until.ensures (is_event day) (length day) c.requires.systems c.requires.within).0

pub payload-requires-clause-last : goal.payload-requires-clause-last
unfolding systems_of
payload-requires-clause-last g c =
    let day = c.args.day.now.payloads in
    let found = c.in_ok-latest_until.ensures (is_event day) (length day) c.requires.systems c.requires.within in
    omega (arith, found.1, c.requires.within)

pub returns : goal.returns
unfolding systems_of
returns g c =
    let day = c.args.day.now.payloads in
    let last = c.in_ok-latest_until.field-0 in
    let found = c.in_ok-latest_until.ensures (is_event day) (length day) c.requires.systems c.requires.within in
    let here = payload_is day last _ found.0 (omega (arith, found.1, c.requires.within)) c.payload.ensures in
    c.event_after.ensures ∙ ap (λ payload. event_with (shape_of payload) None) here ∙ event_latest day c.args.n (Some last) found

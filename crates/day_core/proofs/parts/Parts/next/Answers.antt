use Rattle.std.proofs.Common.{◌<◌, length, ap, sym, ◌∙◌, arith}
use Rattle.itch_table.specs.Parts.{part}
use Rattle.day_core.proofs.MachineSteps.{code_read, in_day, message_read, more_read, own_read, payload_read}
use Rattle.day_core.proofs.parts.Parts.next.Goals as goal

pub returns-then-done-own : goal.returns-then-done-own
returns-then-done-own g c = omega (arith, c.if-done-own.true, ap length (own_read c.args.worker c.requires c.own-own.result.now c.own-own.ensures))

pub payload-requires : goal.payload-requires
payload-requires g c =
    let below : c.args.done < length c.own-own.result.now = omega (arith, c.if-done-own.false) in
    let within = in_day c.args.worker c.requires c.own-own.result.now c.own-own.ensures c.args.done below in
    record { first = within.0; last = within.1 }

pub locate_in-locate-requires : goal.locate_in-locate-requires
locate_in-locate-requires g c =
    let below : c.args.done < length c.own-own.result.now = omega (arith, c.if-done-own.false) in
    code_read c.args.worker c.requires c.own-own.result.now c.own-own.ensures c.args.done below c.payload.result.now c.payload.ensures

pub returns : goal.returns
returns g c =
    let below : c.args.done < length c.own-own.result.now = omega (arith, c.if-done-own.false) in
    let own = c.own-own.ensures in
    record {
      more = more_read c.args.worker c.requires c.own-own.result.now own c.args.done below;
      message_is = message_read c.args.worker c.requires c.own-own.result.now own c.args.done below;
      stock_is = sym (ap part (payload_read c.args.worker c.requires c.own-own.result.now own c.args.done below c.payload.result.now c.payload.ensures)) ∙ c.locate_in-locate.ensures;
      fits = c.locate_in-locate.type_inv;
    }

use Rattle.std.proofs.Common.{◌<◌, ◌++◌, ◌∷◌, [], ℕ, get_or, length, take, rules}
use Rattle.std.specs.Prelude.{IfErr}
use Rattle.itch_debug.specs.Runs.{Halts}
use Rattle.itch_debug.proofs.Consoles.{err_piece}
use Rattle.itch_debug.proofs.console.Console.take_piece.Goals as goal

pub returns-in_err-take_byte-clause-err : goal.returns-in_err-take_byte-clause-err
returns-in_err-take_byte-clause-err g c = λ day before commands h.
    let i : ℕ = c.loop-byte.byte-index in
    let piece = c.args.piece.now in
    let after = g.W.Write.contents c.take_byte.new.sink.device in
    let stood = c.loop-byte.invariant.stands day before commands h in
    let halted = c.take_byte.ensures.err day before (commands ++ take i piece) stood in
    let part : IfErr c.from_residual.result (Halts day before after ((commands ++ take i piece) ++ get_or piece i 0 ∷ [])) = search rules in
    let within : i < length piece = search rules in
    err_piece c.from_residual.result day before after commands piece i within part

use Rattle.std.proofs.Common.{sym, ◌∙◌}
use Rattle.std.proofs.lemmas.Result.{err_from_is_err_and}
use Rattle.itch_text.specs.Words.{words}
use Rattle.itch_text.specs.Names.{as_name}
use Rattle.itch_text.proofs.LinesTaken.{line_taken, line_refused}
use Rattle.itch_text.proofs.line.put_line.Goals as goal

pub returns-in_err-put_item : goal.returns-in_err-put_item
returns-in_err-put_item g c =
    let p = err_from_is_err_and c.from_residual.result c.from_residual.ensures.1 in
    rw (p.1, p.2) (line_refused c.args.out.now.items c.put_item.new.out.items c.args.place c.in-Some-after.next c.args.line.now c.in-Some.word.now (words c.in-Some.rest.now) (as_name c.in-Some-name_of.name) c.in_err-put_item.field-0.0 c.in-Some.ensures (sym c.is_comment.ensures ∙ c.if-is_comment.false) c.in-Some-name_of.ensures (sym c.in-Some-after.ensures) c.in_err-put_item.ensures)

pub returns : goal.returns
returns g c =
    line_taken c.args.out.now.items c.put_item.new.out.items c.args.place c.in-Some-after.next c.args.line.now c.in-Some.word.now (words c.in-Some.rest.now) (as_name c.in-Some-name_of.name) c.in-Some.ensures c.in-Some-name_of.ensures (sym c.in-Some-after.ensures) c.in_ok-put_item.ensures

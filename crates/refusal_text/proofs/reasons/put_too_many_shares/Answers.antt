use Rattle.std.proofs.Common.{◌++◌, ◌∙◌, ap, codes, decimal}
use Rattle.refusal_text.specs.Reasons.{deed_of, reference_in, shares_in}
use Rattle.refusal_text.proofs.Appends.{all_three}
use Rattle.refusal_text.proofs.reasons.put_too_many_shares.Goals as goal

pub returns : goal.returns
returns g c =
    let m = c.args.message.now in
    let old = c.args.text.now.items in
    all_three old (decimal (shares_in m)) (deed_of m) (decimal (reference_in m)) (codes ", which has ") (decimal c.args.before.shares)
    c.put_number.new.text.items c.put_between.new.text.items _
    ((c.in_ok-put_number.ensures {u = tt}).ok ∙ ap (λ n. old ++ decimal n) c.shares_in.ensures)
    (c.in_ok-put_between.ensures {u = tt} ∙ (λ i. c.put_number.new.text.items ++ (c.deed_of.ensures i ++ decimal (c.reference_in.ensures i) ++ codes ", which has ")))
    ((c.in_ok-put_number-2.ensures {u = tt}).ok)

use Rattle.std.proofs.Common.{◌≡◌, ◌++◌, ◌∙◌, ◌∷◌, [], ap, codes, decimal, length}
use Rattle.std.specs.Option.{unwrap_or}
use Rattle.itch_layouts.specs.Layouts.{size_of}
use Rattle.refusal_text.specs.Reasons.{kind_in}
use Rattle.refusal_text.proofs.Appends.{byte_and_three}
use Rattle.refusal_text.proofs.reasons.put_wrong_length.Goals as goal

pub returns : goal.returns
returns g c =
    let old = c.args.text.now.items in
    let kind = kind_in c.args.payload.now in
    let from = c.from-size.ensures in
    let or = c.unwrap_or.ensures in
    let of = c.size_of_kind.ensures in
    let is = c.kind_in-kind.ensures in
    let size : c.from-size.result ≡ unwrap_or (size_of kind) 0 = cc in
    byte_and_three old (codes "a message of type ") (codes " has ") (decimal (unwrap_or (size_of kind) 0)) (codes " bytes, and this one ")
    (decimal (length c.args.payload.now)) c.extend_from_slice.new.self.items c.push.new.self.items c.put_between.new.text.items _ kind
    ((c.in_ok-extend_from_slice.ensures {u = tt}).items)
    ((c.in_ok-push.ensures {u = tt}).items ∙ ap (λ k. c.extend_from_slice.new.self.items ++ (k ∷ [])) c.kind_in-kind.ensures)
    (c.in_ok-put_between.ensures {u = tt} ∙ ap (λ n. c.push.new.self.items ++ (codes " has " ++ decimal n ++ codes " bytes, and this one ")) size)
    ((c.in_ok-put_number.ensures {u = tt}).ok)

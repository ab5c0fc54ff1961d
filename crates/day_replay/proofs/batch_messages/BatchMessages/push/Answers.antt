use Rattle.std.proofs.Common.{◌≡◌, ◌∷◌, [], ◌++◌, List, ℕ, ap, ◌∙◌, arith}
use Rattle.std.specs.List.{zip}
use Rattle.std.proofs.lemmas.Grind.{common_steps}
use Rattle.binaryfile.specs.Index.{payloads_of}
use Rattle.day_replay.proofs.WholeEntries.{entries_more, longer, view_more}
use Rattle.day_replay.proofs.batch_messages.BatchMessages.push.Goals as goal

pub invariant_of-self-2 : goal.invariant_of-self-2
invariant_of-self-2 g c =
    let numbers : c.push.new.self.items ≡ c.self.inside.numbers.items ++ c.args.number ∷ [] = grind (arith, common_steps) in
    let bytes : c.extend_from_slice-2.new.self.items ≡ longer c.self.inside.bytes.items c.args.payload.now = grind (arith, common_steps) in
    rw (numbers, bytes) (entries_more c.self.inside.numbers.items c.self.inside.bytes.items c.args.payload.now c.args.number c.requires c.self.invariant)

pub returns : goal.returns
returns g c =
    let numbers : c.push.new.self.items ≡ c.self.inside.numbers.items ++ c.args.number ∷ [] = grind (arith, common_steps) in
    let bytes : c.extend_from_slice-2.new.self.items ≡ longer c.self.inside.bytes.items c.args.payload.now = grind (arith, common_steps) in
    record {
      ok =
          ap (λ (ns : List ℕ). zip ns (payloads_of c.extend_from_slice-2.new.self.items)) numbers
          ∙ ap (λ (bs : List ℕ). zip (c.self.inside.numbers.items ++ c.args.number ∷ []) (payloads_of bs)) bytes
          ∙ view_more c.self.inside.numbers.items c.self.inside.bytes.items c.args.payload.now c.args.number c.requires c.self.invariant
          ∙ ap (λ (ms : List (ℕ × List ℕ)). ms ++ (c.args.number, c.args.payload.now) ∷ []) c.self.view_is;
    }

use Rattle.std.proofs.Common.{◌≡◌, ℕ, ◌+◌, ◌-◌, List, ◌++◌, length, take, drop, ap, sym, subst, ◌∙◌, arith, Bool, true, false, refl}
use Rattle.std.proofs.KnownBytes.{Appends-trans}
use Rattle.std.proofs.lemmas.List.{take_rest}
use Rattle.std.proofs.Math.Seq.{take-add}
use Rattle.std.specs.Io.KnownBytes.{Appends}
use Rattle.binaryfile.specs.Devices.{HasFailed}
use Rattle.binaryfile.proofs.sink.send.Goals as goal

-- two pieces one after the other
sent_more : (bytes : List ℕ) (a b : ℕ) → take a bytes ++ take b (take (length bytes - a) (drop a bytes)) ≡ take (a + b) bytes
sent_more bytes a b = ap (λ (x : List ℕ). take a bytes ++ take b x) (take_rest bytes a) ∙ sym (take-add a b bytes)

working : (b : Bool) → ¬ (b ≡ true) → b ≡ false
working true not = absurd (not refl)
working false not = refl

pub loop-written-preserved : goal.loop-written-preserved
loop-written-preserved g c =
    let i = c.loop-written.invariant in
    let w = c.in-Ok.ensures {u = tt} in
    let before = g.W.Write.contents c.args.sink.now.device in
    let now = g.W.Write.contents c.loop-written.sink.device in
    let after = g.W.Write.contents c.write.new.self.device in
    let start = c.loop-written.written in
    let bytes = c.args.bytes.now in
    let works : c.write.new.self.failed ≡ false = working _ (λ failed. let no : false ≡ true = w.failed.1 failed in cc) in
    let worked : c.loop-written.sink.failed ≡ false =
    working _ (λ failed. let no : false ≡ true = w.failed.1 (subst HasFailed (sym (w.for_good failed)) failed) in cc) in
    let began : c.args.sink.now.failed ≡ false = sym i.kept ∙ worked in
    record {
      sent =
          subst (Appends before after) (sent_more bytes start c.in-Ok.count)
          (Appends-trans before now after (take start bytes) (take c.in-Ok.count (take (length bytes - start) (drop start bytes))) i.sent w.bytes);
      within = omega (arith, w.within, i.within);
      kept = works ∙ sym began;
      nothing = λ broken. absurd (cc);
      for_good = λ broken. absurd (cc);
    }

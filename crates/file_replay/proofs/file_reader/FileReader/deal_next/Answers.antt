use Rattle.std.proofs.Common.{◌≡◌, ◌<◌, ◌^◌, ◌∙◌, false, true, Bool, Err, Ok, length, sym, subst, ap, arith, rules}
use Rattle.std.proofs.lemmas.Result.{err_from_is_err_and}
use Rattle.binaryfile.specs.declared.load.LoadFault.{LoadFault}
use Rattle.file_replay.specs.Files.{FileReading, ReadsOn}
use Rattle.file_replay.proofs.Dealt.{reads_then}
use Rattle.file_replay.proofs.Further.{none_further}
use Rattle.file_replay.proofs.file_reader.FileReader.deal_next.Goals as goal

pub deal_segment-requires : goal.deal_segment-requires
deal_segment-requires g c =
    let r = c.requires in
    let few : length r.1.payloads < 2 ^ 32 = omega (arith, r.2.few, ap (λ (f : FileReading). f.limit) c.self.view_is, c.self.invariant.1) in (
      r.0,
      r.1,
      none_further r.0 (g.R.Read.remaining c.args.feed.now.device) r.1 c.args.self.now c.clear.new.self r.2 (c.clear.ensures (length r.1.payloads) few),
      c.messages-before.ensures ∙ ap (λ (f : FileReading). f.reading.messages) c.self.view_is ∙ r.2.read.messages_are,
    )

pub returns-then-not-branch : goal.returns-then-not-branch
returns-then-not-branch g c =
    let found = c.in_ok-deal_segment.ensures {u = tt} in
    let is : c.in_ok-deal_segment.field-0 ≡ false = search (rules, c.if-not-branch.true) in
    record {
      next = λ start before at. found.whole is start before at;
      reads = subst (λ (more : Bool). ReadsOn g.R.Read.remaining c.args.feed.now c.deal_segment.new.feed c.args.self.now c.deal_segment.new.self (Ok more)) is found.reads;
    }

pub loop-segment-init : goal.loop-segment-init
loop-segment-init g c =
    let found = c.in_ok-deal_segment.ensures {u = tt} in
    let is : c.in_ok-deal_segment.field-0 ≡ true = search (rules, c.if-not-branch.false) in
    record {
      so_far = λ start before at.
          let few : length before.payloads < 2 ^ 32 = omega (arith, at.few, ap (λ (f : FileReading). f.limit) c.self.view_is, c.self.invariant.1) in
          found.deals start before
          (none_further start (g.R.Read.remaining c.args.feed.now.device) before c.args.self.now c.clear.new.self at (c.clear.ensures (length before.payloads) few))
          (c.messages-before.ensures ∙ ap (λ (f : FileReading). f.reading.messages) c.self.view_is ∙ at.read.messages_are);
      reads = subst (λ (more : Bool). ReadsOn g.R.Read.remaining c.args.feed.now c.deal_segment.new.feed c.args.self.now c.deal_segment.new.self (Ok more)) is found.reads;
    }

pub returns-in_err-deal_segment-2 : goal.returns-in_err-deal_segment-2
returns-in_err-deal_segment-2 g c =
    let left = g.R.Read.remaining in
    let inv = c.loop-segment.invariant in
    let new = c.deal_segment-in-loop-segment.new in
    let same = err_from_is_err_and c.from_residual-in_err-deal_segment-2.result c.from_residual-in_err-deal_segment-2.ensures.1 in
    let found = c.in_err-deal_segment-2.ensures {u = tt} in
    rw same.1 (record {
      next = tt;
      reads = reads_then left c.args.feed.now c.loop-segment.feed new.feed c.args.self.now c.loop-segment.self new.self c.loop-segment.dealt inv.reads inv.so_far (Err same.0) (subst (λ (fault : LoadFault). ReadsOn left c.loop-segment.feed new.feed c.loop-segment.self new.self (Err fault)) (sym same.2) found.reads);
    })

pub returns-then-not-branch-2 : goal.returns-then-not-branch-2
returns-then-not-branch-2 g c =
    let left = g.R.Read.remaining in
    let inv = c.loop-segment.invariant in
    let new = c.deal_segment-in-loop-segment.new in
    let found = c.in_ok-deal_segment-2.ensures {u = tt} in
    record {
      next = λ start before at.
          found.deals start before (inv.so_far start before at) (c.messages-before.ensures ∙ ap (λ (f : FileReading). f.reading.messages) c.self.view_is ∙ at.read.messages_are);
      reads = reads_then left c.args.feed.now c.loop-segment.feed new.feed c.args.self.now c.loop-segment.self new.self c.loop-segment.dealt inv.reads inv.so_far (Ok c.in_ok-deal_segment-2.field-0) found.reads;
    }

pub loop-segment-preserved : goal.loop-segment-preserved
loop-segment-preserved g c =
    let left = g.R.Read.remaining in
    let inv = c.loop-segment.invariant in
    let new = c.deal_segment-in-loop-segment.new in
    let found = c.in_ok-deal_segment-2.ensures {u = tt} in
    record {
      so_far = λ start before at.
          found.deals start before (inv.so_far start before at) (c.messages-before.ensures ∙ ap (λ (f : FileReading). f.reading.messages) c.self.view_is ∙ at.read.messages_are);
      reads = reads_then left c.args.feed.now c.loop-segment.feed new.feed c.args.self.now c.loop-segment.self new.self c.loop-segment.dealt inv.reads inv.so_far (Ok c.in_ok-deal_segment-2.field-0) found.reads;
    }

use Rattle.std.proofs.Common.{◌∙◌, List, ℕ, refl, sym, subst, arith}
use Rattle.std.proofs.lemmas.Result.{err_from_is_err_and}
use Rattle.binaryfile.specs.Devices.{HasFailed}
use Rattle.binaryfile.specs.declared.load.LoadFault.TheVariants.{Memory}
use Rattle.day_replay.specs.Dealing.{Dealt}
use Rattle.day_replay.specs.Replays.{HasReplayed}
use Rattle.day_segments.specs.Reading.{IsWholeFile, Stops, nothing_read}
use Rattle.day_segments.proofs.SegmentCases.{took_within}
use Rattle.file_replay.specs.Files.{Next}
use Rattle.file_replay.proofs.Faults.{failed_as, failed_by}
use Rattle.file_replay.proofs.Replayed.{further_of, whole_of}
use Rattle.file_replay.proofs.Dealt.{dealt_next, gone, less_left, stopped, works}
use Rattle.file_replay.proofs.replaying.replay_whole.Goals as goal

pub deal_next-requires : goal.deal_next-requires
deal_next-requires g c = (g.R.Read.remaining c.args.feed.now.device, nothing_read, c.requires.file)

pub returns-in_err-more-clause-fault : goal.returns-in_err-more-clause-fault
returns-in_err-more-clause-fault g c =
    let left = g.R.Read.remaining in
    let start = left c.args.feed.now.device in
    let new = c.deal_next.new in
    let old = c.args.file.now in
    let same = err_from_is_err_and c.from_residual-in_err-more.result c.from_residual-in_err-more.ensures.1 in
    let stops = stopped left c.args.feed.now new.feed old new.self c.deal_next.result c.deal_next.ensures.reads c.in_err-more.field-0.0 c.in_err-more.was start nothing_read c.requires.file in
    rw same.1 (subst (Stops start (left new.feed.device) old.reading.most old.limit) (sym same.2) stops)

pub returns-in_err-more-clause-failed : goal.returns-in_err-more-clause-failed
returns-in_err-more-clause-failed g c =
    let same = err_from_is_err_and c.from_residual-in_err-more.result c.from_residual-in_err-more.ensures.1 in
    failed_as (HasFailed c.deal_next.new.feed) _ _ c.in_err-more.field-0.0 same.1 same.2 (failed_by (HasFailed c.deal_next.new.feed) _ _ _ c.in_err-more.was refl c.deal_next.ensures.reads.failed)

pub returns-in_err-more-clause-taken : goal.returns-in_err-more-clause-taken
returns-in_err-more-clause-taken g c =
    c.deal_next.ensures.reads.taken (g.R.Read.remaining c.args.feed.now.device) nothing_read c.requires.file

pub loop-more-init : goal.loop-more-init
loop-more-init g c =
    let left = g.R.Read.remaining in
    let start = left c.args.feed.now.device in
    let new = c.deal_next.new in
    let old = c.args.file.now in
    record {
      so_far = record {
        before = nothing_read;
        replayed = c.requires.replay;
        next = dealt_next left c.args.feed.now new.feed old new.self new.dealt c.deal_next.result c.in_ok-more.more c.in_ok-more.was c.deal_next.ensures start nothing_read c.requires.file;
      };
      most = c.deal_next.ensures.reads.most;
      limit = c.deal_next.ensures.reads.limit;
      works = works left c.args.feed.now new.feed old new.self c.deal_next.result c.deal_next.ensures.reads c.in_ok-more.more c.in_ok-more.was;
    }

pub returns-in_err-more-2-clause-fault : goal.returns-in_err-more-2-clause-fault
returns-in_err-more-2-clause-fault g c =
    let left = g.R.Read.remaining in
    let start = left c.args.feed.now.device in
    let now = left c.go_on-worked.new.feed.device in
    let old = c.args.file.now in
    let fault = c.in_err-more-2.field-0.0 in
    let inv = c.loop-more.invariant in
    let more = further_of start (left c.loop-more.feed.device) inv.so_far.before c.loop-more.file c.loop-more.dealt c.loop-more.more c.loop-more-test.true inv.so_far.next in
    let same = err_from_is_err_and c.from_residual-in_err-more-2.result c.from_residual-in_err-more-2.ensures.1 in
    let stops = stopped left c.loop-more.feed c.go_on-worked.new.feed c.loop-more.file c.go_on-worked.new.file c.go_on-worked.result.1 c.go_on-worked.ensures.deals.reads fault c.in_err-more-2.was start more.contents more.so_far in
    let limited = subst (λ (limit : ℕ). Stops start now c.loop-more.file.reading.most limit fault) inv.limit stops in
    rw same.1 (subst (Stops start now old.reading.most old.limit) (sym same.2) (subst (λ (most : ℕ). Stops start now most old.limit fault) inv.most limited))

pub returns-in_err-more-2-clause-failed : goal.returns-in_err-more-2-clause-failed
returns-in_err-more-2-clause-failed g c =
    let same = err_from_is_err_and c.from_residual-in_err-more-2.result c.from_residual-in_err-more-2.ensures.1 in
    failed_as (HasFailed c.go_on-worked.new.feed) _ _ c.in_err-more-2.field-0.0 same.1 same.2 (failed_by (HasFailed c.go_on-worked.new.feed) _ _ _ c.in_err-more-2.was refl c.go_on-worked.ensures.deals.reads.failed)

pub returns-in_err-more-2-clause-taken : goal.returns-in_err-more-2-clause-taken
returns-in_err-more-2-clause-taken g c =
    let left = g.R.Read.remaining in
    let start = left c.args.feed.now.device in
    let inv = c.loop-more.invariant in
    let more = further_of start (left c.loop-more.feed.device) inv.so_far.before c.loop-more.file c.loop-more.dealt c.loop-more.more c.loop-more-test.true inv.so_far.next in
    took_within start (left c.go_on-worked.new.feed.device) c.loop-more.file.reading.most c.args.file.now.reading.most inv.most (c.go_on-worked.ensures.deals.reads.taken start more.contents more.so_far)

pub returns-in_err-worked-clause-fault : goal.returns-in_err-worked-clause-fault
returns-in_err-worked-clause-fault g c =
    let same = err_from_is_err_and c.from_residual-in_err-worked.result c.from_residual-in_err-worked.ensures.1 in
    rw same.1 (subst (Stops (g.R.Read.remaining c.args.feed.now.device) (g.R.Read.remaining c.go_on-worked.new.feed.device) c.args.file.now.reading.most c.args.file.now.limit) (sym same.2) tt)

pub returns-in_err-worked-clause-failed : goal.returns-in_err-worked-clause-failed
returns-in_err-worked-clause-failed g c =
    let same = err_from_is_err_and c.from_residual-in_err-worked.result c.from_residual-in_err-worked.ensures.1 in
    let runs = works g.R.Read.remaining c.loop-more.feed c.go_on-worked.new.feed c.loop-more.file c.go_on-worked.new.file c.go_on-worked.result.1 c.go_on-worked.ensures.deals.reads c.in_ok-more-2.more c.in_ok-more-2.was in
    failed_as (HasFailed c.go_on-worked.new.feed) _ _ Memory same.1 same.2 (λ read. let never : ⊥ = cc in absurd never, λ failed. absurd (runs failed))

pub returns-in_err-worked-clause-taken : goal.returns-in_err-worked-clause-taken
returns-in_err-worked-clause-taken g c =
    let left = g.R.Read.remaining in
    let start = left c.args.feed.now.device in
    let inv = c.loop-more.invariant in
    let more = further_of start (left c.loop-more.feed.device) inv.so_far.before c.loop-more.file c.loop-more.dealt c.loop-more.more c.loop-more-test.true inv.so_far.next in
    took_within start (left c.go_on-worked.new.feed.device) c.loop-more.file.reading.most c.args.file.now.reading.most inv.most (c.go_on-worked.ensures.deals.reads.taken start more.contents more.so_far)

pub loop-more-smaller : goal.loop-more-smaller
loop-more-smaller g c =
    let left = g.R.Read.remaining in
    let start = left c.args.feed.now.device in
    let now = left c.go_on-worked.new.feed.device in
    let new = c.go_on-worked.new in
    let deals = c.go_on-worked.ensures.deals in
    let inv = c.loop-more.invariant in
    let more = further_of start (left c.loop-more.feed.device) inv.so_far.before c.loop-more.file c.loop-more.dealt c.loop-more.more c.loop-more-test.true inv.so_far.next in
    let went = dealt_next left c.loop-more.feed new.feed c.loop-more.file new.file new.next c.go_on-worked.result.1 c.in_ok-more-2.more c.in_ok-more-2.was deals start more.contents more.so_far in
    less_left left c.loop-more.feed new.feed c.loop-more.file new.file c.go_on-worked.result.1 deals.reads c.in_ok-more-2.more c.in_ok-more-2.was c.loop-more.more c.loop-more-test.true
    (λ is. (further_of start now more.contents new.file new.next c.in_ok-more-2.more is went).so_far.read.within)

pub loop-more-preserved : goal.loop-more-preserved
loop-more-preserved g c =
    let left = g.R.Read.remaining in
    let start = left c.args.feed.now.device in
    let now = left c.go_on-worked.new.feed.device in
    let new = c.go_on-worked.new in
    let deals = c.go_on-worked.ensures.deals in
    let inv = c.loop-more.invariant in
    let so_far = inv.so_far in
    let more = further_of start (left c.loop-more.feed.device) so_far.before c.loop-more.file c.loop-more.dealt c.loop-more.more c.loop-more-test.true so_far.next in
    let went = dealt_next left c.loop-more.feed new.feed c.loop-more.file new.file new.next c.go_on-worked.result.1 c.in_ok-more-2.more c.in_ok-more-2.was deals start more.contents more.so_far in
    let replayed = gone c.loop-more.replay new.replay c.loop-more.dealt c.go_on-worked.result.0 _ c.in_ok-worked.was c.go_on-worked.ensures.replay so_far.before.payloads more.payloads so_far.replayed more.dealt_is in
    record {
      so_far = record {
        before = more.contents;
        replayed = subst (λ (day : List (List ℕ)). HasReplayed day new.replay) (sym more.follow) replayed;
        next = subst (λ (dealt : Dealt). Next start now more.contents new.file dealt c.in_ok-more-2.more) (sym c.swap.ensures.x_after) went;
      };
      most = deals.reads.most ∙ inv.most;
      limit = deals.reads.limit ∙ inv.limit;
      works = works left c.loop-more.feed new.feed c.loop-more.file new.file c.go_on-worked.result.1 deals.reads c.in_ok-more-2.more c.in_ok-more-2.was;
    }

pub returns-clause-replayed : goal.returns-clause-replayed
returns-clause-replayed g c =
    let start = g.R.Read.remaining c.args.feed.now.device in
    let now = g.R.Read.remaining c.loop-more.feed.device in
    let inv = c.loop-more.invariant in
    let so_far = inv.so_far in
    let whole = whole_of start now so_far.before c.loop-more.file c.loop-more.dealt c.loop-more.more c.loop-more-test.false so_far.next in
    record {
      contents = so_far.before;
      whole = subst (λ (most : ℕ). IsWholeFile start now most so_far.before) inv.most whole.1;
      few = omega (arith, whole.0.few, inv.limit);
      marked_is = whole.0.marked_is;
      tail_is = whole.0.tail_is;
      replayed = so_far.replayed;
    }

use Rattle.std.proofs.Common.{ℕ, ◌≤◌, ◌∙◌, ap, length, subst}
use Rattle.day_segments.specs.Reading.{IsWholeFile}
use Rattle.file_replay.specs.declared.file_end.FileEnd.{FileEnd}
use Rattle.file_replay.proofs.replaying.replay_file.Goals as goal

pub replay_whole-requires-clause-file : goal.replay_whole-requires-clause-file
replay_whole-requires-clause-file g c κs within = c.new-file.ensures.so_far (g.R.Read.remaining c.args.feed.now.device)

pub returns-clause-replayed : goal.returns-clause-replayed
returns-clause-replayed g c =
    let start = g.R.Read.remaining c.args.feed.now.device in
    let now = g.R.Read.remaining c.replay_whole.new.feed.device in
    let whole = c.in_ok-replay_whole.ensures.replayed in
    let made = c.in_ok-end.ensures in
    record {
      contents = whole.contents;
      whole = subst (λ (most : ℕ). IsWholeFile start now most whole.contents) c.new-file.ensures.most whole.whole;
      few = subst (λ (limit : ℕ). length whole.contents.payloads ≤ limit) c.new-file.ensures.limit whole.few;
      makes = record {
        count_is = made.messages whole.contents.payloads whole.replayed;
        passed_is = made.passed whole.contents.payloads whole.replayed;
        summary = made.summary whole.contents.payloads whole.replayed;
        marked_is = ap (λ (end : FileEnd). end.marked) c.end-end.ensures ∙ whole.marked_is;
        tail_is = ap (λ (end : FileEnd). end.tail) c.end-end.ensures ∙ whole.tail_is;
      };
    }

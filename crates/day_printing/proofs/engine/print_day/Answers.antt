use Rattle.std.proofs.Common.{◌-◌, ◌+◌, ◌∙◌, ◌^◌, ◌≤◌, ◌++◌, Err, List, ℕ, length, refl, sym, subst, ap, arith, rules, inl, inr}
use Rattle.std.proofs.lemmas.Bool.{false≢true}
use Rattle.std.proofs.lemmas.List.{length-append}
use Rattle.std.proofs.lemmas.Result.{err_from_is_err_and}
use Rattle.binaryfile.specs.Devices.{HasFailed}
use Rattle.binaryfile.specs.Entries.{Contents}
use Rattle.day_segments.specs.Reading.{Reading, followed_by}
use Rattle.day_segments.proofs.SegmentCases.{all_of_it, none_more, one_more, took_within}
use Rattle.engine_rules.specs.FaultOrigins.{fault_of_load}
use Rattle.engine_rules.specs.declared.fault.ProgFault.TheVariants.{Memory, TooManyMessages, Write}
use Rattle.day_printing.proofs.Printed.{found_segment, halts, needs_last, printed_first, printed_on, prints_enough, prints_whole, split_on, stops_at_many, stops_ending, stops_in_ending, stops_within, stops_without_memory, took_so_far}
use Rattle.day_printing.proofs.Results.{faulted, finished, load_no_write, many_no_read, many_no_write, memory_no_read, memory_no_write, read_of_load, refused, worked, works_after, write_no_read}
use Rattle.day_printing.proofs.engine.print_day.Goals as goal

pub returns-then-failed : goal.returns-then-failed
returns-then-failed g c =
    refused (g.P.Printing.printer c.args.printing.now) _ _ c.args.segment g.R.Read.remaining g.W.Write.contents c.args.feed.now c.args.feed.now c.args.sink.now c.args.sink.now refl refl (sym (c.if-failed.ensures {u = tt}))

pub segments-init : goal.segments-init
segments-init g c =
    let start = g.R.Read.remaining c.args.feed.now.device in
    let first = c.args.printing.now in
    record {
      so_far = printed_first (g.P.Printing.has_printed first) first start c.new-reader.result (g.W.Write.contents c.args.sink.now.device) c.requires.none (c.new-reader.ensures.read start) c.new-reader.ensures.most;
      size = c.new-reader.ensures.size;
      needed = inl refl;
      works = worked c.args.feed.now.failed (c.if-failed.ensures {u = tt});
      sink_for_good = λ _. refl;
    }

pub returns-in_err-next : goal.returns-in_err-next
returns-in_err-next g c =
    let left = g.R.Read.remaining in
    let taken = g.W.Write.contents in
    let first = c.args.printing.now in
    let printer = g.P.Printing.printer first in
    let start = left c.args.feed.now.device in
    let now = left c.segments.feed.device in
    let next = left c.next.new.feed.device in
    let took = taken c.args.sink.now.device in
    let took_now = taken c.segments.sink.device in
    let before = c.segments.invariant.so_far in
    let found = c.in_err-next.ensures {u = tt} in
    let fault = c.in_err-next.field-0.0 in
    let same = err_from_is_err_and c.from_residual.result c.from_residual.ensures.1 in
    let read = read_of_load fault (HasFailed c.next.new.feed) c.next.result (c.in_err-next.was {u = tt}) c.next.ensures.failed in
    faulted printer _ _ c.args.segment left taken c.args.feed.now c.next.new.feed c.args.sink.now c.segments.sink c.from_residual.result (fault_of_load fault) (same.1 ∙ ap Err same.2)
    (halts printer (g.P.Printing.has_printed first) (c.texts_go_on.ensures.leads first) c.segments.printing start now took took_now c.segments.reader before next fault found.took (λ is. found.took_more (ap Err is)) (λ is. found.not_messages (ap Err is)))
    (took_within start next c.segments.reader.most (2 ^ 40) before.most (c.next.ensures.taken start before.contents before.read))
    read.0 read.1 (λ e. absurd (load_no_write fault e)) (λ failed. absurd (worked c.args.feed.now.failed (c.if-failed.ensures {u = tt}) failed)) c.segments.invariant.sink_for_good

pub returns-in_err-text : goal.returns-in_err-text
returns-in_err-text g c =
    let left = g.R.Read.remaining in
    let taken = g.W.Write.contents in
    let first = c.args.printing.now in
    let printer = g.P.Printing.printer first in
    let start = left c.args.feed.now.device in
    let now = left c.segments.feed.device in
    let next = left c.next.new.feed.device in
    let took = taken c.args.sink.now.device in
    let took_now = taken c.segments.sink.device in
    let before = c.segments.invariant.so_far in
    let found = c.in_ok-next.ensures {u = tt} in
    let whole = all_of_it start next c.segments.reader.most before.contents c.next.new.self _ c.in_default.is (found.read start before.contents before.read) in
    let same = err_from_is_err_and c.from_residual-in_err-text.result c.from_residual-in_err-text.ensures.1 in
    faulted printer _ _ c.args.segment left taken c.args.feed.now c.next.new.feed c.args.sink.now c.segments.sink c.from_residual-in_err-text.result Memory (same.1 ∙ ap Err same.2)
    (stops_ending printer (g.P.Printing.has_printed first) (c.texts_go_on.ensures.leads first) c.segments.printing start now took took_now c.segments.reader before next took_now whole)
    (took_within start next c.segments.reader.most (2 ^ 40) before.most (c.next.ensures.taken start before.contents before.read))
    (λ e. absurd (memory_no_read e)) (λ failed. absurd ((works_after _ (HasFailed c.next.new.feed) found.failed) failed)) (λ e. absurd (memory_no_write e)) (λ failed. absurd (worked c.args.feed.now.failed (c.if-failed.ensures {u = tt}) failed)) c.segments.invariant.sink_for_good

pub returns-in_err-send : goal.returns-in_err-send
returns-in_err-send g c =
    let left = g.R.Read.remaining in
    let taken = g.W.Write.contents in
    let first = c.args.printing.now in
    let printer = g.P.Printing.printer first in
    let start = left c.args.feed.now.device in
    let now = left c.segments.feed.device in
    let next = left c.next.new.feed.device in
    let took = taken c.args.sink.now.device in
    let took_now = taken c.segments.sink.device in
    let before = c.segments.invariant.so_far in
    let found = c.in_ok-next.ensures {u = tt} in
    let whole = all_of_it start next c.segments.reader.most before.contents c.next.new.self _ c.in_default.is (found.read start before.contents before.read) in
    let rest = none_more start next c.segments.reader.most before.contents c.next.new.self c.segments.reader _ _ c.in_default.is found.further in
    let more = c.deref.result.now in
    let ended : g.P.Printing.has_ended first c.print_end.new.self before.contents (before.text ++ more) =
    subst (λ (l : List ℕ). g.P.Printing.has_ended first c.print_end.new.self before.contents (before.text ++ l)) (sym c.deref.ensures.value)
    (c.in_ok-text.ensures {u = tt} first before.contents before.text before.printed (c.carried.ensures ∙ ap (λ (r : Reading). r.carried) rest ∙ before.read.read.carry_is)) in
    let same = err_from_is_err_and c.from_residual-in_err-send.result c.from_residual-in_err-send.ensures.1 in
    let sending = c.in_err-send.ensures {u = tt} in
    faulted printer _ _ c.args.segment left taken c.args.feed.now c.next.new.feed c.args.sink.now c.send.new.sink c.from_residual-in_err-send.result Write (same.1 ∙ ap Err same.2)
    (stops_in_ending printer (g.P.Printing.has_printed first) (c.texts_go_on.ensures.leads first) c.segments.printing start now took took_now c.segments.reader before next (taken c.send.new.sink.device) whole more (c.texts_go_on.ensures.ended first c.print_end.new.self before.contents (before.text ++ more) ended)
    c.in_err-send.field-0.0.written sending.sent.1)
    (took_within start next c.segments.reader.most (2 ^ 40) before.most (c.next.ensures.taken start before.contents before.read))
    (λ e. absurd (write_no_read e)) (λ failed. absurd ((works_after _ (HasFailed c.next.new.feed) found.failed) failed)) (λ _. search (rules, sending.failed)) (λ failed. absurd (worked c.args.feed.now.failed (c.if-failed.ensures {u = tt}) failed))
    (λ failed. let kept = c.segments.invariant.sink_for_good failed in c.send.ensures.for_good (subst HasFailed (sym kept) failed) ∙ kept)

pub returns-in_default : goal.returns-in_default
returns-in_default g c =
    let left = g.R.Read.remaining in
    let taken = g.W.Write.contents in
    let first = c.args.printing.now in
    let printer = g.P.Printing.printer first in
    let start = left c.args.feed.now.device in
    let now = left c.segments.feed.device in
    let next = left c.next.new.feed.device in
    let took = taken c.args.sink.now.device in
    let took_now = taken c.segments.sink.device in
    let before = c.segments.invariant.so_far in
    let found = c.in_ok-next.ensures {u = tt} in
    let whole = all_of_it start next c.segments.reader.most before.contents c.next.new.self _ c.in_default.is (found.read start before.contents before.read) in
    let rest = none_more start next c.segments.reader.most before.contents c.next.new.self c.segments.reader _ _ c.in_default.is found.further in
    let more = c.deref.result.now in
    let ended : g.P.Printing.has_ended first c.print_end.new.self before.contents (before.text ++ more) =
    subst (λ (l : List ℕ). g.P.Printing.has_ended first c.print_end.new.self before.contents (before.text ++ l)) (sym c.deref.ensures.value)
    (c.in_ok-text.ensures {u = tt} first before.contents before.text before.printed (c.carried.ensures ∙ ap (λ (r : Reading). r.carried) rest ∙ before.read.read.carry_is)) in
    let sending = c.in_ok-send.ensures {u = tt} in
    finished printer _ (g.P.Printing.has_ended first c.print_end.new.self) c.args.segment left taken c.args.feed.now c.next.new.feed c.args.sink.now c.send.new.sink
    (inl (prints_whole printer (g.P.Printing.has_printed first) (c.texts_go_on.ensures.leads first) c.segments.printing start now took took_now c.segments.reader before next (taken c.send.new.sink.device) whole (g.P.Printing.has_ended first c.print_end.new.self) more
    (λ suffices. false≢true (sym c.segments-test.true ∙ (c.suffices.ensures first before.contents before.text before.printed (c.messages.ensures ∙ before.read.messages_are)).1 suffices)) ended sending.sent))
    (took_within start next c.segments.reader.most (2 ^ 40) before.most (c.next.ensures.taken start before.contents before.read))
    (works_after _ (HasFailed c.next.new.feed) found.failed) (λ failed. absurd (worked c.args.feed.now.failed (c.if-failed.ensures {u = tt}) failed))
    (λ failed. let kept = c.segments.invariant.sink_for_good failed in c.send.ensures.for_good (subst HasFailed (sym kept) failed) ∙ kept)

pub returns-then-messages-from : goal.returns-then-messages-from
returns-then-messages-from g c =
    let left = g.R.Read.remaining in
    let taken = g.W.Write.contents in
    let first = c.args.printing.now in
    let printer = g.P.Printing.printer first in
    let start = left c.args.feed.now.device in
    let now = left c.segments.feed.device in
    let next = left c.next.new.feed.device in
    let took = taken c.args.sink.now.device in
    let took_now = taken c.segments.sink.device in
    let before = c.segments.invariant.so_far in
    let found = c.in_ok-next.ensures {u = tt} in
    let segment : Contents = c.in-Some.next in
    let read = one_more start next c.segments.reader.most before.contents c.next.new.self _ segment c.in-Some.is (found.read start before.contents before.read) in
    let is_segment = found_segment now next c.segments.reader.carried c.segments.reader.size (c.segments.reader.most - c.segments.reader.given) _ segment c.in-Some.is found.segment in
    faulted printer _ _ c.args.segment left taken c.args.feed.now c.next.new.feed c.args.sink.now c.segments.sink (Err TooManyMessages) TooManyMessages refl
    (stops_at_many printer (g.P.Printing.has_printed first) (c.texts_go_on.ensures.leads first) c.segments.printing start now took took_now c.segments.reader before next took_now segment is_segment c.next.new.self.messages read.messages_are
    (omega (arith, c.if-messages-from.true, c.messages-in-segments.ensures, c.from.ensures)))
    (took_within start next c.segments.reader.most (2 ^ 40) before.most (c.next.ensures.taken start before.contents before.read))
    (λ e. absurd (many_no_read e)) (λ failed. absurd ((works_after _ (HasFailed c.next.new.feed) found.failed) failed)) (λ e. absurd (many_no_write e)) (λ failed. absurd (worked c.args.feed.now.failed (c.if-failed.ensures {u = tt}) failed)) c.segments.invariant.sink_for_good

pub print_segment-requires : goal.print_segment-requires
print_segment-requires g c =
    let left = g.R.Read.remaining in
    let taken = g.W.Write.contents in
    let first = c.args.printing.now in
    let printer = g.P.Printing.printer first in
    let start = left c.args.feed.now.device in
    let now = left c.segments.feed.device in
    let next = left c.next.new.feed.device in
    let took = taken c.args.sink.now.device in
    let took_now = taken c.segments.sink.device in
    let before = c.segments.invariant.so_far in
    let found = c.in_ok-next.ensures {u = tt} in
    let segment : Contents = c.in-Some.next in
    let read = one_more start next c.segments.reader.most before.contents c.next.new.self _ segment c.in-Some.is (found.read start before.contents before.read) in
    let is_segment = found_segment now next c.segments.reader.carried c.segments.reader.size (c.segments.reader.most - c.segments.reader.given) _ segment c.in-Some.is found.segment in
    let few : length before.contents.payloads + length segment.payloads ≤ 2 ^ 32 - 1 =
    omega (arith, c.if-messages-from.false, c.messages-in-segments.ensures, c.from.ensures, read.messages_are, length-append before.contents.payloads segment.payloads) in
    (first, before.contents, before.text, before.printed, c.messages-before.ensures ∙ before.read.messages_are, few)

pub returns-in_err-text-2 : goal.returns-in_err-text-2
returns-in_err-text-2 g c =
    let left = g.R.Read.remaining in
    let taken = g.W.Write.contents in
    let first = c.args.printing.now in
    let printer = g.P.Printing.printer first in
    let start = left c.args.feed.now.device in
    let now = left c.segments.feed.device in
    let next = left c.next.new.feed.device in
    let took = taken c.args.sink.now.device in
    let took_now = taken c.segments.sink.device in
    let before = c.segments.invariant.so_far in
    let found = c.in_ok-next.ensures {u = tt} in
    let segment : Contents = c.in-Some.next in
    let read = one_more start next c.segments.reader.most before.contents c.next.new.self _ segment c.in-Some.is (found.read start before.contents before.read) in
    let is_segment = found_segment now next c.segments.reader.carried c.segments.reader.size (c.segments.reader.most - c.segments.reader.given) _ segment c.in-Some.is found.segment in
    let same = err_from_is_err_and c.from_residual-in_err-text-2.result c.from_residual-in_err-text-2.ensures.1 in
    faulted printer _ _ c.args.segment left taken c.args.feed.now c.next.new.feed c.args.sink.now c.segments.sink c.from_residual-in_err-text-2.result Memory (same.1 ∙ ap Err same.2)
    (stops_without_memory printer (g.P.Printing.has_printed first) (c.texts_go_on.ensures.leads first) c.segments.printing start now took took_now c.segments.reader before next took_now segment is_segment)
    (took_within start next c.segments.reader.most (2 ^ 40) before.most (c.next.ensures.taken start before.contents before.read))
    (λ e. absurd (memory_no_read e)) (λ failed. absurd ((works_after _ (HasFailed c.next.new.feed) found.failed) failed)) (λ e. absurd (memory_no_write e)) (λ failed. absurd (worked c.args.feed.now.failed (c.if-failed.ensures {u = tt}) failed)) c.segments.invariant.sink_for_good

pub returns-in_err-send-2 : goal.returns-in_err-send-2
returns-in_err-send-2 g c =
    let left = g.R.Read.remaining in
    let taken = g.W.Write.contents in
    let first = c.args.printing.now in
    let printer = g.P.Printing.printer first in
    let start = left c.args.feed.now.device in
    let now = left c.segments.feed.device in
    let next = left c.next.new.feed.device in
    let took = taken c.args.sink.now.device in
    let took_now = taken c.segments.sink.device in
    let before = c.segments.invariant.so_far in
    let found = c.in_ok-next.ensures {u = tt} in
    let segment : Contents = c.in-Some.next in
    let read = one_more start next c.segments.reader.most before.contents c.next.new.self _ segment c.in-Some.is (found.read start before.contents before.read) in
    let is_segment = found_segment now next c.segments.reader.carried c.segments.reader.size (c.segments.reader.most - c.segments.reader.given) _ segment c.in-Some.is found.segment in
    let more = c.deref-in-segments.result.now in
    let printed : g.P.Printing.has_printed first c.print_segment.new.self (followed_by before.contents segment) (before.text ++ more) =
    subst (λ (l : List ℕ). g.P.Printing.has_printed first c.print_segment.new.self (followed_by before.contents segment) (before.text ++ l)) (sym c.deref-in-segments.ensures.value)
    (c.in_ok-text-2.ensures {u = tt} first before.contents before.text is_segment.bytes before.printed (c.messages-before.ensures ∙ before.read.messages_are)
    (split_on printer (g.P.Printing.has_printed first) (c.texts_go_on.ensures.leads first) c.segments.printing start now took took_now c.segments.reader before next took_now segment is_segment)) in
    let same = err_from_is_err_and c.from_residual-in_err-send-2.result c.from_residual-in_err-send-2.ensures.1 in
    let sending = c.in_err-send-2.ensures {u = tt} in
    faulted printer _ _ c.args.segment left taken c.args.feed.now c.next.new.feed c.args.sink.now c.send-in-segments.new.sink c.from_residual-in_err-send-2.result Write (same.1 ∙ ap Err same.2)
    (stops_within printer (g.P.Printing.has_printed first) (c.texts_go_on.ensures.leads first) c.segments.printing start now took took_now c.segments.reader before next (taken c.send-in-segments.new.sink.device) segment is_segment c.print_segment.new.self more printed c.in_err-send-2.field-0.0.written sending.sent.1)
    (took_within start next c.segments.reader.most (2 ^ 40) before.most (c.next.ensures.taken start before.contents before.read))
    (λ e. absurd (write_no_read e)) (λ failed. absurd ((works_after _ (HasFailed c.next.new.feed) found.failed) failed)) (λ _. search (rules, sending.failed)) (λ failed. absurd (worked c.args.feed.now.failed (c.if-failed.ensures {u = tt}) failed))
    (λ failed. let kept = c.segments.invariant.sink_for_good failed in c.send-in-segments.ensures.for_good (subst HasFailed (sym kept) failed) ∙ kept)

pub segments-preserved : goal.segments-preserved
segments-preserved g c =
    let left = g.R.Read.remaining in
    let taken = g.W.Write.contents in
    let first = c.args.printing.now in
    let printer = g.P.Printing.printer first in
    let start = left c.args.feed.now.device in
    let now = left c.segments.feed.device in
    let next = left c.next.new.feed.device in
    let took = taken c.args.sink.now.device in
    let took_now = taken c.segments.sink.device in
    let before = c.segments.invariant.so_far in
    let found = c.in_ok-next.ensures {u = tt} in
    let segment : Contents = c.in-Some.next in
    let read = one_more start next c.segments.reader.most before.contents c.next.new.self _ segment c.in-Some.is (found.read start before.contents before.read) in
    let is_segment = found_segment now next c.segments.reader.carried c.segments.reader.size (c.segments.reader.most - c.segments.reader.given) _ segment c.in-Some.is found.segment in
    let more = c.deref-in-segments.result.now in
    let printed : g.P.Printing.has_printed first c.print_segment.new.self (followed_by before.contents segment) (before.text ++ more) =
    subst (λ (l : List ℕ). g.P.Printing.has_printed first c.print_segment.new.self (followed_by before.contents segment) (before.text ++ l)) (sym c.deref-in-segments.ensures.value)
    (c.in_ok-text-2.ensures {u = tt} first before.contents before.text is_segment.bytes before.printed (c.messages-before.ensures ∙ before.read.messages_are)
    (split_on printer (g.P.Printing.has_printed first) (c.texts_go_on.ensures.leads first) c.segments.printing start now took took_now c.segments.reader before next took_now segment is_segment)) in
    let sending = c.in_ok-send-2.ensures {u = tt} in
    record {
      so_far = printed_on printer (g.P.Printing.has_printed first) (c.texts_go_on.ensures.leads first) c.segments.printing start now took took_now c.segments.reader before next (taken c.send-in-segments.new.sink.device) segment is_segment c.print_segment.new.self more printed c.next.new.self read c.next.ensures.most
          (omega (arith, c.if-messages-from.false, c.messages-in-segments.ensures, c.from.ensures)) sending.sent;
      size = c.next.ensures.size ∙ c.segments.invariant.size;
      needed = inr (needs_last printer (g.P.Printing.has_printed first) (c.texts_go_on.ensures.leads first) c.segments.printing start now took took_now c.segments.reader before next took_now segment is_segment c.args.segment c.segments.invariant.size
          (λ suffices. false≢true (sym c.segments-test.true ∙ (c.suffices.ensures first before.contents before.text before.printed (c.messages.ensures ∙ before.read.messages_are)).1 suffices)));
      works = (works_after _ (HasFailed c.next.new.feed) found.failed);
      sink_for_good = (λ failed. let kept = c.segments.invariant.sink_for_good failed in c.send-in-segments.ensures.for_good (subst HasFailed (sym kept) failed) ∙ kept);
    }

pub returns : goal.returns
returns g c =
    let left = g.R.Read.remaining in
    let taken = g.W.Write.contents in
    let first = c.args.printing.now in
    let printer = g.P.Printing.printer first in
    let start = left c.args.feed.now.device in
    let now = left c.segments.feed.device in
    let took = taken c.args.sink.now.device in
    let took_now = taken c.segments.sink.device in
    let before = c.segments.invariant.so_far in
    finished printer (g.P.Printing.has_printed first c.segments.printing) _ c.args.segment left taken c.args.feed.now c.segments.feed c.args.sink.now c.segments.sink
    (inr (prints_enough printer (g.P.Printing.has_printed first) (c.texts_go_on.ensures.leads first) c.segments.printing start now took took_now c.segments.reader before c.args.segment (c.texts_go_on.ensures.enough first) c.segments.invariant.needed
    ((c.suffices.ensures first before.contents before.text before.printed (c.messages.ensures ∙ before.read.messages_are)).0 c.segments-test.false)))
    (took_so_far printer (g.P.Printing.has_printed first) (c.texts_go_on.ensures.leads first) c.segments.printing start now took took_now c.segments.reader before)
    c.segments.invariant.works
    (λ failed. absurd (worked c.args.feed.now.failed (c.if-failed.ensures {u = tt}) failed))
    c.segments.invariant.sink_for_good

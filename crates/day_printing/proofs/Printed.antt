-- A file that was read so far, and what was written of it.
use Rattle.std.proofs.Common.{◌≡◌, ◌≢◌, ◌⊎◌, ℕ, ◌+◌, ◌-◌, ◌^◌, ◌<◌, ◌≤◌, List, [], ◌++◌, length, take, drop, refl, sym, subst, ap, ◌∙◌, arith, append_assoc, append-nil, inl, inr}
use Rattle.std.proofs.KnownBytes.{Appends-nil, Appends-trans, Consumes-trans}
use Rattle.std.proofs.lemmas.List.{length-append, take-append-drop}
use Rattle.std.proofs.lemmas.List.Elements.{All-append}
use Rattle.std.specs.Prelude.{IfSome, Option, Some}
use Rattle.std.specs.Io.KnownBytes.{Appends, Consumes}
use Rattle.byte_strings.specs.Bytes.{AreBytes, IsByte}
use Rattle.binaryfile.specs.Devices.{GaveMore, GaveUpTo}
use Rattle.binaryfile.specs.Entries.{Contents, Splits}
use Rattle.binaryfile.specs.Scanned.{contents_of}
use Rattle.binaryfile.specs.declared.load.LoadFault.{LoadFault}
use Rattle.binaryfile.specs.declared.load.LoadFault.TheVariants.{Memory as LoadMemory, Read as LoadRead, TooManyBytes as LoadBytes, TooManyMessages as LoadMessages}
use Rattle.binaryfile.proofs.Splitting.{contents_splits, splits_contents}
use Rattle.day_segments.specs.Reading.{HasRead, IsWholeFile, Reading, followed_by, nothing_read}
use Rattle.day_segments.specs.Segments.{IsSegment, carry_after}
use Rattle.day_segments.proofs.Following.{every_file_goes_on}
use Rattle.engine_rules.specs.FaultOrigins.{fault_of_load}
use Rattle.engine_rules.specs.Runs.{Traffic}
use Rattle.engine_rules.specs.declared.fault.ProgFault.{ProgFault}
use Rattle.engine_rules.specs.declared.fault.ProgFault.TheVariants.{Memory, Read, TooManyBytes, TooManyMessages, Write, BadHex, Asm}
use Rattle.text_fields.specs.Prefixes.{IsPrefix}
use Rattle.text_fields.proofs.Prefixes.{prefix_append, prefix_further}
use Rattle.day_printing.specs.Printers.{Begins, BeginsAll, NeedsLast, Printer, PrintsEnough, PrintsWhole, Shows, StopsPrinting}

-- what was written so far begins each right text of a file that goes on
abbrev pub Leads : {S : Type 0} → Printer → (S → Contents → List ℕ → Type 0) → Type 0
Leads printer Printed =
    (now : _) (read next : Contents) (text given whole : List ℕ) → Printed now read text → Splits (carry_after read ++ given) next → printer.IsText (followed_by read next) whole → IsPrefix text whole

abbrev pub traffic : Option (List ℕ) → Option (List ℕ) → Option (List ℕ) → Option (List ℕ) → Traffic
traffic left left_after taken taken_after = record { left = left; left_after = left_after; taken = taken; taken_after = taken_after }

-- a file was read so far, and this was written of it
pub record IsPrintedTo {S : Type 0} (Printed : S → Contents → List ℕ → Type 0) (state : S) (start now : Option (List ℕ)) (reading : Reading) (taken taken_now : Option (List ℕ)) : Type 0 where
  pub contents : Contents
  pub text : List ℕ
  pub read : HasRead start now contents reading
  pub most : reading.most ≡ 2 ^ 40
  pub few : reading.messages ≤ 2 ^ 32 - 1
  pub printed : Printed state contents text
  pub wrote : Appends taken taken_now text

pub printed_first : {S : Type 0} (Printed : S → Contents → List ℕ → Type 0) (state : S) (start : Option (List ℕ)) (reading : Reading) (taken : Option (List ℕ)) → Printed state nothing_read [] → HasRead start start nothing_read reading → reading.most ≡ 2 ^ 40
    → IsPrintedTo Printed state start start reading taken taken
printed_first Printed state start reading taken none read most = record {
  contents = nothing_read;
  text = [];
  read = read;
  most = most;
  few = omega (arith, read.messages_are);
  printed = none;
  wrote = Appends-nil taken;
}

begins_by : (printer : Printer) (after : Option (List ℕ)) (given written : List ℕ) (fault : ProgFault) → BeginsAll printer given written → Begins printer after given written fault
begins_by printer after given written Memory all = all
begins_by printer after given written Read all = all
begins_by printer after given written TooManyBytes all = all
begins_by printer after given written TooManyMessages all = all
begins_by printer after given written Write all = inl all
begins_by printer after given written BadHex all = all
begins_by printer after given written (Asm line) all = all

module _ {S : Type 0} (printer : Printer) (Printed : S → Contents → List ℕ → Type 0) (leads : Leads printer Printed) where
  -- a part of what was written of a beginning begins each right text of every file that begins so
  begins_all : (state : S) (given front back text : List ℕ) (c : Contents) → Splits given c → Printed state c text → text ≡ front ++ back → BeginsAll printer given front
  begins_all state given front back text c split printed is = λ rest whole all are split_whole is_text.
      let on = every_file_goes_on given rest c whole are split split_whole in
      prefix_further front back [] text all (is ∙ sym (append-nil (front ++ back)))
      (leads state c on.next text rest all printed on.split (subst (λ (w : Contents). printer.IsText w all) on.is is_text))

  -- also of those that begin with more
  further : (given lost written : List ℕ) → BeginsAll printer given written → BeginsAll printer (given ++ lost) written
  further given lost written all = λ rest whole text are split.
      let same = append_assoc given lost rest in
      all (lost ++ rest) whole text (subst AreBytes same are) (subst (λ (bytes : List ℕ). Splits bytes whole) same split)

  module _ (state : S) (start now taken taken_now : Option (List ℕ)) (reading : Reading) (before : IsPrintedTo Printed state start now reading taken taken_now) where
    abbrev Stops : Option (List ℕ) → Option (List ℕ) → ProgFault → Type 0
    Stops next taken_next fault = StopsPrinting printer (traffic start next taken taken_next) fault

    lost_after : (next : Option (List ℕ)) (lost : List ℕ) → Consumes now next lost → (fault : ProgFault) → Shows (before.read.read.bytes ++ lost) fault → Stops next taken_now fault
    lost_after next lost gave fault shows =
        let given = before.read.read.bytes in
        record {
          given = given ++ lost;
          gave = Consumes-trans start now next given lost before.read.read.gave gave;
          shows = shows;
          written = before.text;
          wrote = before.wrote;
          begins = begins_by printer next (given ++ lost) before.text fault
              (further given lost before.text (begins_all state given before.text [] before.text before.contents before.read.read.split before.printed (sym (append-nil before.text))));
        }

    -- where the next segment can't be read
    pub halts : (next : Option (List ℕ)) (fault : LoadFault) → GaveUpTo now next (reading.most - reading.given + 1) → (fault ≡ LoadBytes → GaveMore now next (reading.most - reading.given)) → fault ≢ LoadMessages
        → Stops next taken_now (fault_of_load fault)
    halts next LoadMemory took more few = lost_after next took.bytes took.gave Memory tt
    halts next LoadRead took more few = lost_after next took.bytes took.gave Read tt
    halts next LoadBytes took more few =
        let all = more refl in
        lost_after next all.bytes all.gave TooManyBytes
        (omega (arith, all.more, before.most, before.read.within, before.read.read.given_is, length-append before.read.read.bytes all.bytes))
    halts next LoadMessages took more few = absurd (few refl)

    -- what was taken where no more is read
    pub took_so_far : GaveUpTo start now (2 ^ 40 + 1)
    took_so_far = record {
      bytes = before.read.read.bytes;
      gave = before.read.read.gave;
      within = omega (arith, before.read.read.given_is, before.read.within, before.most);
    }

    -- what was read is enough
    pub prints_enough : (segment : ℕ)
        → ((now : S) (read next : Contents) (text given whole : List ℕ) → Printed now read text → Splits (carry_after read ++ given) next → printer.Suffices read → printer.IsText (followed_by read next) whole → text ≡ whole)
        → (now ≡ start) ⊎ NeedsLast printer start now segment → printer.Suffices before.contents → PrintsEnough printer (Printed state) segment (traffic start now taken taken_now)
    prints_enough segment enough needed suffices =
        let given = before.read.read.bytes in
        let c = before.contents in
        record {
          given = given;
          contents = c;
          gave = before.read.read.gave;
          split = before.read.read.split;
          suffices = suffices;
          needed = needed;
          written = before.text;
          printed = before.printed;
          wrote = before.wrote;
          every = λ rest whole text are split is_text.
              let on = every_file_goes_on given rest c whole are before.read.read.split split in
              enough state c on.next before.text rest text before.printed on.split suffices (subst (λ (w : Contents). printer.IsText w text) on.is is_text);
        }

    -- ---- the next segment
    module _ (next taken_next : Option (List ℕ)) (segment : Contents) (is_segment : IsSegment now next reading.carried reading.size (reading.most - reading.given) segment) where
      abbrev given : List ℕ
      given = before.read.read.bytes ++ is_segment.bytes

      are : AreBytes given
      are = All-append IsByte before.read.read.bytes is_segment.bytes before.read.read.are is_segment.are

      pub split_on : Splits (carry_after before.contents ++ is_segment.bytes) segment
      split_on = subst (λ (carried : List ℕ). Splits (carried ++ is_segment.bytes) segment) before.read.read.carry_is is_segment.split

      split : Splits given (followed_by before.contents segment)
      split =
          let whole = contents_splits given are in
          let on = every_file_goes_on before.read.read.bytes is_segment.bytes before.contents (contents_of given) are before.read.read.split whole in
          let same : on.next ≡ segment =
          splits_contents (carry_after before.contents ++ is_segment.bytes) on.next on.split ∙ sym (splits_contents (carry_after before.contents ++ is_segment.bytes) segment split_on) in
          subst (Splits given) (on.is ∙ ap (followed_by before.contents) same) whole

      -- where the reader has read it in vain
      pub needs_last : (size : ℕ) → reading.size ≡ size → ¬ printer.Suffices before.contents → NeedsLast printer start next size
      needs_last size same unfinished = record {
        between = now;
        first = before.read.read.bytes;
        gave_first = before.read.read.gave;
        last = is_segment.bytes;
        gave_last = is_segment.gave;
        fits = omega (arith, is_segment.fits, same);
        full = λ few. is_segment.full (omega (arith, few, same));
        contents = before.contents;
        split = before.read.read.split;
        unfinished = unfinished;
      }

      pub stops_at_many : (messages : ℕ) → messages ≡ length (followed_by before.contents segment).payloads → 2 ^ 32 - 1 < messages → Stops next taken_now TooManyMessages
      stops_at_many messages counted many =
          lost_after next is_segment.bytes is_segment.gave TooManyMessages (record { are = are; contents = followed_by before.contents segment; split = split; more = omega (arith, many, counted) })

      pub stops_without_memory : Stops next taken_now Memory
      stops_without_memory = lost_after next is_segment.bytes is_segment.gave Memory tt

      module _ (then : S) (more : List ℕ) (printed : Printed then (followed_by before.contents segment) (before.text ++ more)) where
        -- where a part of what is written of it was taken
        pub stops_within : (count : ℕ) → Appends taken_now taken_next (take count more) → Stops next taken_next Write
        stops_within count wrote =
            let front = before.text ++ take count more in
            let is : before.text ++ more ≡ front ++ drop count more =
            ap (λ (l : List ℕ). before.text ++ l) (sym (take-append-drop count more)) ∙ sym (append_assoc before.text (take count more) (drop count more)) in
            record {
              given = given;
              gave = Consumes-trans start now next before.read.read.bytes is_segment.bytes before.read.read.gave is_segment.gave;
              shows = tt;
              written = front;
              wrote = Appends-trans taken taken_now taken_next before.text (take count more) before.wrote wrote;
              begins = inl (begins_all then given front (drop count more) (before.text ++ more) (followed_by before.contents segment) split printed is);
            }

        -- where all of it was
        pub printed_on : (new : Reading) → HasRead start next (followed_by before.contents segment) new → new.most ≡ reading.most → new.messages ≤ 2 ^ 32 - 1 → Appends taken_now taken_next more
            → IsPrintedTo Printed then start next new taken taken_next
        printed_on new read most few wrote = record {
          contents = followed_by before.contents segment;
          text = before.text ++ more;
          read = read;
          most = most ∙ before.most;
          few = few;
          printed = printed;
          wrote = Appends-trans taken taken_now taken_next before.text more before.wrote wrote;
        }

    -- ---- the end of the file
    module _ (next taken_next : Option (List ℕ)) (whole : IsWholeFile start next reading.most before.contents) where
      pub stops_ending : Stops next taken_now Memory
      stops_ending = record {
        given = whole.input;
        gave = whole.gave.gave;
        shows = tt;
        written = before.text;
        wrote = before.wrote;
        begins = begins_all state whole.input before.text [] before.text before.contents whole.split before.printed (sym (append-nil before.text));
      }

      pub stops_in_ending : (more : List ℕ) → printer.IsText before.contents (before.text ++ more) → (count : ℕ) → Appends taken_now taken_next (take count more) → Stops next taken_next Write
      stops_in_ending more is_text count wrote =
          let front = before.text ++ take count more in
          record {
            given = whole.input;
            gave = whole.gave.gave;
            shows = tt;
            written = front;
            wrote = Appends-trans taken taken_now taken_next before.text (take count more) before.wrote wrote;
            begins = inr (record {
              ended = whole.gave.ended;
              contents = before.contents;
              split = whole.split;
              text = before.text ++ more;
              is_text = is_text;
              begins = prefix_append front (drop count more) (before.text ++ more)
                  (ap (λ (l : List ℕ). before.text ++ l) (sym (take-append-drop count more)) ∙ sym (append_assoc before.text (take count more) (drop count more)));
            });
          }

      pub prints_whole : (Ended : Contents → List ℕ → Type 0) (more : List ℕ) → ¬ printer.Suffices before.contents → Ended before.contents (before.text ++ more) → Appends taken_now taken_next more
          → PrintsWhole printer Ended (traffic start next taken taken_next)
      prints_whole Ended more unfinished ended wrote = record {
        input = whole.input;
        contents = before.contents;
        gave = whole.gave;
        are = whole.are;
        within = omega (arith, whole.within, before.most);
        split = whole.split;
        few = omega (arith, before.few, before.read.messages_are);
        unfinished = unfinished;
        text = before.text ++ more;
        ended = ended;
        wrote = Appends-trans taken taken_now taken_next before.text more before.wrote wrote;
      }

-- a segment that was found
pub found_segment : (now next : Option (List ℕ)) (carried : List ℕ) (size most : ℕ) (found : Option Contents) (segment : Contents) → found ≡ Some segment → IfSome found (IsSegment now next carried size most) → IsSegment now next carried size most segment
found_segment now next carried size most found segment is = subst (λ (found : Option Contents). IfSome found (IsSegment now next carried size most)) is

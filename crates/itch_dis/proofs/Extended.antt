-- What is written so far, by how much of a file is written.
use Rattle.std.proofs.Common.{◌≡◌, ℕ, ◌-◌, ◌^◌, ◌≤◌, Bool, true, false, List, [], ◌++◌, length, None, Some, refl, sym, subst, ap, ◌∙◌, append-nil, arith}
use Rattle.std.proofs.Math.Dec.{leb}
use Rattle.std.proofs.lemmas.Bool.{false≢true, le-leb, leb-true}
use Rattle.std.specs.Prelude.{◌↔◌, IfOk, Option, Result, Ok, Err}
use Rattle.binaryfile.specs.Devices.{Device}
use Rattle.engine_rules.specs.declared.fault.ProgFault.{ProgFault}
use Rattle.day_printing.specs.Printers.{Prints}
use Rattle.day_printing.proofs.Weaker.{prints_so}
use Rattle.binaryfile.specs.Entries.{Contents, Splits}
use Rattle.day_segments.specs.Reading.{followed_by, nothing_read}
use Rattle.day_segments.specs.Segments.{carry_after}
use Rattle.itch_print.specs.Disassembly.{lines_between}
use Rattle.itch_text.specs.Text.{Text}
use Rattle.itch_print.proofs.PrintedFiles.{disassembly_denotes}
use Rattle.text_fields.specs.Prefixes.{IsPrefix}
use Rattle.text_fields.proofs.Prefixes.{prefix_append}
use Rattle.itch_dis.specs.Extents.{IsPrinted, ReachesEnd, closing_text, printer_of, segment_text, so_far_of, text_of_extent}
use Rattle.itch_dis.specs.Printers.{IsWholeText, last_number}
use Rattle.itch_dis.specs.TextEnds.{added_by, text_end_after, text_end_of}
use Rattle.itch_dis.specs.declared.extent.Extent.{Extent}
use Rattle.itch_dis.specs.declared.extent.Extent.TheVariants.{Whole, Messages}
use Rattle.itch_dis.specs.declared.text_end.TextEnd.{TextEnd}
use Rattle.itch_dis.specs.declared.text_end.TextEnd.TheVariants.{Open}
use Rattle.itch_dis.proofs.SoFar.{end_goes_on, text_closes, text_goes_on, text_leads, text_so_far}
use Rattle.itch_dis.proofs.TextParts.{lines_followed, lines_of_all, no_lines_first, no_more_lines}

so_far_first : (extent : Extent) → so_far_of extent nothing_read ≡ []
so_far_first Whole = refl
so_far_first (Messages first last) = no_lines_first first (last_number last) _ []

-- before the first segment
pub printed_first : (extent now : Extent) (end : TextEnd) → now ≡ extent → end ≡ Open → IsPrinted extent now end nothing_read []
printed_first extent now end same is_open = record { same = same; end_is = is_open; is = sym (so_far_first extent) }

leads : (extent : Extent) (c next : Contents) (rest : List ℕ) → Splits (carry_after c ++ rest) next → (more : List ℕ) × (text_of_extent extent (followed_by c next) ≡ so_far_of extent c ++ more)
leads Whole = text_leads
leads (Messages first last) = λ c next rest split.
    (lines_between next (first - length c.payloads) (last_number last - length c.payloads), lines_followed c next first (last_number last))

-- what a segment adds, where its messages have numbers
adds : (extent : Extent) (c next : Contents) (rest : List ℕ) → Splits (carry_after c ++ rest) next → length next.payloads ≤ 2 ^ 32 - 1
    → so_far_of extent (followed_by c next) ≡ so_far_of extent c ++ segment_text extent (length c.payloads) (text_end_of c.marked c.tail) next
adds Whole c next rest split few =
    let tail = added_by (text_end_of c.marked c.tail) next.marked next.tail in
    text_goes_on c next rest split ∙ ap (λ (front : List ℕ). text_so_far c ++ (front ++ tail)) (sym (lines_of_all next few))
adds (Messages first last) c next rest split few = lines_followed c next first (last_number last)

closes : (extent : Extent) (c : Contents) → text_of_extent extent c ≡ so_far_of extent c ++ closing_text extent (text_end_of c.marked c.tail) (carry_after c)
closes Whole c = text_closes c
closes (Messages first last) c = sym (append-nil (lines_between c first (last_number last)))

text_is : (extent : Extent) (c : Contents) (text : List ℕ) → (printer_of extent).IsText c text → text ≡ text_of_extent extent c
text_is Whole c text is = is
text_is (Messages first last) c text is = is

-- the whole text denotes the file
pub denotes_file : (c : Contents) (text : List ℕ) → text ≡ text_of_extent Whole c → IsWholeText c text
denotes_file c text is = record { is = is; denotes = λ input are split. subst (λ (t : List ℕ). Text t input) (sym is) (disassembly_denotes input c are split) }

-- where the messages suffice, no other file that begins so has another text
same_text : (extent : Extent) (c next : Contents) → (printer_of extent).Suffices c → so_far_of extent c ≡ text_of_extent extent (followed_by c next)
same_text Whole c next suffices = absurd suffices
same_text (Messages first last) c next suffices =
    let number : last_number last ≡ suffices.number = ap last_number suffices.named in
    sym (lines_followed c next first (last_number last)
    ∙ ap (λ (back : List ℕ). lines_between c first (last_number last) ++ back) (no_more_lines next (first - length c.payloads) (last_number last - length c.payloads) (omega (arith, number, suffices.reached)))
    ∙ append-nil (lines_between c first (last_number last)))

module _ (extent now : Extent) (end : TextEnd) (read : Contents) (text : List ℕ) (before : IsPrinted extent now end read text) where
  -- one segment more
  pub printed_more : (then : TextEnd) (segment : Contents) (given more : List ℕ) (count : ℕ) → count ≡ length read.payloads → Splits (carry_after read ++ given) segment → length segment.payloads ≤ 2 ^ 32 - 1
      → more ≡ segment_text now count end segment → then ≡ text_end_after end segment.marked segment.tail → IsPrinted extent now then (followed_by read segment) (text ++ more)
  printed_more then segment given more count counted split few is then_is = record {
    same = before.same;
    end_is = then_is ∙ ap (λ (e : TextEnd). text_end_after e segment.marked segment.tail) before.end_is ∙ end_goes_on read segment given split;
    is = (λ i. before.is i ++ (is ∙ (λ j. segment_text (before.same j) (counted j) (before.end_is j) segment)) i) ∙ sym (adds extent read segment given split few);
  }

  -- the file's end
  pub ends : (more cut : List ℕ) → more ≡ closing_text now end cut → cut ≡ carry_after read → text ++ more ≡ text_of_extent extent read
  ends more cut is carried = (λ i. before.is i ++ (is ∙ (λ j. closing_text (before.same j) (before.end_is j) (carried j))) i) ∙ sym (closes extent read)

  pub begins : (next : Contents) (given whole : List ℕ) → Splits (carry_after read ++ given) next → (printer_of extent).IsText (followed_by read next) whole → IsPrefix text whole
  begins next given whole split right =
      let on = leads extent read next given split in
      prefix_append text on.0 whole (text_is extent (followed_by read next) whole right ∙ on.1 ∙ ap (λ (front : List ℕ). front ++ on.0) (sym before.is))

  pub is_all : (next : Contents) (whole : List ℕ) → (printer_of extent).Suffices read → (printer_of extent).IsText (followed_by read next) whole → text ≡ whole
  is_all next whole suffices right = before.is ∙ same_text extent read next suffices ∙ sym (text_is extent (followed_by read next) whole right)

  -- whether the messages suffice
  pub reaches : (test : Bool) (count : ℕ) → count ≡ length read.payloads → (test ≡ true ↔ ReachesEnd now count) → (test ≡ true ↔ (printer_of extent).Suffices read)
  reaches test count counted by = by_extent extent (subst (λ (e : Extent). test ≡ true ↔ ReachesEnd e count) before.same by)
    where
      by_extent : (extent : Extent) → (test ≡ true ↔ ReachesEnd extent count) → (test ≡ true ↔ (printer_of extent).Suffices read)
      by_extent Whole by = by
      by_extent (Messages first last) by = subst (λ (n : ℕ). test ≡ true ↔ ReachesEnd (Messages first last) n) counted by

pub if_ok : {T E : Type 0} (P Q : T → Type 0) (r : Result T E) → ((x : T) → P x → Q x) → IfOk r P → IfOk r Q
if_ok P Q (Ok x) so p = so x p
if_ok P Q (Err e) so p = tt

-- a run, by how much of a file it writes
pub prints_extent : {R W : Type 0} (made extent : Extent) → made ≡ extent → (now : Extent) (end : TextEnd) (segment : ℕ) (left : R → Option (List ℕ)) (taken : W → Option (List ℕ)) (feed fed : Device R) (sink sent : Device W) (result : Result (Unit {0}) ProgFault)
    → Prints (printer_of made) (IsPrinted made now end) (λ contents text. text ≡ text_of_extent made contents) segment left taken feed fed sink sent result
    → Prints (printer_of extent) (λ contents text. text ≡ so_far_of extent contents) (λ contents text. text ≡ text_of_extent extent contents) segment left taken feed fed sink sent result
prints_extent made extent is now end segment left taken feed fed sink sent result run =
    subst (λ (e : Extent). Prints (printer_of e) (λ contents text. text ≡ so_far_of e contents) (λ contents text. text ≡ text_of_extent e contents) segment left taken feed fed sink sent result) is
    (prints_so (printer_of made) _ _ (λ contents text. text ≡ so_far_of made contents) (λ contents text. text ≡ text_of_extent made contents) segment left taken feed fed sink sent
    (λ contents text suffices printed. printed.is) (λ contents text ended. ended) result run)

-- whether so many messages suffice, by the last one that is wanted
pub some_suffice : (extent : Extent) (first number n messages : ℕ) (last : Option ℕ) → extent ≡ Messages first last → last ≡ Some number → n ≡ number
    → (leb n messages ≡ true → ReachesEnd extent messages) × (ReachesEnd extent messages → leb n messages ≡ true)
some_suffice extent first number n messages last is named same =
    subst (λ (extent : Extent). (leb n messages ≡ true → ReachesEnd extent messages) × (ReachesEnd extent messages → leb n messages ≡ true)) (sym is) (
      λ test. record { number = number; named = named; reached = omega (arith, leb-true n messages test, same) },
      λ reaches.
          let told = sym named ∙ reaches.named in
          let one : number ≡ reaches.number = cc in
          le-leb n messages (omega (arith, same, one, reaches.reached)),
    )

pub none_suffice : (extent : Extent) (first messages : ℕ) (last : Option ℕ) → extent ≡ Messages first last → last ≡ None
    → (false ≡ true → ReachesEnd extent messages) × (ReachesEnd extent messages → false ≡ true)
none_suffice extent first messages last is none =
    subst (λ (extent : Extent). (false ≡ true → ReachesEnd extent messages) × (ReachesEnd extent messages → false ≡ true)) (sym is) (
      λ test. absurd (false≢true test),
      λ reaches.
          let told = sym none ∙ reaches.named in
          absurd cc,
    )

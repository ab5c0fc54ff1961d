-- What is written of a trace, one segment on.
use Rattle.std.proofs.Common.{◌≡◌, ℕ, ◌+◌, ◌<◌, ◌≤◌, ◌&&◌, Bool, true, false, List, [], ◌∷◌, ◌++◌, length, nat_le, refl, sym, ap, ◌∙◌, arith, append_assoc, append-nil}
use Rattle.std.proofs.lemmas.Bool.{false≢true, leb-true}
use Rattle.std.proofs.lemmas.List.Concat.{flat_map-append}
use Rattle.itch_table.specs.declared.outcome.Part.{Part}
use Rattle.itch_table.specs.declared.outcome.Part.TheVariants.{Locate, Nowhere}
use Rattle.itch_table.specs.Parts.{part}
use Rattle.itch_readings.specs.OwnMessages.{OwnMessage}
use Rattle.itch_readings.proofs.LongerDays.{longer}
use Rattle.text_fields.specs.Prefixes.{IsPrefix}
use Rattle.text_fields.proofs.Prefixes.{prefix_append}
use Rattle.itch_trace.specs.Lines.{head_line, is_wanted, lines_of, trace_text, wanted_line}
use Rattle.itch_trace.specs.Made.{AreMade, IsBegun, MadeLines, head_left}
use Rattle.itch_trace.specs.Messages.{message_by, messages_of}
use Rattle.itch_trace.specs.declared.extent.Extent.{Extent}
use Rattle.itch_trace.proofs.MessagesMore.{messages_more}

-- ---- lines of more messages

pub lines-append : (extent : Extent) (xs ys : List OwnMessage) → lines_of extent (xs ++ ys) ≡ lines_of extent xs ++ lines_of extent ys
lines-append extent xs ys = flat_map-append (wanted_line extent) xs ys

-- a message after the last one that is wanted has no line
pub unwanted : (extent : Extent) (m : OwnMessage) (n : ℕ) → m.number ≡ n → extent.last < n → wanted_line extent m ≡ []
unwanted extent m n is late = by (is_wanted extent m.number) refl
  where
    by : (wanted : Bool) → is_wanted extent m.number ≡ wanted → wanted_line extent m ≡ []
    by false off = rw off refl
    by true on = absurd (omega (arith, is, late, leb-true m.number extent.last (and_right (nat_le extent.first m.number) (nat_le m.number extent.last) on)))
      where
        and_right : (a b : Bool) → a && b ≡ true → b ≡ true
        and_right true b both = both
        and_right false b both = absurd (false≢true both)

numbered : (day : List (List ℕ)) (n : ℕ) (p : Part) → (message_by day n p).number ≡ n
numbered day n (Locate locate) = refl
numbered day n (Nowhere fixed) = refl

-- the messages of a day that goes on: none that is wanted after the last one
pub record GoOn (extent : Extent) (day more : List (List ℕ)) : Type 0 where
  pub rest : List OwnMessage
  pub are : messages_of (day ++ more) ≡ messages_of day ++ rest
  pub none : extent.last ≤ length day → lines_of extent rest ≡ []

pub go_on : (extent : Extent) (day more : List (List ℕ)) → GoOn extent day more
go_on extent day [] = record { rest = []; are = ap messages_of (append-nil day) ∙ sym (append-nil (messages_of day)); none = λ last. refl }
go_on extent day (payload ∷ more) =
    let all = day ++ payload ∷ [] in
    let m : OwnMessage = message_by all (length day + 1) (part payload) in
    let on = go_on extent all more in
    record {
      rest = m ∷ on.rest;
      are = ap messages_of (sym (append_assoc day (payload ∷ []) more)) ∙ on.are ∙ ap (λ (l : List OwnMessage). l ++ on.rest) (messages_more day payload)
          ∙ append_assoc (messages_of day) (m ∷ []) on.rest;
      none = λ last. (λ i. unwanted extent m (length day + 1) (numbered all (length day + 1) (part payload)) (omega (arith, last)) i
          ++ on.none (omega (arith, last, longer day payload)) i);
    }

-- ---- what was written

module _ (extent : Extent) (begun : Bool) (sent text : List ℕ) (made : MadeLines) (messages : List OwnMessage)
    (lines : AreMade (record { extent = extent; text = sent }) made messages) (written : IsBegun extent begun sent text) where
  -- with the lines that are made it is the whole trace
  pub written_whole : (more : List ℕ) → more ≡ head_left begun made.extent.depth ++ made.text → text ++ more ≡ trace_text extent messages
  written_whole more is = by begun written is
    where
      head : List ℕ
      head = head_line extent.depth

      by : (begun : Bool) → IsBegun extent begun sent text → more ≡ head_left begun made.extent.depth ++ made.text → text ++ more ≡ trace_text extent messages
      by true written is =
          ap (λ (l : List ℕ). l ++ more) written.is ∙ ap (λ (l : List ℕ). (head_line extent.depth ++ sent) ++ l) is ∙ append_assoc (head_line extent.depth) sent made.text
          ∙ ap (λ (l : List ℕ). head_line extent.depth ++ l) lines.lines
      by false written is =
          ap (λ (l : List ℕ). l ++ more) (written.is ∙ written.none refl) ∙ is ∙ ap (λ (e : Extent). head_line e.depth ++ made.text) lines.same
          ∙ ap (λ (l : List ℕ). head_line extent.depth ++ (l ++ made.text)) (sym (written.none refl)) ∙ ap (λ (l : List ℕ). head_line extent.depth ++ l) lines.lines

  -- and this is what was sent
  pub written_more : (more : List ℕ) → more ≡ head_left begun made.extent.depth ++ made.text → IsBegun extent true (sent ++ made.text) (text ++ more)
  written_more more is = record {
    none = λ e. absurd (false≢true (sym e));
    is = written_whole more is ∙ ap (λ (l : List ℕ). head_line extent.depth ++ l) (sym lines.lines);
  }

  -- it begins the trace of more messages
  pub begins_trace : (rest : List OwnMessage) (whole : List ℕ) → whole ≡ trace_text extent (messages ++ rest) → IsPrefix text whole
  begins_trace rest whole is =
      let more : List ℕ = head_left begun made.extent.depth ++ made.text in
      prefix_append text (more ++ lines_of extent rest) whole
      (is ∙ ap (λ (l : List ℕ). head_line extent.depth ++ l) (lines-append extent messages rest) ∙ sym (append_assoc (head_line extent.depth) (lines_of extent messages) (lines_of extent rest))
      ∙ ap (λ (l : List ℕ). l ++ lines_of extent rest) (sym (written_whole more refl)) ∙ append_assoc text more (lines_of extent rest))

  -- and is all of it where nothing more is made and wanted
  pub is_all : (rest : List OwnMessage) (whole : List ℕ) → begun ≡ true → made.text ≡ [] → lines_of extent rest ≡ [] → whole ≡ trace_text extent (messages ++ rest) → text ≡ whole
  is_all rest whole has_begun all none is =
      sym (append-nil text) ∙ written_whole [] (sym (λ i. head_left (has_begun i) made.extent.depth ++ all i))
      ∙ ap (λ (l : List ℕ). head_line extent.depth ++ l) (sym (append-nil (lines_of extent messages)) ∙ ap (λ (l : List ℕ). lines_of extent messages ++ l) (sym none) ∙ sym (lines-append extent messages rest))
      ∙ sym is

  -- where the lines that were made are sent, none are left
  pub sent_all : AreMade (record { extent = extent; text = sent ++ made.text }) (record { extent = made.extent; text = [] }) messages
  sent_all = record { same = lines.same; lines = append-nil (sent ++ made.text) ∙ lines.lines }

-- How a session goes on by a byte, and where it halts.
use Rattle.std.proofs.Common.{◌≡◌, ◌<◌, ◌≤◌, ◌+◌, ℕ, suc, get_or, Bool, List, [], ◌∷◌, ◌++◌, Option, Some, None, false, refl, sym, ap, subst, ◌∙◌, arith, length, take, drop, append_assoc, append-nil, length-append, inl, inr}
use Rattle.std.specs.Prelude.{Result, Ok, Err, OnOk, IfErr}
use Rattle.std.specs.Io.KnownBytes.{Appends}
use Rattle.std.specs.List.{All, slice_split}
use Rattle.std.proofs.Math.Seq.{take-suc}
use Rattle.std.proofs.KnownBytes.{Appends-trans}
use Rattle.std.proofs.lemmas.Bool.{cases_lt, lt-ltb}
use Rattle.std.proofs.lemmas.List.{length-take-le, take-append-drop, take-append-le, take_all}
use Rattle.std.proofs.lemmas.List.Elements.{All-append, All-cons, All-nil}
use Rattle.std.proofs.lemmas.List.Splits.{slice_split_at, slice_split_none}
use Rattle.debugger.specs.Sessions.{Session}
use Rattle.engine_rules.specs.declared.fault.ProgFault.{ProgFault}
use Rattle.engine_rules.specs.declared.fault.ProgFault.TheVariants.{Memory, Write}
use Rattle.itch_debug.specs.Answering.{Reply, reply_or}
use Rattle.itch_debug.specs.Commands.{command_of}
use Rattle.itch_debug.specs.Sessions.{answers, is_line_feed, replies, reply_of, session_after, start}
use Rattle.itch_debug.specs.Runs.{AnswersGiven, AnswersPart, AnswersWhole, EndsEarly, Halts, IsPrefix, Leads, Stands, Unfinished}

-- ---- lines, one after another

pub replies_more : (lines rest : List (List ℕ)) (s : Option Session) → replies (lines ++ rest) s ≡ replies lines s ++ replies rest (session_after lines s)
replies_more [] rest s = refl
replies_more (line ∷ lines) rest s =
    ap (λ (x : List ℕ). (reply_of s line).text ++ x) (replies_more lines rest (reply_of s line).next)
    ∙ sym (append_assoc (reply_of s line).text (replies lines (reply_of s line).next) (replies rest (session_after lines (reply_of s line).next)))

session_more : (lines rest : List (List ℕ)) (s : Option Session) → session_after (lines ++ rest) s ≡ session_after rest (session_after lines s)
session_more [] rest s = refl
session_more (line ∷ lines) rest s = session_more lines rest (reply_of s line).next

-- ---- what is kept of a line

long_is_none : (line : List ℕ) → 1000 < length line → command_of line ≡ None
unfolding command_of
long_is_none line h = rw (lt-ltb 1000 (length line) h) refl

kept_command : (line : List ℕ) → command_of (take 1001 line) ≡ command_of line
kept_command line = elim (cases_lt 1000 (length line)) [
  | inl long ↦
      let kept : length (take 1001 line) ≡ 1001 = length-take-le 1001 line (omega (arith, long)) in
      long_is_none (take 1001 line) (omega (arith, kept)) ∙ sym (long_is_none line long)
  | inr short ↦ ap command_of (take_all 1001 line (omega (arith, short)))
]

kept_reply : (s : Option Session) (line : List ℕ) → reply_of s (take 1001 line) ≡ reply_of s line
kept_reply None line = refl
kept_reply (Some s) line = ap (reply_or s) (kept_command line)

kept_byte : (line : List ℕ) (byte : ℕ) → length (take 1001 line) < 1001 → take 1001 line ++ byte ∷ [] ≡ take 1001 (line ++ byte ∷ [])
kept_byte line byte short =
    let few : length line < 1001 = elim (cases_lt (length line) 1001) [
      | inl less ↦ less
      | inr not_less ↦ absurd (omega (arith, short, length-take-le 1001 line not_less))
    ] in
    let longer : length (line ++ byte ∷ []) ≡ length line + 1 = length-append line (byte ∷ []) in
    ap (λ (x : List ℕ). x ++ byte ∷ []) (take_all 1001 line (omega (arith, few)))
    ∙ sym (take_all 1001 (line ++ byte ∷ []) (omega (arith, few, longer)))

kept_same : (line : List ℕ) (byte : ℕ) → 1001 ≤ length (take 1001 line) → take 1001 line ≡ take 1001 (line ++ byte ∷ [])
kept_same line byte long =
    let many : 1001 ≤ length line = elim (cases_lt (length line) 1001) [
      | inl less ↦ absurd (omega (arith, less, long, ap length (take_all 1001 line (omega (arith, less)))))
      | inr not_less ↦ not_less
    ] in
    sym (take-append-le 1001 line (byte ∷ []) many)

-- ---- a prefix of the answers

leads_prefix : (day lines : List (List ℕ)) (rest commands : List ℕ) → Leads lines rest commands → IsPrefix day commands (replies lines (start day))
unfolding answers
leads_prefix day lines rest commands leads = λ more. (
  replies (slice_split is_line_feed (rest ++ more)) (session_after lines (start day)),
  ap (λ (x : List (List ℕ)). replies x (start day)) (leads more) ∙ replies_more lines (slice_split is_line_feed (rest ++ more)) (start day),
)

leads_more : (lines : List (List ℕ)) (rest commands extra : List ℕ) → Leads lines rest commands → Leads lines (rest ++ extra) (commands ++ extra)
leads_more lines rest commands extra leads = λ more.
    ap (slice_split is_line_feed) (append_assoc commands extra more) ∙ leads (extra ++ more)
    ∙ ap (λ (x : List ℕ). lines ++ slice_split is_line_feed x) (sym (append_assoc rest extra more))

leads_ended : (lines : List (List ℕ)) (begun commands : List ℕ) → All (λ byte. is_line_feed byte ≡ false) begun → Leads lines begun commands → Leads (lines ++ begun ∷ []) [] (commands ++ 10 ∷ [])
leads_ended lines begun commands is leads = λ more.
    ap (slice_split is_line_feed) (append_assoc commands (10 ∷ []) more) ∙ leads (10 ∷ more)
    ∙ ap (λ (x : List (List ℕ)). lines ++ x) (slice_split_at is_line_feed begun 10 more is refl)
    ∙ sym (append_assoc lines (begun ∷ []) (slice_split is_line_feed more))

prefix_more : (day : List (List ℕ)) (commands extra text : List ℕ) → IsPrefix day commands text → IsPrefix day (commands ++ extra) text
prefix_more day commands extra text prefix = λ more.
    let found = prefix (extra ++ more) in
    (found.0, ap (answers day) (append_assoc commands extra more) ∙ found.1)

whole_more : (day : List (List ℕ)) (before after : Option (List ℕ)) (commands extra : List ℕ) → AnswersWhole day before after commands → AnswersWhole day before after (commands ++ extra)
whole_more day before after commands extra h = record {
  lines = h.lines;
  rest = h.rest ++ extra;
  leads = leads_more h.lines h.rest commands extra h.leads;
  wrote = h.wrote;
  prefix = prefix_more day commands extra (replies h.lines (start day)) h.prefix;
}

part_more : (day : List (List ℕ)) (before after : Option (List ℕ)) (commands extra : List ℕ) → AnswersPart day before after commands → AnswersPart day before after (commands ++ extra)
part_more day before after commands extra h = record {
  text = h.text;
  wrote = h.wrote;
  prefix = prefix_more day commands extra h.text h.prefix;
}

-- a halt at some commands is one at more of them
pub halts_more : (day : List (List ℕ)) (before after : Option (List ℕ)) (commands extra : List ℕ) (fault : ProgFault) → Halts day before after commands fault → Halts day before after (commands ++ extra) fault
halts_more day before after commands extra Memory h = whole_more day before after commands extra h
halts_more day before after commands extra Write h = part_more day before after commands extra h
halts_more day before after commands extra fault h = absurd h

-- ---- a session goes on

ended_text : (day : List (List ℕ)) (before mid : Option (List ℕ)) (commands kept : List ℕ) (session : Option Session) → (h : Stands day before mid commands session kept) → replies (h.lines ++ h.begun ∷ []) (start day) ≡ replies h.lines (start day) ++ (reply_of session kept).text
ended_text day before mid commands kept session h =
    let stood = session_after h.lines (start day) in
    let reply : reply_of session kept ≡ reply_of stood h.begun =
    ap (λ (s : Option Session). reply_of s kept) h.session_is ∙ ap (reply_of stood) h.kept_is ∙ kept_reply stood h.begun in
    replies_more h.lines (h.begun ∷ []) (start day)
    ∙ ap (λ (x : List ℕ). replies h.lines (start day) ++ x) (append-nil (reply_of stood h.begun).text)
    ∙ ap (λ (r : Reply). replies h.lines (start day) ++ r.text) (sym reply)

pub stands_ended : (day : List (List ℕ)) (before mid after : Option (List ℕ)) (commands kept : List ℕ) (session next : Option Session) → Stands day before mid commands session kept → Appends mid after (reply_of session kept).text → next ≡ (reply_of session kept).next → Stands day before after (commands ++ 10 ∷ []) next []
stands_ended day before mid after commands kept session next h sent is =
    let stood = session_after h.lines (start day) in
    let reply : reply_of session kept ≡ reply_of stood h.begun =
    ap (λ (s : Option Session). reply_of s kept) h.session_is ∙ ap (reply_of stood) h.kept_is ∙ kept_reply stood h.begun in
    let text = ended_text day before mid commands kept session h in
    record {
      lines = h.lines ++ h.begun ∷ [];
      begun = [];
      leads = leads_ended h.lines h.begun commands h.begun_is h.leads;
      begun_is = All-nil (λ byte. is_line_feed byte ≡ false);
      wrote = subst (Appends before after) (sym text) (Appends-trans before mid after (replies h.lines (start day)) (reply_of session kept).text h.wrote sent);
      session_is = is ∙ ap (λ (r : Reply). r.next) reply ∙ sym (session_more h.lines (h.begun ∷ []) (start day));
      kept_is = refl;
    }

pub stands_byte : (day : List (List ℕ)) (before after : Option (List ℕ)) (commands kept more : List ℕ) (session : Option Session) (byte : ℕ) → Stands day before after commands session kept → is_line_feed byte ≡ false → (length kept < 1001 → more ≡ kept ++ byte ∷ []) → (1001 ≤ length kept → more ≡ kept) → Stands day before after (commands ++ byte ∷ []) session more
stands_byte day before after commands kept more session byte h other short long = record {
  lines = h.lines;
  begun = h.begun ++ byte ∷ [];
  leads = leads_more h.lines h.begun commands (byte ∷ []) h.leads;
  begun_is = All-append (λ b. is_line_feed b ≡ false) h.begun (byte ∷ []) h.begun_is (All-cons (λ b. is_line_feed b ≡ false) byte [] other (All-nil (λ b. is_line_feed b ≡ false)));
  wrote = h.wrote;
  session_is = h.session_is;
  kept_is = elim (cases_lt (length kept) 1001) [
    | inl less ↦ short less ∙ ap (λ (x : List ℕ). x ++ byte ∷ []) h.kept_is ∙ kept_byte h.begun byte (omega (arith, less, ap length h.kept_is))
    | inr not_less ↦ long not_less ∙ h.kept_is ∙ kept_same h.begun byte (omega (arith, not_less, ap length h.kept_is))
  ];
}

-- ---- a session halts

pub whole_of : (day : List (List ℕ)) (before after : Option (List ℕ)) (commands kept : List ℕ) (session : Option Session) → Stands day before after commands session kept → AnswersWhole day before after commands
whole_of day before after commands kept session h = record {
  lines = h.lines;
  rest = h.begun;
  leads = h.leads;
  wrote = h.wrote;
  prefix = leads_prefix day h.lines h.begun commands h.leads;
}

pub given_of : (day : List (List ℕ)) (before after : Option (List ℕ)) (commands kept : List ℕ) (session : Option Session) (failed : Bool) → Stands day before after commands session kept → AnswersGiven day before after commands failed
unfolding whole_of
given_of day before after commands kept session failed h = (whole_of day before after commands kept session h, λ has_failed. h.begun_is)

prefix_taken : (day : List (List ℕ)) (commands whole text answer : List ℕ) (count : ℕ) → whole ≡ text ++ answer → IsPrefix day commands whole → IsPrefix day commands (text ++ take count answer)
prefix_taken day commands whole text answer count is prefix = λ more.
    let found = prefix more in (
      drop count answer ++ found.0,
      found.1 ∙ ap (λ (x : List ℕ). x ++ found.0) is
          ∙ ap (λ (x : List ℕ). (text ++ x) ++ found.0) (sym (take-append-drop count answer))
          ∙ ap (λ (x : List ℕ). x ++ found.0) (sym (append_assoc text (take count answer) (drop count answer)))
          ∙ append_assoc (text ++ take count answer) (drop count answer) found.0,
    )

nothing_more : (day : List (List ℕ)) (before mid after : Option (List ℕ)) (commands : List ℕ) → AnswersWhole day before mid commands → Appends mid after [] → AnswersWhole day before after commands
nothing_more day before mid after commands h nothing = record {
  lines = h.lines;
  rest = h.rest;
  leads = h.leads;
  wrote = subst (Appends before after) (append-nil (replies h.lines (start day))) (Appends-trans before mid after (replies h.lines (start day)) [] h.wrote nothing);
  prefix = h.prefix;
}

halts_by : (day : List (List ℕ)) (before mid after : Option (List ℕ)) (commands kept : List ℕ) (session : Option Session) (fault : ProgFault) → Stands day before mid commands session kept → Unfinished fault mid after (reply_of session kept).text → Halts day before after (commands ++ 10 ∷ []) fault
halts_by day before mid after commands kept session Memory h nothing =
    whole_more day before after commands (10 ∷ []) (nothing_more day before mid after commands (whole_of day before mid commands kept session h) nothing)
halts_by day before mid after commands kept session Write h part =
    let answer = (reply_of session kept).text in
    let text = replies h.lines (start day) in
    let lines = h.lines ++ h.begun ∷ [] in
    record {
      text = text ++ take part.0 answer;
      wrote = Appends-trans before mid after text (take part.0 answer) h.wrote part.1;
      prefix = prefix_taken day (commands ++ 10 ∷ []) (replies lines (start day)) text answer part.0
          (ended_text day before mid commands kept session h)
          (leads_prefix day lines [] (commands ++ 10 ∷ []) (leads_ended h.lines h.begun commands h.begun_is h.leads));
    }
halts_by day before mid after commands kept session fault h never = absurd never

pub halts_ended : {A : Type 0} (result : Result A ProgFault) (day : List (List ℕ)) (before mid after : Option (List ℕ)) (commands kept : List ℕ) (session : Option Session) → Stands day before mid commands session kept → IfErr result (λ fault. Unfinished fault mid after (reply_of session kept).text) → IfErr result (Halts day before after (commands ++ 10 ∷ []))
halts_ended (Ok x) day before mid after commands kept session h e = tt
halts_ended (Err fault) day before mid after commands kept session h e = halts_by day before mid after commands kept session fault h e

pub halts_memory : {A : Type 0} (result : Result A ProgFault) (day : List (List ℕ)) (before after : Option (List ℕ)) (commands : List ℕ) → IfErr result (λ fault. fault ≡ Memory) → AnswersWhole day before after commands → IfErr result (Halts day before after commands)
halts_memory (Ok x) day before after commands is h = tt
halts_memory (Err fault) day before after commands is h = subst (Halts day before after commands) (sym is) h

pub memory_halts : {A : Type 0} (result : Result A ProgFault) (day : List (List ℕ)) (before after : Option (List ℕ)) (commands kept extra : List ℕ) (session : Option Session) → IfErr result (λ fault. fault ≡ Memory) → Stands day before after commands session kept → IfErr result (Halts day before after (commands ++ extra))
memory_halts result day before after commands kept extra session is h =
    halts_memory result day before after (commands ++ extra) is (whole_more day before after commands extra (whole_of day before after commands kept session h))

pub err_more : {A : Type 0} (result : Result A ProgFault) (day : List (List ℕ)) (before after : Option (List ℕ)) (commands extra : List ℕ) → IfErr result (Halts day before after commands) → IfErr result (Halts day before after (commands ++ extra))
err_more (Ok x) day before after commands extra h = tt
err_more (Err fault) day before after commands extra h = halts_more day before after commands extra fault h

pub err_piece : {A : Type 0} (result : Result A ProgFault) (day : List (List ℕ)) (before after : Option (List ℕ)) (commands piece : List ℕ) (i : ℕ) → i < length piece → IfErr result (Halts day before after ((commands ++ take i piece) ++ get_or piece i 0 ∷ [])) → IfErr result (Halts day before after (commands ++ piece))
err_piece result day before after commands piece i less h =
    let on : i + 1 ≡ suc i = omega arith in
    let first : take i piece ++ get_or piece i 0 ∷ [] ≡ take (i + 1) piece = sym (take-suc piece i 0 less) ∙ ap (λ (n : ℕ). take n piece) (sym on) in
    let all : ((commands ++ take i piece) ++ get_or piece i 0 ∷ []) ++ drop (i + 1) piece ≡ commands ++ piece =
    ap (λ (x : List ℕ). x ++ drop (i + 1) piece) (append_assoc commands (take i piece) (get_or piece i 0 ∷ []) ∙ ap (λ (x : List ℕ). commands ++ x) first)
    ∙ append_assoc commands (take (i + 1) piece) (drop (i + 1) piece)
    ∙ ap (λ (x : List ℕ). commands ++ x) (take-append-drop (i + 1) piece) in
    subst (λ (x : List ℕ). IfErr result (Halts day before after x)) all (err_more result day before after ((commands ++ take i piece) ++ get_or piece i 0 ∷ []) (drop (i + 1) piece) h)

pub more_whole : (day : List (List ℕ)) (before after : Option (List ℕ)) (commands kept extra : List ℕ) (session : Option Session) → Stands day before after commands session kept → AnswersWhole day before after (commands ++ extra)
more_whole day before after commands kept extra session h = whole_more day before after commands extra (whole_of day before after commands kept session h)

-- ---- the end of the commands

answers_all : (day lines : List (List ℕ)) (begun commands : List ℕ) → All (λ byte. is_line_feed byte ≡ false) begun → Leads lines begun commands → answers day commands ≡ replies (lines ++ begun ∷ []) (start day)
unfolding answers
answers_all day lines begun commands is leads =
    ap (λ (x : List ℕ). replies (slice_split is_line_feed x) (start day)) (sym (append-nil commands))
    ∙ ap (λ (x : List (List ℕ)). replies x (start day)) (leads [])
    ∙ ap (λ (x : List ℕ). replies (lines ++ slice_split is_line_feed x) (start day)) (append-nil begun)
    ∙ ap (λ (x : List (List ℕ)). replies (lines ++ x) (start day)) (slice_split_none is_line_feed begun is)

pub all_answered : {A : Type 0} (result : Result A ProgFault) (day : List (List ℕ)) (before mid after : Option (List ℕ)) (commands kept : List ℕ) (session : Option Session) → Stands day before mid commands session kept → OnOk result (Appends mid after (reply_of session kept).text) → OnOk result (Appends before after (answers day commands))
all_answered (Ok x) day before mid after commands kept session h sent =
    let all : answers day commands ≡ replies h.lines (start day) ++ (reply_of session kept).text =
    answers_all day h.lines h.begun commands h.begun_is h.leads ∙ ended_text day before mid commands kept session h in
    subst (Appends before after) (sym all) (Appends-trans before mid after (replies h.lines (start day)) (reply_of session kept).text h.wrote sent)
all_answered (Err fault) day before mid after commands kept session h sent = tt

ends_early : (day : List (List ℕ)) (before mid after : Option (List ℕ)) (commands kept : List ℕ) (session : Option Session) (fault : ProgFault) → Stands day before mid commands session kept → Unfinished fault mid after (reply_of session kept).text → EndsEarly day before after commands fault
ends_early day before mid after commands kept session Memory h nothing =
    nothing_more day before mid after commands (whole_of day before mid commands kept session h) nothing
ends_early day before mid after commands kept session Write h part =
    let answer = (reply_of session kept).text in
    let text = replies h.lines (start day) in (
      text ++ take part.0 answer,
      Appends-trans before mid after text (take part.0 answer) h.wrote part.1,
      (
        drop part.0 answer,
        answers_all day h.lines h.begun commands h.begun_is h.leads ∙ ended_text day before mid commands kept session h
            ∙ ap (λ (x : List ℕ). text ++ x) (sym (take-append-drop part.0 answer))
            ∙ sym (append_assoc text (take part.0 answer) (drop part.0 answer)),
      ),
    )
ends_early day before mid after commands kept session fault h never = absurd never

pub finish_halts : {A : Type 0} (result : Result A ProgFault) (day : List (List ℕ)) (before mid after : Option (List ℕ)) (commands kept : List ℕ) (session : Option Session) → Stands day before mid commands session kept → IfErr result (λ fault. Unfinished fault mid after (reply_of session kept).text) → IfErr result (EndsEarly day before after commands)
finish_halts (Ok x) day before mid after commands kept session h e = tt
finish_halts (Err fault) day before mid after commands kept session h e = ends_early day before mid after commands kept session fault h e

-- How a session is served between a reader and a writer.
use Rattle.std.proofs.Common.{◌≡◌, ◌≢◌, ◌<◌, ◌≤◌, ◌-◌, ℕ, List, [], ◌∷◌, ◌++◌, Option, Some, None, Bool, true, false, refl, sym, ap, subst, ◌∙◌, arith, length, append-nil, length-append, inl, inr}
use Rattle.std.proofs.lemmas.Bool.{false≢true}
use Rattle.std.specs.Prelude.{Result, Ok, Err, OnOk, IfErr, is_none}
use Rattle.std.specs.List.{slice_split}
use Rattle.std.specs.Io.KnownBytes.{Appends, Consumes, IsAtEnd, Keeps}
use Rattle.std.proofs.KnownBytes.{Appends-nil, Consumes-trans}
use Rattle.std.proofs.lemmas.List.Elements.{All-nil}
use Rattle.debugger.specs.Sessions.{Session}
use Rattle.engine_rules.specs.declared.fault.ProgFault.{ProgFault}
use Rattle.engine_rules.specs.declared.fault.ProgFault.TheVariants.{Memory, Read, Write}
use Rattle.itch_debug.specs.Runs.{Answers, AnswersWhole, Cause, ChangesNothing, EndsEarly, Fails, Faults, Halts, Interrupts, Serves, ServesAll, Stands, most_command_bytes}
use Rattle.itch_debug.specs.Sessions.{answers, is_line_feed, replies, start}
use Rattle.itch_debug.proofs.Consoles.{given_of, more_whole, replies_more, whole_of}

kept_consumes : (a b : Option (List ℕ)) → Keeps a b → Consumes a b []
kept_consumes None b h = tt
kept_consumes (Some xs) None h = absurd h
kept_consumes (Some xs) (Some ys) h = sym h

pub serves_more : (day : List (List ℕ)) (unread r s before w v : Option (List ℕ)) (session next : Option Session) (kept begun piece : List ℕ) (left count : ℕ) → (h : Serves day unread r before w session kept left) → Consumes r s piece → length piece ≡ count → count ≤ left → Stands day before v (h.commands ++ piece) next begun → Serves day unread s before v next begun (left - count)
serves_more day unread r s before w v session next kept begun piece left count h gave is within stands = record {
  commands = h.commands ++ piece;
  gave = Consumes-trans unread r s h.commands piece h.gave gave;
  stands = stands;
  counted = omega (arith, length-append h.commands piece, is, within, h.counted);
}

pub read_fails : (day : List (List ℕ)) (unread r s before w : Option (List ℕ)) (session : Option Session) (kept : List ℕ) (left : ℕ) (failed : Bool) → Serves day unread r before w session kept left → Keeps r s → failed ≡ true → Faults day unread s before w failed Read
read_fails day unread r s before w session kept left failed h keeps fails = record {
  commands = h.commands;
  gave = subst (Consumes unread s) (append-nil h.commands) (Consumes-trans unread r s h.commands [] h.gave (kept_consumes r s keeps));
  halts = given_of day before w h.commands kept session failed h.stands;
  cause = inl fails;
}

pub exceeds : (day : List (List ℕ)) (unread r s before w : Option (List ℕ)) (session : Option Session) (kept piece : List ℕ) (left count : ℕ) (failed : Bool) → Serves day unread r before w session kept left → Consumes r s piece → length piece ≡ count → left < count → failed ≡ false → Faults day unread s before w failed Read
exceeds day unread r s before w session kept piece left count failed h gave is more working = record {
  commands = h.commands ++ piece;
  gave = Consumes-trans unread r s h.commands piece h.gave gave;
  halts = (more_whole day before w h.commands kept piece session h.stands, λ has_failed. absurd (false≢true (sym working ∙ has_failed)));
  cause = inr (omega (arith, length-append h.commands piece, is, more, h.counted));
}

interrupts_other : (day : List (List ℕ)) (before after : Option (List ℕ)) (commands : List ℕ) (failed : Bool) (fault : ProgFault) → Halts day before after commands fault → Interrupts day before after commands failed fault
interrupts_other day before after commands failed Read h = absurd h
interrupts_other day before after commands failed fault h = h

cause_other : (fault : ProgFault) (failed : Bool) (count : ℕ) → fault ≢ Read → failed ≡ false → count ≤ most_command_bytes → Cause fault failed count
cause_other Read failed count other working within = absurd (other refl)
cause_other fault failed count other working within = (working, within)

pub piece_fails : {A : Type 0} (result : Result A ProgFault) (day : List (List ℕ)) (unread r s before w v : Option (List ℕ)) (session : Option Session) (kept piece : List ℕ) (left count : ℕ) (failed : Bool) → (h : Serves day unread r before w session kept left) → Consumes r s piece → length piece ≡ count → count ≤ left → failed ≡ false → result ≢ Err Read → IfErr result (Halts day before v (h.commands ++ piece)) → IfErr result (Faults day unread s before v failed)
piece_fails (Ok x) day unread r s before w v session kept piece left count failed h gave is within working other halts = tt
piece_fails {A = A} (Err fault) day unread r s before w v session kept piece left count failed h gave is within working other halts = record {
  commands = h.commands ++ piece;
  gave = Consumes-trans unread r s h.commands piece h.gave gave;
  halts = interrupts_other day before v (h.commands ++ piece) failed fault halts;
  cause = cause_other fault failed (length (h.commands ++ piece)) (λ e. other (ap (λ (f : ProgFault). let x : Result A ProgFault = Err f in x) e)) working (omega (arith, length-append h.commands piece, is, within, h.counted));
}

-- ---- the start

consumes_none : (a : Option (List ℕ)) → Consumes a a []
consumes_none None = tt
consumes_none (Some xs) = refl

stands_first : (day : List (List ℕ)) (before : Option (List ℕ)) (session : Option Session) (kept : List ℕ) → session ≡ start day → kept ≡ [] → Stands day before before [] session kept
stands_first day before session kept is empty = record {
  lines = [];
  begun = [];
  leads = λ more. refl;
  begun_is = All-nil (λ byte. is_line_feed byte ≡ false);
  wrote = Appends-nil before;
  session_is = is;
  kept_is = empty;
}

pub serves_first : (day : List (List ℕ)) (unread before : Option (List ℕ)) (session : Option Session) (kept : List ℕ) → session ≡ start day → kept ≡ [] → Serves day unread unread before before session kept most_command_bytes
serves_first day unread before session kept is empty = record {
  commands = [];
  gave = consumes_none unread;
  stands = stands_first day before session kept is empty;
  counted = refl;
}

whole_first : (day : List (List ℕ)) (before : Option (List ℕ)) → AnswersWhole day before before []
whole_first day before = whole_of day before before [] [] (start day) (stands_first day before (start day) [] refl refl)

pub read_first : (day : List (List ℕ)) (unread before : Option (List ℕ)) (failed : Bool) → failed ≡ true → Fails day unread unread before before failed Read
read_first day unread before failed fails = record {
  commands = [];
  gave = consumes_none unread;
  halts = inl (given_of day before before [] [] (start day) failed (stands_first day before (start day) [] refl refl));
  cause = inl fails;
}

memory_at : (day : List (List ℕ)) (unread before : Option (List ℕ)) (failed : Bool) → failed ≡ false → Fails day unread unread before before failed Memory
memory_at day unread before failed working = record {
  commands = [];
  gave = consumes_none unread;
  halts = inl (whole_first day before);
  cause = (working, omega arith);
}

pub memory_first : {A : Type 0} (result : Result A ProgFault) (day : List (List ℕ)) (unread before : Option (List ℕ)) (failed : Bool) → failed ≡ false → IfErr result (λ fault. fault ≡ Memory) → IfErr result (Fails day unread unread before before failed)
memory_first (Ok x) day unread before failed working is = tt
memory_first (Err fault) day unread before failed working is = subst (Fails day unread unread before before failed) (sym is) (memory_at day unread before failed working)

-- ---- the end

replies_none : (lines : List (List ℕ)) → replies lines None ≡ []
replies_none [] = refl
replies_none (line ∷ lines) = replies_none lines

over_answers : (day : List (List ℕ)) (before after : Option (List ℕ)) (commands kept more : List ℕ) → (h : Stands day before after commands None kept) → answers day (commands ++ more) ≡ replies h.lines (start day)
unfolding answers
over_answers day before after commands kept more h =
    let rest = slice_split is_line_feed (h.begun ++ more) in
    ap (λ (x : List (List ℕ)). replies x (start day)) (h.leads more)
    ∙ replies_more h.lines rest (start day)
    ∙ ap (λ (s : Option Session). replies h.lines (start day) ++ replies rest s) (sym h.session_is)
    ∙ ap (λ (x : List ℕ). replies h.lines (start day) ++ x) (replies_none rest)
    ∙ append-nil (replies h.lines (start day))

over_changes : (day : List (List ℕ)) (before after left : Option (List ℕ)) (commands kept : List ℕ) → Stands day before after commands None kept → ChangesNothing day commands left
over_changes day before after None commands kept h = tt
over_changes day before after (Some more) commands kept h =
    over_answers day before after commands kept more h ∙ sym (over_answers day before after commands kept [] h) ∙ ap (answers day) (append-nil commands)

end_changes : (day : List (List ℕ)) (left : Option (List ℕ)) (commands : List ℕ) → IsAtEnd left → ChangesNothing day commands left
end_changes day None commands h = tt
end_changes day (Some more) commands h = ap (λ (x : List ℕ). answers day (commands ++ x)) h ∙ ap (answers day) (append-nil commands)

none_of : (session : Option Session) → is_none session ≡ true → session ≡ None
none_of None h = refl
none_of (Some s) h = absurd (false≢true h)

pub serves_over : (day : List (List ℕ)) (unread r before w : Option (List ℕ)) (session : Option Session) (kept : List ℕ) (left : ℕ) → is_none session ≡ true → Serves day unread r before w session kept left → ServesAll day unread r before w session kept
serves_over day unread r before w session kept left over h = record {
  commands = h.commands;
  gave = h.gave;
  within = omega (arith, h.counted);
  stands = h.stands;
  all = over_changes day before w r h.commands kept (subst (λ (s : Option Session). Stands day before w h.commands s kept) (none_of session over) h.stands);
}

pub serves_end : (day : List (List ℕ)) (unread r before w : Option (List ℕ)) (session : Option Session) (kept : List ℕ) (left : ℕ) → IsAtEnd r → Serves day unread r before w session kept left → ServesAll day unread r before w session kept
serves_end day unread r before w session kept left ended h = record {
  commands = h.commands;
  gave = h.gave;
  within = omega (arith, h.counted);
  stands = h.stands;
  all = end_changes day r h.commands ended;
}

pub all_served : {A : Type 0} (result : Result A ProgFault) (day : List (List ℕ)) (unread r before w v : Option (List ℕ)) (session : Option Session) (kept : List ℕ) → (h : ServesAll day unread r before w session kept) → OnOk result (Appends before v (answers day h.commands)) → OnOk result (Answers day unread r before v)
all_served (Ok x) day unread r before w v session kept h wrote = record {
  commands = h.commands;
  gave = h.gave;
  within = h.within;
  wrote = wrote;
  all = h.all;
}
all_served (Err fault) day unread r before w v session kept h wrote = tt

pub faults_fail : {A : Type 0} (result : Result A ProgFault) (day : List (List ℕ)) (unread r before w : Option (List ℕ)) (failed : Bool) → IfErr result (Faults day unread r before w failed) → IfErr result (Fails day unread r before w failed)
faults_fail (Ok x) day unread r before w failed h = tt
faults_fail (Err fault) day unread r before w failed h = record {
  commands = h.commands;
  gave = h.gave;
  halts = inl h.halts;
  cause = h.cause;
}

cause_at_end : (day : List (List ℕ)) (before after : Option (List ℕ)) (commands : List ℕ) (fault : ProgFault) (failed : Bool) → failed ≡ false → length commands ≤ most_command_bytes → EndsEarly day before after commands fault → Cause fault failed (length commands)
cause_at_end day before after commands Memory failed working within h = (working, within)
cause_at_end day before after commands Write failed working within h = (working, within)
cause_at_end day before after commands fault failed working within h = absurd h

pub end_fails : {A : Type 0} (result : Result A ProgFault) (day : List (List ℕ)) (unread r before w v : Option (List ℕ)) (session : Option Session) (kept : List ℕ) (failed : Bool) → (h : ServesAll day unread r before w session kept) → failed ≡ false → IfErr result (EndsEarly day before v h.commands) → IfErr result (Fails day unread r before v failed)
end_fails (Ok x) day unread r before w v session kept failed h working early = tt
end_fails (Err fault) day unread r before w v session kept failed h working early = record {
  commands = h.commands;
  gave = h.gave;
  halts = inr (record { early = early; all = h.all });
  cause = cause_at_end day before v h.commands fault failed working h.within early;
}

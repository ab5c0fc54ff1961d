-- How a run ends that answers a question, by the text that was made or the fault by which none was.
use Rattle.std.proofs.Common.{◌≡◌, ◌≢◌, ℕ, ◌+◌, ◌^◌, List, Ok, Err, refl, sym, ap, subst, ◌∙◌, inl, inr}
use Rattle.std.specs.Prelude.{◌⊎◌, Option, Result, IsErrOf, IsOk}
use Rattle.std.proofs.lemmas.Bool.{false≢true}
use Rattle.std.specs.declared.vec.Vec.{Vec}
use Rattle.binaryfile.specs.Devices.{Device, GaveUpTo, HasFailed}
use Rattle.engine_rules.specs.declared.fault.ProgFault.TheVariants.{Memory, Read, TooManyBytes, TooManyMessages, Write, BadHex, Asm}
use Rattle.itch_readings.specs.declared.fault.StockFault.{StockFault}
use Rattle.itch_readings.specs.declared.fault.StockFault.TheVariants.{NoStock, PastEnd, Changed, Engine}
use Rattle.itch_show.specs.Engine.{Ends, Gave, Question, Returns, RunsTwice, SendsMade, Traffic, traffic_of}
use Rattle.itch_show.specs.Parts.{StopsAt}
use Rattle.itch_show.specs.Shown.{GaveParts}

-- a fault that isn't that of a write
ends_refused : (question : Question) (traffic : Traffic) (fault : StockFault) → fault ≢ Engine Write
    → Gave traffic (λ input file. question.Refuses input file fault) → Ends question traffic (Err fault)
ends_refused question traffic NoStock unlike refuses = refuses
ends_refused question traffic PastEnd unlike refuses = refuses
ends_refused question traffic Changed unlike refuses = refuses
ends_refused question traffic (Engine Memory) unlike refuses = refuses
ends_refused question traffic (Engine Read) unlike refuses = refuses
ends_refused question traffic (Engine TooManyBytes) unlike refuses = refuses
ends_refused question traffic (Engine TooManyMessages) unlike refuses = refuses
ends_refused question traffic (Engine BadHex) unlike refuses = refuses
ends_refused question traffic (Engine (Asm line)) unlike refuses = refuses
ends_refused question traffic (Engine Write) unlike refuses = absurd (unlike refl)

fault_in : {T : Type 0} → Result T StockFault → StockFault
fault_in (Ok made) = NoStock
fault_in (Err fault) = fault

-- two results that are one fault
same_fault : {T U : Type 0} (one : Result T StockFault) (other : Result U StockFault) (fault error : StockFault) → one ≡ Err fault → other ≡ Err fault
    → other ≡ Err error → one ≡ Err error
unfolding fault_in
same_fault one other fault error is was told = is ∙ ap Err (ap fault_in (sym was ∙ told))

module _ {A R S W : Type 0} (question : Question) (left : R → Option (List ℕ)) (again : S → Option (List ℕ)) (taken : W → Option (List ℕ))
    (feed fed : Device R) (second seconded : Device S) (sink sent : Device W) where
  -- what is known of a text that was made, or of the fault by which none was
  pub runs : (made : Result (Vec ℕ A) StockFault) (result : Result (Unit {0}) StockFault)
      → GaveParts (left feed.device) (left fed.device) (again second.device) (again seconded.device) (λ input file. Returns question input file made)
      → (IsOk made → StopsAt question.place (2 ^ 20) (left feed.device) (left fed.device))
      → (IsErrOf made (Engine Read) → (HasFailed fed ⊎ HasFailed seconded)) → made ≢ Err (Engine Write)
      → (HasFailed fed → IsErrOf made (Engine Read)) → (HasFailed seconded → (HasFailed second ⊎ IsErrOf made (Engine Read)))
      → (HasFailed feed → fed ≡ feed) → (HasFailed second → seconded ≡ second)
      → GaveUpTo (left feed.device) (left fed.device) (2 ^ 40 + 1) → GaveUpTo (again second.device) (again seconded.device) (2 ^ 40 + 1)
      → SendsMade taken sink sent made result → (HasFailed sink → sent ≡ sink)
      → RunsTwice question left again taken feed fed second seconded sink sent result
  runs (Ok text) (Ok done) answer needed read unlike failed failed_again for_good again_for_good most again_most sends sink_for_good = record {
    ends = record { text = text.items; answers = answer; wrote = sends };
    takes_at_most = most;
    again_at_most = again_most;
    needed = λ _. needed refl;
    read = λ e. let never : ⊥ = cc in absurd never;
    failed = λ f. let none = failed f in let never : ⊥ = cc in absurd never;
    failed_again = λ f. elim (failed_again f) [ inl a ↦ inl a | inr e ↦ let never : ⊥ = cc in absurd never ];
    write = λ e. let never : ⊥ = cc in absurd never;
    nothing_sent = λ error _. absurd (false≢true error);
    feed_for_good = for_good;
    again_for_good = again_for_good;
    sink_for_good = sink_for_good;
  }
  runs (Ok text) (Err fault) answer needed read unlike failed failed_again for_good again_for_good most again_most sends sink_for_good =
      let traffic = traffic_of left again taken feed fed second seconded sink sent in
      record {
        ends = subst (λ (f : StockFault). Ends question traffic (Err f)) (sym sends.0)
            (record { text = text.items; answers = answer; count = sends.2; less = sends.3; wrote = sends.4 });
        takes_at_most = most;
        again_at_most = again_most;
        needed = λ made. absurd (false≢true made);
        read = λ e. let write = sends.0 in let never : ⊥ = cc in absurd never;
        failed = λ f. let none = failed f in let never : ⊥ = cc in absurd never;
        failed_again = λ f. elim (failed_again f) [ inl a ↦ inl a | inr e ↦ let never : ⊥ = cc in absurd never ];
        write = λ e. sends.1;
        nothing_sent = λ _ other. absurd (other (ap Err sends.0));
        feed_for_good = for_good;
        again_for_good = again_for_good;
        sink_for_good = sink_for_good;
      }
  runs (Err fault) (Ok done) answer needed read unlike failed failed_again for_good again_for_good most again_most sends sink_for_good = absurd sends
  runs (Err fault) (Err other) answer needed read unlike failed failed_again for_good again_for_good most again_most sends sink_for_good =
      let traffic = traffic_of left again taken feed fed second seconded sink sent in
      record {
        ends = subst (λ (f : StockFault). Ends question traffic (Err f)) (sym sends.0)
            (ends_refused question traffic fault (λ e. unlike (ap Err e)) answer);
        takes_at_most = most;
        again_at_most = again_most;
        needed = λ made. absurd (false≢true made);
        read = λ e. read (same_fault _ _ fault _ refl (ap Err sends.0) e);
        failed = λ f. same_fault _ _ fault _ (ap Err sends.0) refl (failed f);
        failed_again = λ f. elim (failed_again f) [ inl a ↦ inl a | inr e ↦ inr (same_fault _ _ fault _ (ap Err sends.0) refl e) ];
        write = λ e. absurd (unlike (same_fault _ _ fault _ refl (ap Err sends.0) e));
        nothing_sent = λ _ _. sends.1;
        feed_for_good = for_good;
        again_for_good = again_for_good;
        sink_for_good = sink_for_good;
      }

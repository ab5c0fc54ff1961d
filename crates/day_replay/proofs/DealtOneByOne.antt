-- Messages that are dealt: none, and one more.
use Rattle.std.proofs.Common.{◌≡◌, ℕ, ◌+◌, ◌%◌, ◌<◌, ◌-◌, ◌^◌, List, [], ◌∷◌, ◌++◌, length, get_or, set, cond, All, refl, sym, ap, ◌∙◌, arith, inl, inr, append-nil}
use Rattle.std.proofs.lemmas.Bool.{cases_eq, eq-eqb, ne_eqb}
use Rattle.std.proofs.lemmas.Nat.{mod_below}
use Rattle.std.proofs.lemmas.List.{get_or-set_same, get_or-set_other, length-append}
use Rattle.std.proofs.lemmas.List.Elements.{filter-append}
use Rattle.itch_table.specs.declared.outcome.Outcome.{Outcome}
use Rattle.itch_table.specs.declared.outcome.Part.TheVariants.{Locate, Nowhere}
use Rattle.itch_table.specs.Parts.{part}
use Rattle.day_core.specs.Owners.{is_own}
use Rattle.day_replay.specs.Dealing.{Dealt, IsDealt}
use Rattle.day_replay.specs.Messages.{is_of_batch, numbered_after, of_batch}
use Rattle.day_replay.specs.NoStock.{NoStockFacts, no_stock_of}
use Rattle.day_replay.proofs.NoStockMessages.{fact_stays, passed_few}

pub numbered_after-push : (n : ℕ) (done : List (List ℕ)) (payload : List ℕ) → numbered_after n (done ++ payload ∷ []) ≡ numbered_after n done ++ (n + length done + 1, payload) ∷ []
numbered_after-push n [] payload = let same : n + 1 ≡ n + length {A = List ℕ} [] + 1 = omega arith in ap (λ (k : ℕ). (k, payload) ∷ []) same
numbered_after-push n (p ∷ ps) payload =
    let same : n + 1 + length ps + 1 ≡ n + length (p ∷ ps) + 1 = omega arith in
    ap (λ (l : List (ℕ × List ℕ)). (n + 1, p) ∷ l) (numbered_after-push (n + 1) ps payload ∙ ap (λ (k : ℕ). numbered_after (n + 1) ps ++ (k, payload) ∷ []) same)

pub length-numbered_after : (n : ℕ) (xs : List (List ℕ)) → length (numbered_after n xs) ≡ length xs
length-numbered_after n [] = refl
length-numbered_after n (x ∷ xs) = omega (arith, length-numbered_after (n + 1) xs)

abbrev pub dealt_of : List (List (ℕ × List ℕ)) → NoStockFacts → ℕ → Dealt
dealt_of batches no_stock messages = record { batches = batches; no_stock = no_stock; messages = messages }

-- no message
pub none_dealt : (before : ℕ) (batches : List (List (ℕ × List ℕ))) (no_stock : NoStockFacts) → length batches ≡ 128 → All (λ d. d ≡ []) batches
    → no_stock ≡ no_stock_of [] → before < 2 ^ 32 → IsDealt before [] (dealt_of batches no_stock 0)
none_dealt before batches no_stock long none nothing fits = record {
  few = omega (arith, fits);
  own = λ batch d lt. none batch d (omega (arith, lt, long));
  no_stock_is = nothing;
  messages_are = refl;
}

-- one message more
module _ (before : ℕ) (payloads : List (List ℕ)) (payload : List ℕ) (batches : List (List (ℕ × List ℕ))) (no_stock : NoStockFacts) (messages number : ℕ)
    (dealt : IsDealt before payloads (dealt_of batches no_stock messages)) (number_is : number ≡ before + messages + 1) (room : before + length payloads + 1 < 2 ^ 32) where
  more : numbered_after before (payloads ++ payload ∷ []) ≡ numbered_after before payloads ++ (number, payload) ∷ []
  more =
      let same : before + length payloads + 1 ≡ number = omega (arith, number_is, dealt.messages_are) in
      numbered_after-push before payloads payload ∙ ap (λ (k : ℕ). numbered_after before payloads ++ (k, payload) ∷ []) same

  of_more : (batch : ℕ) → of_batch batch (numbered_after before (payloads ++ payload ∷ [])) ≡ of_batch batch (numbered_after before payloads) ++ cond (is_own 128 batch (part payload)) ((number, payload) ∷ []) []
  of_more batch = ap (of_batch batch) more ∙ filter-append (is_of_batch batch) (numbered_after before payloads) ((number, payload) ∷ [])

  fits : before + length (payloads ++ payload ∷ []) < 2 ^ 32
  fits = omega (arith, room, length-append payloads (payload ∷ []))

  counted : messages + 1 ≡ length (payloads ++ payload ∷ [])
  counted = omega (arith, dealt.messages_are, length-append payloads (payload ∷ []))

  -- of a stock
  pub dealt_own : (locate : ℕ) (x y : List (ℕ × List ℕ)) → part payload ≡ Locate locate → length batches ≡ 128 → x ≡ get_or batches (locate % 128) x → y ≡ x ++ (number, payload) ∷ []
      → IsDealt before (payloads ++ payload ∷ []) (dealt_of (set batches (locate % 128) y) no_stock (messages + 1))
  dealt_own locate x y own long is pushed = record {
    few = fits;
    own = λ batch d lt. own_is batch d lt;
    no_stock_is =
        fact_stays (numbered_after before payloads) number payload locate own no_stock dealt.no_stock_is
        ∙ ap no_stock_of (sym more);
    messages_are = counted;
  }
    where
      own_is : (batch : ℕ) (d : List (ℕ × List ℕ)) → batch < 128 → get_or (set batches (locate % 128) y) batch d ≡ of_batch batch (numbered_after before (payloads ++ payload ∷ []))
      own_is batch d lt =
          let i = locate % 128 in
          let below : i < 128 = mod_below locate 128 (omega arith) in
          rw (of_more batch, own) (elim (cases_eq i batch) [
            | inl same ↦
                rw (eq-eqb i batch same) (
                ap (λ (k : ℕ). get_or (set batches i y) k d) (sym same)
                ∙ get_or-set_same batches i y d (omega (arith, below, long)) ∙ pushed
                ∙ ap (λ (l : List (ℕ × List ℕ)). l ++ (number, payload) ∷ []) (is ∙ ap (λ (k : ℕ). get_or batches k x) same ∙ dealt.own batch x lt))
            | inr differ ↦
                rw (ne_eqb i batch differ) (
                get_or-set_other batches i batch y d (λ e. differ (sym e)) ∙ dealt.own batch d lt ∙ sym (append-nil (of_batch batch (numbered_after before payloads))))
          ])

  -- of no stock
  pub dealt_nowhere : (outcome : Outcome) (now : NoStockFacts) → part payload ≡ Nowhere outcome
      → ((known : List (ℕ × List ℕ)) → no_stock ≡ no_stock_of known → now ≡ no_stock_of (known ++ (number, payload) ∷ []))
      → IsDealt before (payloads ++ payload ∷ []) (dealt_of batches now (messages + 1))
  dealt_nowhere outcome now none noted = record {
    few = fits;
    own = λ batch d lt. dealt.own batch d lt ∙ sym (rw (of_more batch, none) (append-nil (of_batch batch (numbered_after before payloads))));
    no_stock_is = noted (numbered_after before payloads) dealt.no_stock_is ∙ ap no_stock_of (sym more);
    messages_are = counted;
  }

  pub passed_below : no_stock.passed < 2 ^ 32 - 1
  passed_below = omega (arith, passed_few (numbered_after before payloads) no_stock dealt.no_stock_is, length-numbered_after before payloads, room)

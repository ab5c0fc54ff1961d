-- A replay that goes on after a segment.
use Rattle.std.proofs.Common.{◌≡◌, ℕ, ◌+◌, ◌<◌, ◌≤◌, ◌^◌, List, [], ◌∷◌, ◌++◌, length, get_or, sym, ap, subst, ◌∙◌, arith}
use Rattle.std.proofs.lemmas.List.{length-append}
use Rattle.std.proofs.lemmas.List.Elements.{filter-append, filter_passes}
use Rattle.day_replay.specs.Batches.{AreOwn, BatchState, Does, HasDone, MayDo}
use Rattle.day_replay.specs.Dealing.{Dealt, IsDealt}
use Rattle.day_replay.specs.Messages.{is_of_batch, numbered_after, of_batch}
use Rattle.day_replay.specs.NoStock.{NoStockFacts, no_stock_of}
use Rattle.day_replay.specs.Replays.{HasReplayed, ReplayState}
use Rattle.day_replay.proofs.BatchSteps.{filter_few}
use Rattle.day_replay.proofs.DealtOneByOne.{length-numbered_after}
use Rattle.day_replay.proofs.NoStockMessages.{passed_few}

numbered_after-append : (n : ℕ) (xs ys : List (List ℕ)) → numbered_after n (xs ++ ys) ≡ numbered_after n xs ++ numbered_after (n + length xs) ys
numbered_after-append n [] ys = let same : n ≡ n + length {A = List ℕ} [] = omega arith in ap (λ (k : ℕ). numbered_after k ys) same
numbered_after-append n (x ∷ xs) ys =
    let same : n + 1 + length xs ≡ n + length (x ∷ xs) = omega arith in
    ap (λ (l : List (ℕ × List ℕ)). (n + 1, x) ∷ l) (numbered_after-append (n + 1) xs ys ∙ ap (λ (k : ℕ). numbered_after (n + 1) xs ++ numbered_after k ys) same)

pub numbers_follow : (day payloads : List (List ℕ)) → numbered_after 0 (day ++ payloads) ≡ numbered_after 0 day ++ numbered_after (length day) payloads
numbers_follow day payloads =
    let same : 0 + length day ≡ length day = omega arith in
    numbered_after-append 0 day payloads ∙ ap (λ (k : ℕ). numbered_after 0 day ++ numbered_after k payloads) same

few : (batch n : ℕ) (xs : List (List ℕ)) → length (of_batch batch (numbered_after n xs)) ≤ length xs
few batch n xs = omega (arith, filter_few (is_of_batch batch) (numbered_after n xs), length-numbered_after n xs)

abbrev pub state_of : List BatchState → NoStockFacts → ℕ → ReplayState
state_of batches no_stock messages = record { batches = batches; no_stock = no_stock; messages = messages }

module _ (day payloads : List (List ℕ)) (old new : List BatchState) (no_stock : NoStockFacts) (messages : ℕ) (dealt : Dealt)
    (has : HasReplayed day (state_of old no_stock messages)) (is : IsDealt (length day) payloads dealt) where
  own_all : (k : ℕ) (d : List (ℕ × List ℕ)) → k < 128 → AreOwn k (get_or dealt.batches k d)
  own_all k d lt = subst (AreOwn k) (sym (is.own k d lt)) (filter_passes (is_of_batch k) (numbered_after (length day) payloads))

  pub may_do : (k : ℕ) (d : List (ℕ × List ℕ)) (b : BatchState) → k < 128 → MayDo (get_or dealt.batches k d) (get_or old k b)
  may_do k d b lt = record {
    batch = k;
    before = of_batch k (numbered_after 0 day);
    done = has.batches_are k b lt;
    own = own_all k d lt;
    few = omega (arith, is.few, few k 0 day, ap length (is.own k d lt), few k (length day) payloads);
  }

  of_more : (batch : ℕ) → of_batch batch (numbered_after 0 (day ++ payloads)) ≡ of_batch batch (numbered_after 0 day) ++ of_batch batch (numbered_after (length day) payloads)
  of_more batch = ap (of_batch batch) (numbers_follow day payloads) ∙ filter-append (is_of_batch batch) (numbered_after 0 day) (numbered_after (length day) payloads)

  pub passed_fit : no_stock.passed + dealt.no_stock.passed < 2 ^ 32
  passed_fit =
      let before = passed_few (numbered_after 0 day) no_stock has.no_stock_is in
      let further = passed_few (numbered_after (length day) payloads) dealt.no_stock is.no_stock_is in
      omega (arith, is.few, before, further, length-numbered_after 0 day, length-numbered_after (length day) payloads)

  pub gone_on : (now : NoStockFacts) (count : ℕ)
      → ((k : ℕ) (d : List (ℕ × List ℕ)) (b : BatchState) → k < 128 → Does (get_or dealt.batches k d) (get_or old k b) (get_or new k b))
      → ((known further : List (ℕ × List ℕ)) → no_stock ≡ no_stock_of known → dealt.no_stock ≡ no_stock_of further → now ≡ no_stock_of (known ++ further))
      → count ≡ messages + dealt.messages
      → HasReplayed (day ++ payloads) (state_of new now count)
  gone_on now count does appends counts = record {
    batches_are = λ batch b lt.
        subst (λ (ms : List (ℕ × List ℕ)). HasDone batch ms (get_or new batch b))
        (ap (λ (ms : List (ℕ × List ℕ)). of_batch batch (numbered_after 0 day) ++ ms) (is.own batch [] lt) ∙ sym (of_more batch))
        (does batch [] b lt batch (of_batch batch (numbered_after 0 day)) (has.batches_are batch b lt) (own_all batch [] lt));
    no_stock_is =
        appends (numbered_after 0 day) (numbered_after (length day) payloads) has.no_stock_is is.no_stock_is
        ∙ ap no_stock_of (sym (numbers_follow day payloads));
    messages_are = omega (arith, counts, has.messages_are, is.messages_are, length-append day payloads);
  }

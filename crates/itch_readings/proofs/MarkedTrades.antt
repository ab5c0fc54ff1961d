-- Trades that are marked from the last one on.
use Rattle.std.proofs.Common.{◌≡◌, ℕ, ◌+◌, ◌-◌, ◌<◌, ◌≤◌, ◌==◌, ◌&&◌, cond, List, [], ◌∷◌, ◌++◌, Option, Some, drop, get_or, length, set, take, refl, sym, ap, subst, ◌∙◌, arith}
use Rattle.std.specs.BTreeMap.{BTreeMap, is_at}
use Rattle.std.specs.List.{cons_option, filter_map, flat_map}
use Rattle.std.proofs.lemmas.Bool.Decides.{nat_tests}
use Rattle.std.proofs.lemmas.List.Elements.{filter_map-append}
use Rattle.std.proofs.lemmas.List.{drop-set, drop_all, drop_more, get_or-take, take-set, take-take}
use Rattle.itch_readings.specs.BrokenTrades.{AreFirstBreaks, match_cmp, number_at}
use Rattle.itch_readings.specs.OwnMessages.{OwnMessage}
use Rattle.itch_readings.specs.TradeLines.{event_line, lines_text, trade_line}
use Rattle.itch_readings.specs.Trades.{event_of, events_of, trade_in, trades_of, with_break, with_breaks}
use Rattle.itch_readings.specs.declared.broken_trades.MatchKey.{MatchKey}
use Rattle.itch_readings.specs.declared.trades.TradeBreak.{TradeBreak}
use Rattle.itch_readings.specs.declared.trades.TradeEvent.{TradeEvent}
use Rattle.itch_readings.specs.declared.trades.TradeEvent.TheVariants.{Broke, Made}

-- keys are at one place where both parts are equal
pub same_key : (a b : MatchKey) → is_at (match_cmp a) b ≡ ((b.locate == a.locate) && (b.match_no == a.match_no))
same_key a b = grind (arith, nat_tests)

pub one_break_more : (later : List TradeEvent) (b : TradeBreak) (old new : BTreeMap MatchKey ℕ) → AreFirstBreaks later old
    → ((key : MatchKey) → number_at new key.locate key.match_no
    ≡ cond (is_at (match_cmp (record { locate = b.at.locate; match_no = b.match_no })) key) (Some b.at.message) (number_at old key.locate key.match_no))
    → AreFirstBreaks (Broke b ∷ later) new
one_break_more later b old new before puts locate match_no =
    let key : MatchKey = record { locate = locate; match_no = match_no } in
    puts key
    ∙ (λ i. cond (same_key (record { locate = b.at.locate; match_no = b.match_no }) key i) (Some b.at.message) (before locate match_no i))

-- the event before those that are marked is marked
pub record IsMarked (old events : List TradeEvent) (index : ℕ) (numbers : BTreeMap MatchKey ℕ) : Type 0 where
  pub left : take index events ≡ take index old
  pub marked : drop index events ≡ with_breaks (drop index old)
  pub breaks : AreFirstBreaks (drop index old) numbers

pub mark_none : (events : List TradeEvent) (numbers : BTreeMap MatchKey ℕ) → AreFirstBreaks [] numbers → IsMarked events events (length events) numbers
mark_none events numbers none =
    let past : length events ≤ length events = omega arith in
    let all : drop (length events) events ≡ [] = drop_all (length events) events past in
    record {
      left = refl;
      marked = all ∙ ap with_breaks (sym all);
      breaks = subst (λ (later : List TradeEvent). AreFirstBreaks later numbers) (sym all) none;
    }

pub mark_all : (old events : List TradeEvent) (index : ℕ) (numbers : BTreeMap MatchKey ℕ) → index ≡ 0 → IsMarked old events index numbers → events ≡ with_breaks old
mark_all old events index numbers none is =
    ap (λ (k : ℕ). drop k events) (sym none) ∙ is.marked ∙ ap (λ (k : ℕ). with_breaks (drop k old)) none

pub mark_next : (old events : List TradeEvent) (index : ℕ) (numbers new : BTreeMap MatchKey ℕ) (d event : TradeEvent) → 0 < index → index ≤ length events → length events ≡ length old
    → IsMarked old events index numbers
    → (event ≡ with_break (get_or events (index - 1) d) (drop index old)) × AreFirstBreaks (get_or events (index - 1) d ∷ drop index old) new
    → IsMarked old (set events (index - 1) event) (index - 1) new
mark_next old events index numbers new d event some within long before took =
    let up : index - 1 + 1 ≡ index = omega (arith, some) in
    let below : index - 1 < index = omega (arith, some) in
    let less : index - 1 ≤ index = omega arith in
    let same : get_or events (index - 1) d ≡ get_or old (index - 1) d =
    sym (get_or-take index events (index - 1) d below) ∙ ap (λ (l : List TradeEvent). get_or l (index - 1) d) before.left ∙ get_or-take index old (index - 1) d below in
    let here : drop (index - 1) old ≡ get_or events (index - 1) d ∷ drop index old =
    drop_more old (index - 1) d (omega (arith, some, within, long)) ∙ (λ i. sym same i ∷ drop (up i) old) in
    record {
      left = take-set events (index - 1) event ∙ sym (take-take (index - 1) index events less) ∙ ap (take (index - 1)) before.left ∙ take-take (index - 1) index old less;
      marked = drop-set events (index - 1) event (omega (arith, some, within))
          ∙ (λ i. took.0 i ∷ (ap (λ (k : ℕ). drop k events) up ∙ before.marked) i) ∙ ap with_breaks (sym here);
      breaks = subst (λ (later : List TradeEvent). AreFirstBreaks later new) (sym here) took.1;
    }

-- the text of the trades among events
abbrev pub events_text : List TradeEvent → List ℕ
events_text events = lines_text (trades_of events)

-- the lines of events are those of their trades
pub lines_same : (events : List TradeEvent) → flat_map event_line events ≡ flat_map trade_line (filter_map trade_in events)
lines_same [] = refl
lines_same (Made trade ∷ later) = ap (λ (l : List ℕ). trade_line trade ++ l) (lines_same later)
lines_same (Broke b ∷ later) = lines_same later

-- one message more
pub one_message_more : (events : List TradeEvent) (messages : List OwnMessage) (message : OwnMessage) (found : Option TradeEvent) → events ≡ events_of messages → found ≡ event_of message
    → events ++ cons_option found [] ≡ events_of (messages ++ message ∷ [])
one_message_more events messages message found are is =
    (λ i. are i ++ cons_option (is i) []) ∙ sym (filter_map-append event_of messages (message ∷ []))

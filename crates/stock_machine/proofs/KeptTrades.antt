-- What is kept beside a stock's trades, after a trade is added or broken.
use Rattle.std.proofs.Common.{◌≡◌, ℕ, ◌+◌, ◌*◌, ◌<◌, ◌&&◌, not, List, set, get_or, length, cond, Bool, true, false, refl, ap, sym, ◌∙◌, arith}
use Rattle.std.specs.List.{All, sum_by}
use Rattle.std.proofs.lemmas.Bool.{cases_eq}
use Rattle.std.proofs.lemmas.List.{get_or_default, get_or-set_same, get_or-set_other, length-set}
use Rattle.std.proofs.lemmas.List.Elements.{All-weaker}
use Rattle.std.proofs.lemmas.List.Sums.{sum_by-set}
use mathlib.Core.Logic.{⊎_elim}
use Rattle.itch_table.specs.RunningTotals.{Within, plus_trade}
use Rattle.itch_table.specs.Trades.{is_printed, is_unprinted, totals_of}
use Rattle.itch_table.specs.declared.status.Totals.{Totals}
use Rattle.itch_table.specs.declared.trades.TradeRow.{TradeRow}
use Rattle.stock_machine.specs.StockTrades.{TotalsAreKept, IsOther, IsRising, broken_trade, is_unbroken_trade}

-- ---- trades with another match number

other_unbroken : (m : ℕ) (t : TradeRow) → IsOther m t → is_unbroken_trade m t ≡ false
other_unbroken m t other = ap (λ b. b && not t.broken) other

pub others_unbroken : (m : ℕ) (ts : List TradeRow) → All (IsOther m) ts → All (λ t. is_unbroken_trade m t ≡ false) ts
others_unbroken m = All-weaker (IsOther m) (λ t. is_unbroken_trade m t ≡ false) (other_unbroken m)

pub others_stay : (m : ℕ) (ts : List TradeRow) → All (IsOther m) ts → All (λ t. broken_trade m t ≡ t) ts
others_stay m = All-weaker (IsOther m) (λ t. broken_trade m t ≡ t) (λ t other. ap (λ b. cond b (record t { broken = true }) t) (other_unbroken m t other))

-- ---- a broken trade

none_of : (b : Bool) → b && false ≡ false
none_of true = refl
none_of false = refl

-- the totals before are those after with the trade that was broken
totals_broken : (ts : List TradeRow) (i : ℕ) (t : TradeRow) → i < length ts → get_or ts i t ≡ t → plus_trade (totals_of (set ts i (record t { broken = true }))) t ≡ totals_of ts
totals_broken ts i t lt at = λ j. record {
  trades = one (λ (t : TradeRow). cond (is_printed t) 1 0) (ap (λ b. cond b 1 0) (none_of t.printed)) j;
  shares = one (λ (t : TradeRow). cond (is_printed t) t.shares 0) (ap (λ b. cond b t.shares 0) (none_of t.printed)) j;
  notional = one (λ (t : TradeRow). cond (is_printed t) (t.shares * t.price) 0) (ap (λ b. cond b (t.shares * t.price) 0) (none_of t.printed)) j;
  unprinted = one (λ (t : TradeRow). cond (is_unprinted t) t.shares 0) (ap (λ b. cond b t.shares 0) (none_of (not t.printed))) j;
}
  where
    one : (f : TradeRow → ℕ) → f (record t { broken = true }) ≡ 0 → sum_by f (set ts i (record t { broken = true })) + f t ≡ sum_by f ts
    one f none =
        let sums = sum_by-set f ts i (record t { broken = true }) t lt in
        let here = ap f at in
        omega arith

-- totals are the same where they are with a trade more
same_totals : (a b : Totals) (t : TradeRow) → plus_trade a t ≡ plus_trade b t → a ≡ b
same_totals a b t e = λ i. record {
  trades = trades i;
  shares = shares i;
  notional = notional i;
  unprinted = unprinted i;
}
  where
    trades : a.trades ≡ b.trades
    trades = omega (arith, ap (λ (s : Totals). s.trades) e)

    shares : a.shares ≡ b.shares
    shares = omega (arith, ap (λ (s : Totals). s.shares) e)

    notional : a.notional ≡ b.notional
    notional = omega (arith, ap (λ (s : Totals). s.notional) e)

    unprinted : a.unprinted ≡ b.unprinted
    unprinted = omega (arith, ap (λ (s : Totals). s.unprinted) e)

-- totals of a trade less are within the same bounds
within_less : (totals less : Totals) (t : TradeRow) (count : ℕ) → plus_trade less t ≡ totals → Within totals count → Within less count
within_less totals less t count e w = record {
  trades = omega (arith, w.trades, ap (λ (s : Totals). s.trades) e);
  shares = omega (arith, w.shares, ap (λ (s : Totals). s.shares) e);
  notional = omega (arith, w.notional, ap (λ (s : Totals). s.notional) e);
  unprinted = omega (arith, w.unprinted, ap (λ (s : Totals). s.unprinted) e);
}

-- ---- match numbers that never fall

rises_same : (ts us : List TradeRow) (rising : Bool) → length us ≡ length ts → ((k : ℕ) (d : TradeRow) → k < length ts → (get_or us k d).match_no ≡ (get_or ts k d).match_no) → IsRising ts rising → IsRising us rising
rises_same ts us rising long same h on i j d le lt = omega (arith, h on i j d le (omega arith), same i d (omega arith), same j d (omega arith))

-- ---- all that is kept

module _ (ts : List TradeRow) (totals : Totals) (rising : Bool) (kept : TotalsAreKept ts totals rising) where
  module _ (i : ℕ) (t : TradeRow) (lt : i < length ts) (at : get_or ts i t ≡ t) where
    left : plus_trade (totals_of (set ts i (record t { broken = true }))) t ≡ totals
    left = totals_broken ts i t lt at ∙ sym kept.sums

    number : (k : ℕ) (e : TradeRow) → k < length ts → (get_or (set ts i (record t { broken = true })) k e).match_no ≡ (get_or ts k e).match_no
    number k e _ = ⊎_elim
        (λ same.
        ap (λ n. (get_or (set ts i (record t { broken = true })) n e).match_no) same
        ∙ ap (λ (t : TradeRow). t.match_no) (get_or-set_same ts i (record t { broken = true }) e lt)
        ∙ ap (λ (t : TradeRow). t.match_no) (sym at ∙ get_or_default ts i t e lt)
        ∙ ap (λ n. (get_or ts n e).match_no) (sym same))
        (λ other. ap (λ (t : TradeRow). t.match_no) (get_or-set_other ts i k (record t { broken = true }) e other))
        (cases_eq k i)

    pub kept_broken : (less : Totals) → plus_trade less t ≡ totals → TotalsAreKept (set ts i (record t { broken = true })) less rising
    kept_broken less e =
        let long = length-set ts i (record t { broken = true }) in
        record {
          sums = same_totals less _ t (e ∙ sym left);
          within = rw long (within_less totals less t (length ts) e kept.within);
          rises = rises_same ts _ rising long number kept.rises;
        }

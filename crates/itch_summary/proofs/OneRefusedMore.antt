-- How many messages of each stock were refused: none, and one refused message more.
use Rattle.std.proofs.Common.{◌≡◌, ℕ, ◌+◌, ◌<◌, ◌≤◌, List, [], length, get_or, set, take, replicate, Some, None, refl, ap, sym, ◌∙◌, arith, inl, inr}
use Rattle.std.proofs.lemmas.Bool.{cases_eq, eq-eqb, ne_eqb}
use Rattle.std.proofs.lemmas.List.{get_or-replicate, get_or-set_other, get_or-set_same, length-replicate, length-set, length-take-le}
use Rattle.std.proofs.lemmas.List.Sums.{count_by-le-length, count_by_more_no, count_by_more_yes}
use Rattle.day_replay.specs.declared.refusals.RefusedMessage.{RefusedMessage}
use Rattle.day_replay.specs.Summaries.{count_of_stock, is_stock}
use Rattle.itch_summary.specs.RefusedCounts.{AreCounts}

pub none_counted : (counts : List ℕ) → counts ≡ replicate 0x1_0000 0 → AreCounts [] counts
none_counted counts none = record {
  long = ap length none ∙ length-replicate {A = ℕ} 0x1_0000 0;
  each = λ locate d low. ap (λ (l : List ℕ). get_or l locate d) none ∙ get_or-replicate 0x1_0000 locate 0 d low;
}

module _ (refused : List RefusedMessage) (i : ℕ) (d : RefusedMessage) (within : i < length refused) (counts : List ℕ) (before : AreCounts (take i refused) counts) where
  -- a message of no stock
  pub none_more : (get_or refused i d).locate ≡ None → AreCounts (take (i + 1) refused) counts
  none_more is = record {
    long = before.long;
    each = λ code e low.
        before.each code e low
        ∙ sym (count_by_more_no (λ (r : RefusedMessage). is_stock code r.locate) refused i d within (ap (is_stock code) is));
  }

  -- a message of a stock
  module _ (locate count : ℕ) (is : (get_or refused i d).locate ≡ Some locate) (fits : locate < 0x1_0000) (read : count ≡ get_or counts locate count) where
    counted : count ≡ count_of_stock (take i refused) locate
    counted = read ∙ before.each locate count fits

    pub counted_few : count ≤ i
    counted_few = omega (
      arith,
      counted,
      count_by-le-length (λ (r : RefusedMessage). is_stock locate r.locate) (take i refused),
      length-take-le i refused (omega (arith, within)),
    )

    pub one_more : AreCounts (take (i + 1) refused) (set counts locate (count + 1))
    one_more = record {
      long = length-set counts locate (count + 1) ∙ before.long;
      each = λ code e low. elim (cases_eq code locate) [
        | inl same ↦
            ap (λ (c : ℕ). get_or (set counts locate (count + 1)) c e) same
            ∙ get_or-set_same counts locate (count + 1) e (omega (arith, fits, before.long))
            ∙ ap (λ (n : ℕ). n + 1) counted
            ∙ sym (count_by_more_yes (λ (r : RefusedMessage). is_stock locate r.locate) refused i d within (ap (is_stock locate) is ∙ eq-eqb locate locate refl))
            ∙ ap (count_of_stock (take (i + 1) refused)) (sym same)
        | inr differ ↦
            get_or-set_other counts locate code (count + 1) e differ
            ∙ before.each code e low
            ∙ sym (count_by_more_no (λ (r : RefusedMessage). is_stock code r.locate) refused i d within (ap (is_stock code) is ∙ ne_eqb locate code (λ e. differ (sym e))))
      ];
    }

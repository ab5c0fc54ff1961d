-- A stock's best bid and ask through a day, and the words that show them.
use Rattle.std.proofs.Common.{◌≡◌, ◌+◌, ◌*◌, ◌^◌, ◌<◌, ◌≤◌, ℕ, List, [], ◌∷◌, length, refl, sym, ap, ◌∙◌, arith}
use Rattle.std.specs.Ordering.{nat_cmp}
use Rattle.std.specs.FinMap.{empty, entries, len-entries, len-empty}
use Rattle.std.specs.declared.cmp.Ordering.{Ordering}
use Rattle.std.proofs.lemmas.List.{nil_from_length}
use Rattle.itch_table.specs.declared.order.OrderRow.{OrderRow}
use Rattle.itch_table.specs.After.{after}
use Rattle.itch_table.specs.Levels.{top}
use Rattle.itch_table.specs.Projection.{only}
use Rattle.itch_table.specs.Shows.{top_after, no_top, words_of, Shows, HasOneRow, TopsStandStill, WordsDiffer}
use Rattle.itch_table.specs.World.{World, key_cmp, orders_of}
use Rattle.itch_table.proofs.Days.{after-none}
use Rattle.itch_table.proofs.OneStock.{orders_of-only}
use Rattle.itch_table.proofs.StockDays.{rows_stand_still}

-- ---- tops

nothing : {K X : Type 0} (R : K → K → Ordering) → entries (empty {X = X} {R = R}) ≡ []
nothing {X = X} R = nil_from_length _ (sym (len-entries (empty {X = X} {R = R})) ∙ len-empty R X)

top-none : top [] ≡ no_top
top-none = rw (nothing {X = ℕ} nat_cmp)

pub top_after-none : (day : List (List ℕ)) (locate : ℕ) → top_after day locate 0 ≡ no_top
unfolding top_after
top_after-none day locate = rw (after-none day, nothing {X = OrderRow} key_cmp) top-none

-- a stock's top is that of its rows alone
pub top_after-only : (day : List (List ℕ)) (locate n : ℕ) → top_after day locate n ≡ top (orders_of (only locate (after day n)) locate)
unfolding top_after
top_after-only day locate n = ap top (sym (orders_of-only (after day n) locate))

pub tops_stand_still : TopsStandStill
tops_stand_still day locate from to le none =
    top_after-only day locate to ∙ ap (λ (w : World). top (orders_of w locate)) (rows_stand_still day locate from to le none)
    ∙ sym (top_after-only day locate from)

-- ---- words

pub has_one_row : (day : List (List ℕ)) (locate n : ℕ) → n ≤ length day → HasOneRow day locate n
has_one_row day locate n le = (words_of n (top_after day locate n), (le, refl), λ other shows. shows.1)

pub four_words : (day : List (List ℕ)) (locate n : ℕ) (words : List ℕ) → Shows day locate n words → length words ≡ 4
four_words day locate n words shows = ap length shows.1

pub zeros_at_first : (day : List (List ℕ)) (locate : ℕ) → Shows day locate 0 (0 ∷ 0 ∷ 0 ∷ 0 ∷ [])
zeros_at_first day locate = (omega arith, sym (ap (words_of 0) (top_after-none day locate)))

-- two numbers in one, the second below a bound
two_in_one : (a b c d : ℕ) → b < 2 ^ 32 → d < 2 ^ 32 → a * 2 ^ 32 + b ≡ c * 2 ^ 32 + d → (a ≡ c) × (b ≡ d)
two_in_one a b c d p q e = (omega (arith, p, q, e), omega (arith, p, q, e))

pub words_differ : WordsDiffer
words_differ n m best other p q e =
    let prices : best.bid_price * 2 ^ 32 + best.ask_price ≡ other.bid_price * 2 ^ 32 + other.ask_price = cc in
    let two = two_in_one best.bid_price best.ask_price other.bid_price other.ask_price p q prices in
    let bid : best.bid_price ≡ other.bid_price = two.0 in
    let ask : best.ask_price ≡ other.ask_price = two.1 in
    let bid_shares : best.bid_shares ≡ other.bid_shares = cc in
    let ask_shares : best.ask_shares ≡ other.ask_shares = cc in
    (cc, λ i. record { bid_price = bid i; bid_shares = bid_shares i; ask_price = ask i; ask_shares = ask_shares i })

pub ruleset one_row = (has_one_row, four_words, words_differ, zeros_at_first, tops_stand_still)

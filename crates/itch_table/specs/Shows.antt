-- A stock's best bid and ask through a day, as words that a screen reads, and the stocks of a day. All is of this
-- project.
use Rattle.std.specs.Prelude.{◌≡◌, ◌+◌, ◌*◌, ◌^◌, ◌<◌, ◌≤◌, ℕ, List, [], ◌∷◌, length, filter}
use Rattle.std.specs.List.{range_with_len, list_any}
use Rattle.itch_table.specs.declared.order.Top.{Top}
use Rattle.itch_table.specs.declared.outcome.Part.TheVariants.{Locate}
use Rattle.itch_table.specs.World.{orders_of}
use Rattle.itch_table.specs.Levels.{no_level, top, top_from}
use Rattle.itch_table.specs.After.{after}
use Rattle.itch_table.specs.Parts.{part}
use Rattle.itch_table.specs.Projection.{IsQuiet, is_of_stock, payload_at}

-- a stock's best bid and ask after the first n messages of a day
unfoldable pub top_after : List (List ℕ) → ℕ → ℕ → Top
top_after day locate n = top (orders_of (after day n) locate)

-- a stock's best bid and ask stay as they are while none of its messages comes
abbrev pub TopsStandStill : Type 0
TopsStandStill =
    (day : List (List ℕ)) (locate from to : ℕ) → from ≤ to → IsQuiet day locate from to
    → top_after day locate to ≡ top_after day locate from

-- the top of a stock without orders
abbrev pub no_top : Top
no_top = top_from no_level no_level

-- four words for a top after n messages: n, the bid's price in the high half of a word with the ask's in the low one,
-- the bid's shares, and the ask's
abbrev pub words_of : ℕ → Top → List ℕ
words_of n best = n ∷ (best.bid_price * 2 ^ 32 + best.ask_price) ∷ best.bid_shares ∷ best.ask_shares ∷ []

-- the words are those of a stock's top after the first n messages of a day
abbrev pub Shows : List (List ℕ) → ℕ → ℕ → List ℕ → Type 0
Shows day locate n words = (n ≤ length day) × (words ≡ words_of n (top_after day locate n))

-- exactly one row of words shows a stock's top after the first n messages of a day
abbrev pub HasOneRow : List (List ℕ) → ℕ → ℕ → Type 0
HasOneRow day locate n =
    (one : List ℕ) × Shows day locate n one × ((other : List ℕ) → Shows day locate n other → other ≡ one)

-- different numbers or tops have different words, where the ask prices fit 32 bits
abbrev pub WordsDiffer : Type 0
WordsDiffer =
    (n m : ℕ) (best other : Top) → best.ask_price < 2 ^ 32 → other.ask_price < 2 ^ 32
    → words_of n best ≡ words_of m other → (n ≡ m) × (best ≡ other)

-- ---- the stocks of a day

-- some message of a day is this stock's
abbrev pub HasMessage : List (List ℕ) → ℕ → Type 0
HasMessage day locate = (n : ℕ) × (0 < n) × (n ≤ length day) × (part (payload_at day n) ≡ Locate locate)

-- the locate codes of the stocks that have messages in a day, rising
unfoldable pub locates_of_day : List (List ℕ) → List ℕ
locates_of_day day = filter (λ locate. list_any (is_of_stock locate) day) (range_with_len 0 0x1_0000)

-- Words that write times of day.
use Rattle.std.proofs.Common.{inl, inr, ◌≡◌, ℕ, zero, suc, ◌-◌, ◌*◌, ◌^◌, ◌<◌, ◌≤◌, List, [], ◌∷◌, ◌++◌, length, take, drop, get_or, ap, sym, subst, arith}
use Rattle.std.specs.Prelude.{◌↔◌, codes, Option, Some, None, IfNone, IsSome}
use Rattle.std.proofs.Math.Nat.{pow-le-pow_right}
use Rattle.std.proofs.lemmas.Int.Digits.{digits_value-lt}
use Rattle.std.proofs.lemmas.List.{length-drop, take_all}
use Rattle.itch_text.specs.Values.{NumberText}
use Rattle.itch_show.specs.Times.{ClockText, Decimals, TimeText}

-- what one is of the last of so many decimals
abbrev units : List ℕ
units = 1000000000 ∷ 100000000 ∷ 10000000 ∷ 1000000 ∷ 100000 ∷ 10000 ∷ 1000 ∷ 100 ∷ 10 ∷ 1 ∷ []

below_by : (count number : ℕ) → count ≤ 9 → number < 10 ^ count → number * get_or units count 0 < 1000000000
below_by zero number few below = omega (arith, below)
below_by (suc zero) number few below = omega (arith, below)
below_by (suc (suc zero)) number few below = omega (arith, below)
below_by (suc (suc (suc zero))) number few below = omega (arith, below)
below_by (suc (suc (suc (suc zero)))) number few below = omega (arith, below)
below_by (suc (suc (suc (suc (suc zero))))) number few below = omega (arith, below)
below_by (suc (suc (suc (suc (suc (suc zero)))))) number few below = omega (arith, below)
below_by (suc (suc (suc (suc (suc (suc (suc zero))))))) number few below = omega (arith, below)
below_by (suc (suc (suc (suc (suc (suc (suc (suc zero)))))))) number few below = omega (arith, below)
below_by (suc (suc (suc (suc (suc (suc (suc (suc (suc zero))))))))) number few below = omega (arith, below)
below_by (suc (suc (suc (suc (suc (suc (suc (suc (suc (suc more)))))))))) number few below = absurd (omega (arith, few))

-- decimals of a second are less than a second
pub below_second : (digits : List ℕ) (number : ℕ) → length digits ≤ 9 → NumberText digits number → number * get_or units (length digits) 0 < 1000000000
below_second digits number few text = below_by (length digits) number few (omega (arith, text.2, digits_value-lt 10 digits text.0.1))

-- the parts of a word with colons at their places
pub clock_parts : (word : List ℕ) → 8 ≤ length word → get_or word 2 0 ≡ 58 → get_or word 5 0 ≡ 58
    → word ≡ take 2 word ++ codes ":" ++ take 2 (drop 3 word) ++ codes ":" ++ take 2 (drop 6 word) ++ drop 8 word
clock_parts (a ∷ b ∷ c ∷ d ∷ e ∷ f ∷ g ∷ h ∷ rest) long one other = λ i. a ∷ b ∷ one i ∷ d ∷ e ∷ other i ∷ g ∷ h ∷ rest
clock_parts word long one other = absurd (omega (arith, long))

-- what comes after them
pub rest_of : (word : List ℕ) → take (length word - 8) (drop 8 word) ≡ drop 8 word
rest_of word = take_all (length word - 8) (drop 8 word) (omega (arith, length-drop 8 word))

-- ---- words that write none

-- what holds anyway
pub if_none : {A P : Type 0} → (o : Option A) → P → IfNone o P
if_none None holds = holds
if_none (Some value) holds = tt

below_word : (digits : List ℕ) (number : ℕ) → length digits ≤ 9 → NumberText digits number → number < 2 ^ 64
below_word digits number few text =
    let least : 10 ^ length digits ≤ 10 ^ 9 = pow-le-pow_right {n = 10} (omega arith) few in
    omega (arith, text.2, digits_value-lt 10 digits text.0.1, least)

-- decimals whose digits are no number
pub no_decimals : (rest : List ℕ) (point : ℕ) (digits : List ℕ) → rest ≡ point ∷ digits
    → ((n : ℕ) → NumberText digits n → n < 2 ^ 64 → ⊥) → (nanos : ℕ) → Decimals rest nanos → ⊥
no_decimals rest point digits is none nanos text =
    let written : Decimals (point ∷ digits) nanos = subst (λ l. Decimals l nanos) is text in
    none written.2 written.3 (below_word digits written.2 written.1 written.3)

parts_by : (hours minutes seconds rest word : List ℕ) → length hours ≡ 2 → length minutes ≡ 2 → length seconds ≡ 2
    → word ≡ hours ++ codes ":" ++ minutes ++ codes ":" ++ seconds ++ rest
    → (hours ≡ take 2 word) × (minutes ≡ take 2 (drop 3 word)) × (seconds ≡ take 2 (drop 6 word)) × (rest ≡ drop 8 word)
parts_by (a ∷ b ∷ []) (d ∷ e ∷ []) (g ∷ h ∷ []) rest word two other last is =
    (sym (ap (take 2) is), sym (ap (λ l. take 2 (drop 3 l)) is), sym (ap (λ l. take 2 (drop 6 l)) is), sym (ap (drop 8) is))
parts_by hours minutes seconds rest word two other last is = absurd (omega (arith, two, other, last))

-- the parts of a word that writes a time of the clock
pub parts_of : {word : List ℕ} {nanos : ℕ} → (text : ClockText word nanos) → (text.hours ≡ take 2 word)
    × (text.minutes ≡ take 2 (drop 3 word)) × (text.seconds ≡ take 2 (drop 6 word)) × (text.rest ≡ drop 8 word)
parts_of {word} text = parts_by text.hours text.minutes text.seconds text.rest word text.hour_is.long text.minute_is.long text.second_is.long text.parts

-- a word that writes neither
pub no_time : (word : List ℕ) (nanos : ℕ) → ((n : ℕ) → NumberText word n → n < 2 ^ 64 → ⊥)
    → ((n : ℕ) → ClockText word n → ⊥) → TimeText word nanos → nanos < 2 ^ 48 → ⊥
no_time word nanos number clock (inl text) fits = number nanos text (omega (arith, fits))
no_time word nanos number clock (inr text) fits = clock nanos text

late_by : (word : List ℕ) (found nanos : ℕ) → (found < 2 ^ 48 → ⊥) → NumberText word found
    → ((n : ℕ) → ClockText word n → ⊥) → TimeText word nanos → nanos < 2 ^ 48 → ⊥
late_by word found nanos late text clock (inl other) fits = late (omega (arith, text.2, other.2, fits))
late_by word found nanos late text clock (inr other) fits = clock nanos other

-- a word that writes a number too great for a time
pub too_late : {A : Type 0} (o : Option A) (word : List ℕ) (found : ℕ) → IsSome o ↔ (found < 2 ^ 48) → NumberText word found
    → ((n : ℕ) → ClockText word n → ⊥) → IfNone o ((nanos : ℕ) → TimeText word nanos → nanos < 2 ^ 48 → ⊥)
too_late None word found fits text clock = λ nanos other below. late_by word found nanos (λ few. let no = fits.1 few in let never : ⊥ = cc in never) text clock other below
too_late (Some time) word found fits text clock = tt

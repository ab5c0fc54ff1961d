-- Texts that are one word each, and the words of the lines that are made of them.
use Rattle.std.proofs.Common.{◌≡◌, ◌≢◌, ℕ, zero, suc, ◌/◌, ◌%◌, ◌<◌, ◌≤◌, ◌==◌, ◌&&◌, not, Bool, true, false, cond, List, [], ◌∷◌, ◌++◌, get_or, refl, ap, ◌∙◌, arith, ne_eqb, eq-eqb, leb, leb-true, append-nil, lit≤, inl, inr}
use Rattle.std.proofs.lemmas.Bool.{and_parts, false≢true, cases_lt}
use Rattle.std.specs.List.{flat_map, filter, AllByRecursion as Each}
use Rattle.std.specs.Str.Parse.{AllDigits}
use Rattle.std.proofs.lemmas.Str.Parse.{digit_from_value}
use Rattle.hex.specs.Hex.{encode_with, encode_lower, lower_digits}
use Rattle.byte_strings.specs.Bytes.{IsByte}
use Rattle.itch_text.specs.Values.{denotes_itself}
use Rattle.itch_text.specs.Words.{pieces, words, is_word}
use Rattle.text_fields.specs.Quoted.{escaped}

-- the text has no space outside quotes, and its quotes are closed
abbrev pub closed : Bool → List ℕ → Bool
closed quoted [] = not quoted
closed true (b ∷ bs) = closed (not (b == 34)) bs
closed false (b ∷ bs) = cond (b == 32) false (closed (b == 34) bs)

unless : (b c : Bool) → cond b false c ≡ true → (b ≡ false) × (c ≡ true)
unless true c h = absurd (false≢true h)
unless false c h = (refl, h)

pieces_closed : (quoted : Bool) (w rest : List ℕ) → closed quoted w ≡ true → pieces quoted (w ++ 32 ∷ rest) ≡ w ∷ pieces false rest
unfolding pieces
pieces_closed true [] rest h = absurd (false≢true h)
pieces_closed false [] rest h = refl
pieces_closed true (b ∷ bs) rest h = rw (pieces_closed (not (b == 34)) bs rest h) refl
pieces_closed false (b ∷ bs) rest h = let u = unless (b == 32) (closed (b == 34) bs) h in rw (u.0, pieces_closed (b == 34) bs rest u.1) refl

pieces_all : (quoted : Bool) (w : List ℕ) → closed quoted w ≡ true → pieces quoted w ≡ w ∷ []
unfolding pieces
pieces_all quoted [] h = refl
pieces_all true (b ∷ bs) h = rw (pieces_all (not (b == 34)) bs h) refl
pieces_all false (b ∷ bs) h = let u = unless (b == 32) (closed (b == 34) bs) h in rw (u.0, pieces_all (b == 34) bs u.1) refl

pub closed_append : (quoted : Bool) (v w : List ℕ) → closed quoted v ≡ true → closed false w ≡ true → closed quoted (v ++ w) ≡ true
closed_append true [] w h k = absurd (false≢true h)
closed_append false [] w h k = k
closed_append true (b ∷ bs) w h k = closed_append (not (b == 34)) bs w h k
closed_append false (b ∷ bs) w h k = let u = unless (b == 32) (closed (b == 34) bs) h in rw u.0 (closed_append (b == 34) bs w u.1 k)

-- a word of a line
abbrev pub IsOne : List ℕ → Type 0
IsOne w = (closed false w ≡ true) × (is_word w ≡ true)

-- a line of words with one space before each but the first
abbrev pub joined : List ℕ → List (List ℕ) → List ℕ
joined w ws = w ++ flat_map (λ v. 32 ∷ v) ws

pieces_joined : (w : List ℕ) (ws : List (List ℕ)) → closed false w ≡ true → Each IsOne ws → pieces false (joined w ws) ≡ w ∷ ws
pieces_joined w [] h k = ap (pieces false) (append-nil w) ∙ pieces_all false w h
pieces_joined w (v ∷ ws) h k = pieces_closed false w (joined v ws) h ∙ ap (λ r. w ∷ r) (pieces_joined v ws k.0.0 k.1)

all_words : (ws : List (List ℕ)) → Each IsOne ws → filter is_word ws ≡ ws
all_words [] k = refl
all_words (w ∷ ws) k = rw (k.0.1, all_words ws k.1) refl

pub words_joined : (w : List ℕ) (ws : List (List ℕ)) → IsOne w → Each IsOne ws → words (joined w ws) ≡ w ∷ ws
unfolding words
words_joined w ws h k = ap (filter is_word) (pieces_joined w ws h.0 k) ∙ all_words (w ∷ ws) (h, k)

-- ---- strings of bytes, by recursion
abbrev pub EachByte : List ℕ → Type 0
EachByte bs = Each IsByte bs

-- ---- bytes above the space, the quote and the other marks before the digits
abbrev pub IsHigh : ℕ → Type 0
IsHigh b = 48 ≤ b

pub closed_high : (bs : List ℕ) → Each IsHigh bs → closed false bs ≡ true
closed_high [] h = refl
closed_high (b ∷ bs) h = rw (ne_eqb b 32 (λ e. omega arith), ne_eqb b 34 (λ e. omega arith)) (closed_high bs h.1)

pub high_digits : (bs : List ℕ) → AllDigits 10 bs → Each IsHigh bs
high_digits [] h = tt
high_digits (b ∷ bs) h = ((digit_from_value b h.0).0, high_digits bs h.1)

-- a test of the numbers below a bound, which computes
abbrev pub all_below : (ℕ → Bool) → ℕ → Bool
all_below test zero = true
all_below test (suc n) = test n && all_below test n

pub below_at : (test : ℕ → Bool) (n k : ℕ) → all_below test n ≡ true → k < n → test k ≡ true
below_at test zero k h l = absurd (omega arith)
below_at test (suc n) k h l =
    let p = and_parts (test n) (all_below test n) h in
    elim (cases_lt k n) [
      | inl below ↦ below_at test n k p.1 below
      | inr top ↦ let e : k ≡ n = omega arith in rw e p.0
    ]

lower_high : (d : ℕ) → d < 16 → 48 ≤ get_or lower_digits d 0
lower_high d h = leb-true 48 (get_or lower_digits d 0) (below_at (λ k. leb 48 (get_or lower_digits k 0)) 16 d refl h)

pub high_hex : (bs : List ℕ) → EachByte bs → Each IsHigh (encode_lower bs)
unfolding encode_with
high_hex [] h = tt
high_hex (b ∷ bs) h = (lower_high (b / 16) (omega (arith, h.0)), (lower_high (b % 16) (omega arith), high_hex bs h.1))

-- ---- bytes that stand between quotes, and on a line

abbrev pub IsInner : ℕ → Type 0
IsInner b = (32 ≤ b) × (b ≢ 34)

-- no control byte, so that no line feed
abbrev pub IsInk : ℕ → Type 0
IsInk b = 32 ≤ b

pub closed_inner : (bs : List ℕ) → Each IsInner bs → closed true (bs ++ 34 ∷ []) ≡ true
closed_inner [] h = refl
closed_inner (b ∷ bs) h = ap (λ c. closed (not c) (bs ++ 34 ∷ [])) (ne_eqb b 34 h.0.1) ∙ closed_inner bs h.1

pub each_append : {X : Type 0} (P : X → Type 0) (xs ys : List X) → Each P xs → Each P ys → Each P (xs ++ ys)
each_append P [] ys h k = k
each_append P (x ∷ xs) ys h k = (h.0, each_append P xs ys h.1 k)

pub each_weaker : {X : Type 0} (P Q : X → Type 0) → ((x : X) → P x → Q x) → (xs : List X) → Each P xs → Each Q xs
each_weaker P Q f [] h = tt
each_weaker P Q f (x ∷ xs) h = (f x h.0, each_weaker P Q f xs h.1)

high_inner : (b : ℕ) → 48 ≤ b → IsInner b
high_inner b h = (omega arith, λ e. omega arith)

plain_inner : (b : ℕ) → denotes_itself b ≡ true → IsInner b
plain_inner b h =
    let p = and_parts (leb 32 b && leb b 126 && not (b == 34)) (not (b == 92)) h in
    let q = and_parts (leb 32 b && leb b 126) (not (b == 34)) p.0 in
    let r = and_parts (leb 32 b) (leb b 126) q.0 in
    (leb-true 32 b r.0, λ e. not_true (b == 34) (eq-eqb b 34 e) q.1)
  where
    not_true : (t : Bool) → t ≡ true → not t ≡ true → ⊥
    not_true true e n = false≢true n
    not_true false e n = false≢true e

inner_byte_by : (b : ℕ) (plain : Bool) → denotes_itself b ≡ plain → b < 256 → Each IsInner (cond plain (b ∷ []) (92 ∷ 120 ∷ encode_lower (b ∷ [])))
inner_byte_by b true e h = (plain_inner b e, tt)
inner_byte_by b false e h =
    (high_inner 92 (lit≤ tt), (high_inner 120 (lit≤ tt), each_weaker IsHigh IsInner high_inner (encode_lower (b ∷ [])) (high_hex (b ∷ []) (h, tt))))

pub inner_bytes : (bs : List ℕ) → EachByte bs → Each IsInner (flat_map escaped bs)
inner_bytes [] h = tt
inner_bytes (b ∷ bs) h =
    each_append IsInner (escaped b) (flat_map escaped bs) (inner_byte_by b (denotes_itself b) refl h.0) (inner_bytes bs h.1)

-- One byte of an escaped text.
use Rattle.std.proofs.Common.{◌≡◌, ◌≢◌, ℕ, ◌+◌, ◌<◌, ◌≤◌, true, false, List, [], ◌∷◌, length, drop, take, replicate, get_or, length-take-le, take-add, append-nil, ◌-◌, ◌++◌, Option, Some, None, Result, Ok, Err, ◌*◌, refl, sym, ap, ◌∙◌, arith, ne_eqb, le-leb}
use Rattle.std.specs.Prelude.{MatchResult, is_ok}
use Rattle.hex.specs.Hex.{hex_digit_value, digit_or_error, ◌>>=◌, decode_sized, decode_pairs}
use Rattle.hex.specs.declared.error.FromHexError.{FromHexError}
use Rattle.itch_text.specs.Values.{unescaped, with_first, byte_of, padded, denotes_itself}
use Rattle.itch_text.specs.Parsing.{padded_within}
use Rattle.itch_text.specs.Fields.{extended}
use Rattle.itch_layouts.specs.Layouts.{Bytes}
use Rattle.std.proofs.lemmas.Bool.{true≢false}
use Rattle.std.proofs.lemmas.List.{take-replicate}
use Rattle.itch_text.proofs.HexLines.{written, failed}

pub itself_first : (b : ℕ) (rest : List ℕ) → denotes_itself b ≡ true → unescaped (b ∷ rest) ≡ with_first (Some b) (unescaped rest)
unfolding unescaped
itself_first b [] h = rw h refl
itself_first b (c ∷ []) h = rw h refl
itself_first b (c ∷ d ∷ []) h = rw h refl
itself_first b (c ∷ d ∷ e ∷ rest) h = rw h refl

-- ---- the byte of two digits

abbrev first_byte : {E : Type 0} → Result (List ℕ) E → Option ℕ
first_byte (Ok bytes) = Some (get_or bytes 0 0)
first_byte (Err e) = None

pair_by : (high low : ℕ) (o p : Option ℕ) → first_byte ((digit_or_error high 0 o >>= (λ h. digit_or_error low 1 p >>= (λ l. Ok (h * 16 + l)))) >>= (λ byte. Ok (byte ∷ []))) ≡ byte_of o p
pair_by high low (Some h) (Some l) = refl
pair_by high low (Some h) None = refl
pair_by high low None p = refl

pair : (high low : ℕ) → first_byte (decode_sized (high ∷ low ∷ []) 1) ≡ byte_of (hex_digit_value high) (hex_digit_value low)
unfolding decode_pairs
pair high low = pair_by high low (hex_digit_value high) (hex_digit_value low)

pub pair_decoded : (high low : ℕ) (res : Result (Unit {0}) FromHexError) (x : Unit {0}) (new : List ℕ) → MatchResult (decode_sized (high ∷ low ∷ []) 1) (λ bytes. (res ≡ Ok tt) × (new ≡ bytes)) (λ e. res ≡ Err e) → res ≡ Ok x → Some (get_or new 0 0) ≡ byte_of (hex_digit_value high) (hex_digit_value low)
pair_decoded high low res x new m e = ap first_byte (sym (written (decode_sized (high ∷ low ∷ []) 1) res x new m e)) ∙ pair high low

no_byte : (r : Result (List ℕ) FromHexError) → is_ok r ≡ false → None ≡ first_byte r
no_byte (Ok bytes) h = absurd (true≢false h)
no_byte (Err e) h = refl

pub pair_refused : (high low : ℕ) (res : Result (Unit {0}) FromHexError) (e : FromHexError) (new : List ℕ) → MatchResult (decode_sized (high ∷ low ∷ []) 1) (λ bytes. (res ≡ Ok tt) × (new ≡ bytes)) (λ e. res ≡ Err e) → res ≡ Err e → None ≡ byte_of (hex_digit_value high) (hex_digit_value low)
pair_refused high low res e new m k = no_byte (decode_sized (high ∷ low ∷ []) 1) (failed (decode_sized (high ∷ low ∷ []) 1) res e new m k) ∙ pair high low

-- ---- the first byte of a text between quotes

pub escaped_byte : (text : List ℕ) → 4 ≤ length text → get_or text 0 0 ≡ 92 → get_or text 1 0 ≡ 120 → unescaped text ≡ with_first (byte_of (hex_digit_value (get_or text 2 0)) (hex_digit_value (get_or text 3 0))) (unescaped (drop 4 text))
unfolding unescaped
escaped_byte [] l h k = absurd (omega arith)
escaped_byte (b ∷ []) l h k = absurd (omega arith)
escaped_byte (b ∷ c ∷ []) l h k = absurd (omega arith)
escaped_byte (b ∷ c ∷ d ∷ []) l h k = absurd (omega arith)
escaped_byte (b ∷ c ∷ d ∷ e ∷ rest) l h k = rw (h, k) refl

pub short_text : (text : List ℕ) → 0 < length text → length text < 4 → denotes_itself (get_or text 0 0) ≡ false → unescaped text ≡ None
unfolding unescaped
short_text [] l h k = absurd (omega arith)
short_text (b ∷ []) l h k = rw k refl
short_text (b ∷ c ∷ []) l h k = rw k refl
short_text (b ∷ c ∷ d ∷ []) l h k = rw k refl
short_text (b ∷ c ∷ d ∷ e ∷ rest) l h k = absurd (omega arith)

pub no_escape : (text : List ℕ) → 4 ≤ length text → get_or text 0 0 ≢ 92 → denotes_itself (get_or text 0 0) ≡ false → unescaped text ≡ None
unfolding unescaped
no_escape [] l h k = absurd (omega arith)
no_escape (b ∷ []) l h k = absurd (omega arith)
no_escape (b ∷ c ∷ []) l h k = absurd (omega arith)
no_escape (b ∷ c ∷ d ∷ []) l h k = absurd (omega arith)
no_escape (b ∷ c ∷ d ∷ e ∷ rest) l h k = rw (k, ne_eqb b 92 h) refl

pub no_digits : (text : List ℕ) → 4 ≤ length text → get_or text 0 0 ≡ 92 → get_or text 1 0 ≢ 120 → unescaped text ≡ None
unfolding unescaped
no_digits [] l h k = absurd (omega arith)
no_digits (b ∷ []) l h k = absurd (omega arith)
no_digits (b ∷ c ∷ []) l h k = absurd (omega arith)
no_digits (b ∷ c ∷ d ∷ []) l h k = absurd (omega arith)
no_digits (b ∷ c ∷ d ∷ e ∷ rest) l h k = rw (h, ne_eqb c 120 k) refl

pub plain_first : (text : List ℕ) → 0 < length text → denotes_itself (get_or text 0 0) ≡ true → unescaped text ≡ with_first (Some (get_or text 0 0)) (unescaped (drop 1 text))
plain_first [] l h = absurd (omega arith)
plain_first (b ∷ bs) l h = itself_first b bs h

pub ruleset escapes = (plain_first, escaped_byte, short_text, no_escape, no_digits)

-- ---- the bytes so far, and those of the rest
pub all_read : (width n : ℕ) (bytes : List ℕ) → n ≤ width → width ≤ 8 → length bytes ≡ 8 → drop n bytes ≡ replicate (8 - n) 32 → padded width (take n bytes) ≡ take width bytes
all_read width n bytes h k l e =
    let short : length (take n bytes) ≡ n = length-take-le n bytes (omega arith) in
    let left : take (width - n) (drop n bytes) ≡ replicate (width - n) 32 = rw e (take-replicate (width - n) (8 - n) 32 (omega arith)) in
    let whole : n + (width - n) ≡ width = omega arith in
    ap (λ k. take n bytes ++ replicate (width - k) 32) short ∙ ap (λ xs. take n bytes ++ xs) (sym left) ∙ sym (take-add n (width - n) bytes) ∙ ap (λ k. take k bytes) whole

pub finished : (width n : ℕ) (bytes inner rest : List ℕ) → length rest ≡ 0 → n ≤ width → width ≤ 8 → length bytes ≡ 8 → drop n bytes ≡ replicate (8 - n) 32 → unescaped inner ≡ extended (take n bytes) (unescaped rest) → Some (Bytes (take width bytes)) ≡ padded_within width (unescaped inner)
unfolding unescaped
finished width n bytes inner [] e h k l d r =
    let short : length (take n bytes) ≡ n = length-take-le n bytes (omega arith) in
    rw (r, append-nil (take n bytes), le-leb (length (take n bytes)) width (omega (arith, short)), all_read width n bytes h k l d) refl
finished width n bytes inner (b ∷ rest) e h k l d r = absurd (omega arith)

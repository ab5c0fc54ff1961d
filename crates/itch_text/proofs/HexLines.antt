-- Appending the bytes of hexadecimal digits.
use Rattle.std.proofs.Common.{◌≡◌, ◌≢◌, ◌==◌, ℕ, suc, ◌+◌, ◌-◌, ◌*◌, ◌/◌, ◌%◌, ◌<◌, ◌≤◌, true, false, List, [], ◌∷◌, ◌++◌, length, take, drop, replicate, Option, Some, None, Result, Ok, Err, option_map, lt-ltb, refl, sym, ap, ap₂, ◌∙◌, arith, append_assoc, append-nil, length-append}
use Rattle.std.specs.Prelude.{MatchResult, is_ok}
use Rattle.std.specs.Int.{w16, to_be_bytes}
use Rattle.std.proofs.lemmas.Bool.{true≢false}
use Rattle.std.proofs.lemmas.Bool.Decides.{nat_tests}
use Rattle.std.proofs.lemmas.List.{take_at, drop_at, take_all, drop_all, length-replicate}
use Rattle.std.proofs.lemmas.Option.{none-some}
use Rattle.hex.specs.Hex.{decode_of, decode_sized, decode_pairs}
use Rattle.hex.specs.declared.error.FromHexError.{FromHexError}
use Rattle.hex.proofs.HexLemmas.{decode_of-odd, decode_of-ok, decode_sized-twice}
use Rattle.itch_text.specs.Items.{Entry, item_bytes}
use Rattle.itch_text.specs.Parsing.{some_bytes, bytes_in, hex_in, is_short, when}
use Rattle.itch_text.specs.Fields.{extended, Puts}
use Rattle.itch_text.specs.declared.fault.LineError.{LineError}
use Rattle.itch_text.specs.declared.fault.LineError.TheVariants.{Memory, Wrong}
use Rattle.itch_text.proofs.ItemParsing.{bytes_complete, bytes_sound}
use Rattle.itch_text.proofs.Widths.{not_lt}

-- what the decoder returns and writes
pub written : (r : Result (List ℕ) FromHexError) (res : Result (Unit {0}) FromHexError) (x : Unit {0}) (new : List ℕ) → MatchResult r (λ bytes. (res ≡ Ok tt) × (new ≡ bytes)) (λ e. res ≡ Err e) → res ≡ Ok x → r ≡ Ok new
written (Ok bytes) res x new h k = ap Ok (sym h.1)
written (Err e) res x new h k = cc

pub failed : (r : Result (List ℕ) FromHexError) (res : Result (Unit {0}) FromHexError) (e : FromHexError) (new : List ℕ) → MatchResult r (λ bytes. (res ≡ Ok tt) × (new ≡ bytes)) (λ e. res ≡ Err e) → res ≡ Err e → is_ok r ≡ false
failed (Ok bytes) res e new h k = absurd (two h.0 k)
  where
    two : {res : Result (Unit {0}) FromHexError} {e : FromHexError} → res ≡ Ok tt → res ≡ Err e → ⊥
    two h k = cc
failed (Err d) res e new h k = refl

no_bytes : (r : Result (List ℕ) FromHexError) → is_ok r ≡ false → some_bytes r ≡ None
no_bytes (Ok bytes) h = absurd (true≢false h)
no_bytes (Err e) h = refl

-- ---- the room after what was there
pub grown : (old after : List ℕ) (start n len : ℕ) → length old ≡ start → len ≡ length old → after ≡ take (start + n) old ++ replicate (start + n - len) 0 → after ≡ old ++ replicate n 0
grown old after start n len s l a =
    let more : start + n - len ≡ n = omega arith in
    a ∙ ap₂ (λ (xs : List ℕ) (k : ℕ). xs ++ replicate k 0) (take_all (start + n) old (omega arith)) more

room : (digits old after : List ℕ) (start : ℕ) → length old ≡ start → after ≡ old ++ replicate (length digits / 2) 0 → drop start after ≡ replicate (length digits / 2) 0
room digits old after start s a = ap (drop start) a ∙ drop_at old (replicate (length digits / 2) 0) start s

room_length : (n start : ℕ) (old after : List ℕ) → length old ≡ start → after ≡ old ++ replicate n 0 → length after ≡ start + n
room_length n start old after s a = ap length a ∙ omega (arith, length-append old (replicate n 0), length-replicate {A = ℕ} n 0, s)

sized : (digits old after : List ℕ) (start : ℕ) → length old ≡ start → after ≡ old ++ replicate (length digits / 2) 0 → length (take (length after - start) (drop start after)) ≡ length digits / 2
sized digits old after start s a =
    let whole : length after ≡ start + length digits / 2 = room_length (length digits / 2) start old after s a in
    let n : length (drop start after) ≡ length digits / 2 = ap length (room digits old after start s a) ∙ length-replicate {A = ℕ} (length digits / 2) 0 in
    ap length (take_all (length after - start) (drop start after) (omega arith)) ∙ n

same_room : (digits old after : List ℕ) (start : ℕ) → length digits % 2 ≡ 0 → length old ≡ start → after ≡ old ++ replicate (length digits / 2) 0 → decode_sized digits (length (take (length after - start) (drop start after))) ≡ decode_of digits
same_room digits old after start e s a =
    let n : length (take (length after - start) (drop start after)) ≡ length digits / 2 = sized digits old after start s a in
    ap (decode_sized digits) n ∙ decode_sized-twice digits (length digits / 2) (omega arith)

filled : (digits old after new : List ℕ) (start len : ℕ) → length old ≡ start → after ≡ old ++ replicate (length digits / 2) 0 → len ≡ start + length new → take len ((take start after ++ (new ++ drop (length after - start) (drop start after))) ++ drop (length (take start after ++ (new ++ drop (length after - start) (drop start after)))) after) ≡ old ++ new
filled digits old after new start len s a l =
    let first : take start after ≡ old = ap (take start) a ∙ take_at old (replicate (length digits / 2) 0) start s in
    let whole : length after ≡ start + length digits / 2 = room_length (length digits / 2) start old after s a in
    let n : length (drop start after) ≡ length digits / 2 = ap length (room digits old after start s a) ∙ length-replicate {A = ℕ} (length digits / 2) 0 in
    let last : drop (length after - start) (drop start after) ≡ [] = drop_all (length after - start) (drop start after) (omega arith) in
    let both : take start after ++ (new ++ drop (length after - start) (drop start after)) ≡ old ++ new = rw (first, last, append-nil new) refl in
    let long : length (old ++ new) ≡ len = omega (arith, length-append old new) in
    ap (λ (xs : List ℕ). take len (xs ++ drop (length xs) after)) both ∙ take_at (old ++ new) (drop (length (old ++ new)) after) len long

pub digits_put : (digits old after bs new : List ℕ) (start len : ℕ) → (length digits == 0) ≡ false → length digits % 2 ≡ 0 → length old ≡ start → after ≡ old ++ replicate (length digits / 2) 0 → bs ≡ after → len ≡ start + length digits / 2
    → decode_sized digits (length (take (length bs - start) (drop start bs))) ≡ Ok new
    → extended old (bytes_in digits) ≡ Some (take len ((take start bs ++ (new ++ drop (length bs - start) (drop start bs))) ++ drop (length (take start bs ++ (new ++ drop (length bs - start) (drop start bs)))) after))
digits_put digits old after bs new start len some e s a b l d =
    let d' : decode_of digits ≡ Ok new = sym (same_room digits old after start e s a) ∙ rw b at d in
    let ok = decode_of-ok digits new d' in
    let long : length digits ≡ 2 * length new = ok.2 in
    let most : 0 < length digits = positive (length digits) some in
    let read : bytes_in digits ≡ Some new = bytes_complete digits new (d', omega arith) in
    rw (read, b) (ap Some (sym (filled digits old after new start len s a (omega arith))))
  where
    positive : (n : ℕ) → (n == 0) ≡ false → 0 < n
    positive n h = grind (arith, nat_tests)

pub digits_refused : (digits old after bs new : List ℕ) (start : ℕ) (res : Result (Unit {0}) FromHexError) (e : FromHexError) → length digits % 2 ≡ 0 → length old ≡ start → after ≡ old ++ replicate (length digits / 2) 0 → bs ≡ after
    → MatchResult (decode_sized digits (length (take (length bs - start) (drop start bs)))) (λ bytes. (res ≡ Ok tt) × (new ≡ bytes)) (λ e. res ≡ Err e) → res ≡ Err e
    → bytes_in digits ≡ None
unfolding bytes_in
digits_refused digits old after bs new start res e even s a b m r =
    ap some_bytes (sym (same_room digits old after start even s a) ∙ ap (λ (xs : List ℕ). decode_sized digits (length (take (length xs - start) (drop start xs)))) (sym b)) ∙ no_bytes _ (failed _ res e new m r)

pub no_digits : (digits : List ℕ) → (length digits == 0) ≡ true → bytes_in digits ≡ None
unfolding bytes_in decode_pairs
no_digits [] h = refl
no_digits (b ∷ bs) h = absurd (none (length bs) h)
  where
    none : (n : ℕ) → (suc n == 0) ≡ true → ⊥
    none n h = grind (arith, nat_tests)

pub odd_digits : (digits : List ℕ) → length digits % 2 ≢ 0 → bytes_in digits ≡ None
unfolding bytes_in
odd_digits digits h =
    let odd : length digits % 2 ≡ 1 = omega arith in
    ap some_bytes (decode_of-odd digits odd)

-- ---- the line of `raw`
half : (digits bytes : List ℕ) → bytes_in digits ≡ Some bytes → length bytes ≡ length digits / 2
half digits bytes h =
    let ok = decode_of-ok digits bytes (bytes_sound digits bytes h).0 in
    let long : length digits ≡ 2 * length bytes = ok.2 in
    omega arith

abbrev pub raw_bytes : Option (List ℕ) → Option (List ℕ)
raw_bytes o = option_map item_bytes (option_map Entry (when is_short o))

long_by : (digits : List ℕ) (o : Option (List ℕ)) → bytes_in digits ≡ o → 65536 ≤ length digits / 2 → raw_bytes o ≡ None
long_by digits None e h = refl
long_by digits (Some bytes) e h =
    let n : length bytes ≡ length digits / 2 = half digits bytes e in
    rw (not_lt (length bytes) 65536 (omega arith)) refl

pub raw_too_long : (ws : List (List ℕ)) (digits : List ℕ) → ws ≡ digits ∷ [] → (length digits / 2 < 65536 → ⊥) → raw_bytes (hex_in ws) ≡ None
raw_too_long ws digits w h = rw w (long_by digits (bytes_in digits) refl (omega arith))

raw_by : (old mid new digits : List ℕ) (size : ℕ) (o : Option (List ℕ)) → bytes_in digits ≡ o → size ≡ length digits / 2 → size < 65536 → mid ≡ old ++ to_be_bytes w16 size → extended mid o ≡ Some new → extended old (raw_bytes o) ≡ Some new
raw_by old mid new digits size None e s l m h = absurd (none-some new h)
raw_by old mid new digits size (Some bytes) e s l m h =
    let n : length bytes ≡ size = half digits bytes e ∙ sym s in
    rw (lt-ltb (length bytes) 65536 (omega arith)) (ap (λ k. Some (old ++ (to_be_bytes w16 k ++ bytes))) n ∙ ap Some (sym (append_assoc old (to_be_bytes w16 size) bytes)) ∙ ap (λ (xs : List ℕ). Some (xs ++ bytes)) (sym m) ∙ h)

pub raw_put : (old mid new : List ℕ) (ws : List (List ℕ)) (digits : List ℕ) (size : ℕ) (r : Result (Unit {0}) LineError) → ws ≡ digits ∷ [] → size ≡ length digits / 2 → size < 65536 → mid ≡ old ++ to_be_bytes w16 size → Puts mid new (bytes_in digits) r → Puts old new (raw_bytes (hex_in ws)) r
raw_put old mid new ws digits size (Ok x) w s l m h = rw w (raw_by old mid new digits size (bytes_in digits) refl s l m h)
raw_put old mid new ws digits size (Err Memory) w s l m h = tt
raw_put old mid new ws digits size (Err (Wrong fault)) w s l m h = (h.0, rw (w, h.1) refl)

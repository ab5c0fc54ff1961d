-- How a word names a stock.
use Rattle.std.proofs.Common.{◌≡◌, ℕ, ◌+◌, ◌-◌, ◌<◌, ◌^◌, ◌++◌, true, ltb, List, [], ◌∷◌, length, get_or, set, take, drop, replicate, Some, Result, Ok, Err, refl, sym, ap, ◌∙◌, arith, rules, inl, inr}
use Rattle.std.proofs.lemmas.Bool.{cases_Bool, lt-ltb, ltb-true}
use Rattle.std.proofs.lemmas.List.{drop-drop, drop-replicate, drop-set-lt, take_more, take_more_set}
use Rattle.std.proofs.lemmas.Str.Parse.{IsNumeralModel, numerals_by_value, parse_digits}
use Rattle.std.specs.Char.{is_ascii_digit}
use Rattle.std.specs.List.{list_all}
use Rattle.std.specs.Result.{OkIff, result_ok}
use Rattle.std.specs.Str.Parse.{ParsesUnsigned, digits_value}
use Rattle.itch_readings.specs.Naming.{code_of}

own : IsNumeralModel (λ digits. list_all is_ascii_digit digits ≡ true) (digits_value 10)
own = numerals_by_value (λ digits. list_all is_ascii_digit digits ≡ true) (search rules)

code_by : {E : Type 0} → (digits : List ℕ) (parsed : Result ℕ E) → OkIff parsed ((0 < length digits) × (digits_value 10 digits < 2 ^ 16)) (digits_value 10 digits) → result_ok parsed ≡ code_of digits
code_by digits (Ok code) is = rw (lt-ltb 0 (length digits) is.0.0, lt-ltb (digits_value 10 digits) 0x1_0000 is.0.1) (ap Some is.1)
code_by digits (Err error) refused = elim (cases_Bool (ltb 0 (length digits))) [
  | inl some ↦ elim (cases_Bool (ltb (digits_value 10 digits) 0x1_0000)) [
    | inl below ↦ absurd (refused (ltb-true 0 (length digits) some, ltb-true (digits_value 10 digits) 0x1_0000 below))
    | inr above ↦ rw (some, above) refl
  ]
  | inr none ↦ rw none refl
]

-- what `parse` gives of digits is the locate code that they write
pub code-parsed : {E : Type 0} → (digits : List ℕ) (parsed : Result ℕ E) → ParsesUnsigned 16 10 digits parsed → list_all is_ascii_digit digits ≡ true → result_ok parsed ≡ code_of digits
code-parsed digits parsed is all = code_by digits parsed (parse_digits own 16 digits parsed is all)

-- one byte more of a text that is copied over spaces
pub copied : (text symbol : List ℕ) (i : ℕ) → i < length text → i < length symbol → take i symbol ≡ take i text
    → take (i + 1) (set symbol i (get_or text i 0)) ≡ take (i + 1) text
copied text symbol i within room taken =
    take_more_set symbol i (get_or text i 0) room ∙ ap (λ bytes. bytes ++ get_or text i 0 ∷ []) taken ∙ sym (take_more text i 0 within)

one_less : (n : ℕ) → drop {A = ℕ} 1 (replicate n 32) ≡ replicate (n - 1) 32
one_less n = drop-replicate {X = ℕ} 1 n 32

pub spaces_left : (symbol : List ℕ) (i byte : ℕ) → drop i symbol ≡ replicate (8 - i) 32 → drop (i + 1) (set symbol i byte) ≡ replicate (8 - (i + 1)) 32
spaces_left symbol i byte left =
    let past : i < i + 1 = omega arith in
    let fewer : 8 - i - 1 ≡ 8 - (i + 1) = omega arith in
    let stays : drop (i + 1) (set symbol i byte) ≡ drop (i + 1) symbol = drop-set-lt (i + 1) symbol i byte past in
    let next : drop 1 (drop i symbol) ≡ drop (i + 1) symbol = drop-drop 1 i symbol in
    rw (stays, ← next, left, one_less (8 - i), fewer) refl

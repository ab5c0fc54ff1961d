-- Appending the fields of a line, one after another.
use Rattle.std.proofs.Common.{◌≡◌, ℕ, zero, suc, ◌+◌, ◌-◌, ◌^◌, ◌<◌, ◌≤◌, List, [], ◌∷◌, ◌++◌, length, drop, map, get_or, Option, Some, None, option_map, refl, sym, ap, ap₂, ◌∙◌, arith, append_assoc, add-one, drop-cons, mod-eq_of_lt, zero-add}
use Rattle.itch_text.proofs.Widths.{below_64, pow_more}
use Rattle.std.proofs.lemmas.Option.{same_Some, none-some}
use Rattle.std.specs.Int.{w64, to_be_bytes}
use Rattle.itch_layouts.specs.Layouts.{Field, Value}
use Rattle.itch_layouts.specs.Encoding.{encoded, encoding, digits as digits_of}
use Rattle.itch_layouts.specs.StaticFields.{as_field}
use Rattle.itch_layouts.proofs.Words.{digits_64}
use Rattle.itch_text.specs.Parsing.{field_in, values_in, with_value}
use Rattle.itch_text.specs.Fields.{extended, field_bytes, fields_bytes, Puts, PutsFields}
use Rattle.itch_layouts.specs.declared.field.Field.{Field as TableField}
use Rattle.itch_text.specs.declared.fault.LineError.{LineError}
use Rattle.itch_text.specs.declared.fault.LineError.TheVariants.{Memory, Wrong}
use Rattle.std.specs.Prelude.{Err}

last_digits : (k w n : ℕ) → n < 256 ^ w → drop k (digits_of (k + w) n) ≡ digits_of w n
unfolding digits_of
last_digits zero w n l = ap (λ j. digits_of j n) (zero-add w)
last_digits (suc k) w n l =
    let s : suc k + w ≡ suc (k + w) = omega arith in
    let small : n < 256 ^ (k + w) = omega (arith, l, pow_more k w) in
    ap (λ j. drop (suc k) (digits_of j n)) s ∙ ap (λ m. drop k (digits_of (k + w) m)) (mod-eq_of_lt small) ∙ last_digits k w n l

pub number_bytes : (width n : ℕ) → width ≤ 8 → n < 256 ^ width → drop (8 - width) (to_be_bytes w64 n) ≡ digits_of width n
number_bytes width n h l =
    let whole : 8 - width + width ≡ 8 = omega arith in
    ap (drop (8 - width)) (digits_64 n (below_64 n width h l)) ∙ ap (λ k. drop (8 - width) (digits_of k n)) (sym whole) ∙ last_digits (8 - width) width n l

pub ruleset digits = (number_bytes)

pub field_put : (old : List ℕ) (width : ℕ) (v : Value) (o : Option Value) → o ≡ Some v → extended old (option_map (encoded width) o) ≡ Some (old ++ encoded width v)
field_put old width v o h = rw h refl

pub ruleset putting = (field_put)

pub one_more_by : (old new : List ℕ) (f : Field) (fs : List Field) (o : Option Value) (os : Option (List Value)) → extended old (option_map (encoded f.width) o) ≡ Some new → extended old (option_map (encoding (f ∷ fs)) (with_value o os)) ≡ extended new (option_map (encoding fs) os)
one_more_by old new f fs (Some v) (Some vs) h = ap Some (sym (append_assoc old (encoded f.width v) (encoding fs vs)) ∙ ap (λ xs. xs ++ encoding fs vs) (same_Some _ _ h))
one_more_by old new f fs (Some v) None h = refl
one_more_by old new f fs None os h = absurd (none-some new h)

pub one_more : (old new : List ℕ) (f : Field) (fs : List Field) (w : List ℕ) (ws : List (List ℕ)) → extended old (field_bytes f w) ≡ Some new → extended old (fields_bytes (f ∷ fs) (w ∷ ws)) ≡ extended new (fields_bytes fs ws)
one_more old new f fs w ws h = one_more_by old new f fs (field_in f w) (values_in fs ws) h

-- the fields so far, and those that are left
abbrev pub Reads : List ℕ → List ℕ → List Field → List (List ℕ) → List Field → List (List ℕ) → Type 0
Reads old out all words_all left ws = (gs : List Field) → extended old (fields_bytes (all ++ gs) words_all) ≡ extended out (fields_bytes (left ++ gs) ws)

cut : (all : List TableField) (k : ℕ) (d : TableField) → k < length all → map as_field (drop k all) ≡ as_field (get_or all k d) ∷ map as_field (drop (k + 1) all)
cut all k d h = rw (add-one, drop-cons all k d h) refl

pub field_read : (old out new : List ℕ) (all : List TableField) (ws line : List (List ℕ)) (k : ℕ) (d : TableField) (word : List ℕ) (left : List (List ℕ)) → k < length all → ws ≡ word ∷ left → extended out (field_bytes (as_field (get_or all k d)) word) ≡ Some new → Reads old out (map as_field all) line (map as_field (drop k all)) ws → Reads old new (map as_field all) line (map as_field (drop (k + 1) all)) left
field_read old out new all ws line k d word left h e f r = λ gs.
    r gs ∙ ap₂ (λ fs us. extended out (fields_bytes (fs ++ gs) us)) (cut all k d h) e ∙ one_more out new (as_field (get_or all k d)) (map as_field (drop (k + 1) all) ++ gs) word left f

some_left : (all : List TableField) (k : ℕ) → k < length all → (x : TableField) × (xs : List TableField) × (drop k all ≡ x ∷ xs)
some_left [] k h = absurd (omega arith)
some_left (x ∷ xs) zero h = (x, xs, refl)
some_left (x ∷ xs) (suc k) h = some_left xs k (omega arith)

pub nothing_extends : (old : List ℕ) (o : Option (List ℕ)) → extended old o ≡ None → o ≡ None
nothing_extends old None h = refl
nothing_extends old (Some x) h = absurd (none-some (old ++ x) (sym h))

pub no_word_left : (old out : List ℕ) (all : List TableField) (ws line : List (List ℕ)) (k : ℕ) → k < length all → ws ≡ [] → Reads old out (map as_field all) line (map as_field (drop k all)) ws → (gs : List Field) → fields_bytes (map as_field all ++ gs) line ≡ None
no_word_left old out all ws line k h e r gs =
    let one = some_left all k h in
    nothing_extends old _ (r gs ∙ ap₂ (λ fs us. extended out (fields_bytes (map as_field fs ++ gs) us)) one.2 e)

bad_by : (out : List ℕ) (fs : List Field) (o : Option Value) (width : ℕ) (os : Option (List Value)) → option_map (encoded width) o ≡ None → extended out (option_map (encoding fs) (with_value o os)) ≡ None
bad_by out fs None width os h = refl
bad_by out fs (Some v) width os h = absurd (none-some _ (sym h))

pub field_refused : (old out new : List ℕ) (all : List TableField) (ws line : List (List ℕ)) (k : ℕ) (d : TableField) (word : List ℕ) (left : List (List ℕ)) (error : LineError) → k < length all → ws ≡ word ∷ left → Puts out new (field_bytes (as_field (get_or all k d)) word) (Err error) → Reads old out (map as_field all) line (map as_field (drop k all)) ws → PutsFields old new (map as_field all) line (Err error)
field_refused old out new all ws line k d word left Memory h e f r = tt
field_refused old out new all ws line k d word left (Wrong fault) h e f r =
    (f.0, λ gs. nothing_extends old _ (r gs ∙ ap₂ (λ fs us. extended out (fields_bytes (fs ++ gs) us)) (cut all k d h) e ∙ bad_by out (as_field (get_or all k d) ∷ (map as_field (drop (k + 1) all) ++ gs)) (field_in (as_field (get_or all k d)) word) (get_or all k d).width (values_in (map as_field (drop (k + 1) all) ++ gs) left) f.1))

pub ruleset fields = (field_read, no_word_left, field_refused)

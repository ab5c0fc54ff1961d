-- Parsing a field gives a value exactly where its text denotes the value.
use Rattle.std.proofs.Common.{◌≡◌, ℕ, suc, ◌+◌, ◌-◌, ◌^◌, ◌<◌, ◌≤◌, ◌==◌, ◌&&◌, Bool, true, false, cond, List, [], ◌∷◌, ◌++◌, length, take, Option, Some, None, refl, sym, ap, ◌∙◌, subst, arith, eqb-true, ltb-true, leb-true, lt-ltb, le-leb, eq-eqb, nat_lt, nat_le, length-append, take_at, get_or, take_all, take-suc, get_or-append-add, ap₂, codes}
use Rattle.std.proofs.lemmas.Grind.{common_steps}
use Rattle.std.proofs.lemmas.Bool.{and_parts}
use Rattle.std.proofs.lemmas.Option.{same_Some, none-some}
use Rattle.std.specs.List.{list_all}
use Rattle.std.specs.Char.{is_digit}
use Rattle.std.specs.Str.Parse.{AllDigits, digits_value}
use Rattle.itch_layouts.specs.Layouts.{Field, Form, Integer, Alpha, Value, Number, Bytes}
use Rattle.itch_text.specs.Values.{unescaped, padded, NumberText, ValueText, FieldText, FieldTexts}
use Rattle.itch_text.specs.Parsing.{after_prefix, number_in, between_quotes, fitting, padded_within, alpha_in, value_in, value_after_prefix, field_in, with_value, values_in}

-- a guarded result
pub guarded : {X : Type 0} (b : Bool) (o : Option X) (x : X) → cond b o None ≡ Some x → (b ≡ true) × (o ≡ Some x)
guarded true o x h = (refl, h)
guarded false o x h = absurd (none-some x h)

pub and_true : (x y : Bool) → x ≡ true → y ≡ true → (x && y) ≡ true
and_true x y h k = rw (h, k) refl

pub after_prefix_of : (prefix rest : List ℕ) → after_prefix prefix (prefix ++ rest) ≡ Some rest
after_prefix_of [] rest = refl
after_prefix_of (b ∷ prefix) rest = rw (eq-eqb b b refl) (after_prefix_of prefix rest)

pub after_prefix_splits : (prefix text rest : List ℕ) → after_prefix prefix text ≡ Some rest → text ≡ prefix ++ rest
after_prefix_splits [] text rest h = same_Some _ _ h
after_prefix_splits (b ∷ prefix) [] rest h = absurd (none-some rest h)
after_prefix_splits (b ∷ prefix) (c ∷ text) rest h =
    let both = guarded (b == c) (after_prefix prefix text) rest h in
    rw (eqb-true b c both.0, after_prefix_splits prefix text rest both.1) refl

all_digits : (text : List ℕ) → list_all (λ c. is_digit c 10) text ≡ true → AllDigits 10 text
all_digits [] h = tt
all_digits (c ∷ cs) h = let both = and_parts (is_digit c 10) (list_all (λ c. is_digit c 10) cs) h in (ltb-true _ _ both.0, all_digits cs both.1)

digits_pass : (text : List ℕ) → AllDigits 10 text → list_all (λ c. is_digit c 10) text ≡ true
digits_pass [] h = refl
digits_pass (c ∷ cs) h = and_true (is_digit c 10) (list_all (λ c. is_digit c 10) cs) (lt-ltb _ _ h.0) (digits_pass cs h.1)

pub number_sound : (text : List ℕ) (n : ℕ) → number_in text ≡ Some n → NumberText text n
unfolding number_in
number_sound text n h =
    let g = guarded (nat_lt 0 (length text) && (nat_le (length text) 20 && list_all (λ c. is_digit c 10) text)) (Some (digits_value 10 text)) n h in
    let p = and_parts (nat_lt 0 (length text)) (nat_le (length text) 20 && list_all (λ c. is_digit c 10) text) g.0 in
    let q = and_parts (nat_le (length text) 20) (list_all (λ c. is_digit c 10) text) p.1 in
    ((ltb-true 0 (length text) p.0, all_digits text q.1), leb-true (length text) 20 q.0, same_Some _ _ g.1)

pub number_complete : (text : List ℕ) (n : ℕ) → NumberText text n → number_in text ≡ Some n
unfolding number_in
number_complete text n h = rw (lt-ltb 0 (length text) h.0.0, le-leb (length text) 20 h.1, digits_pass text h.0.1, h.2) refl

last_is : (inner : List ℕ) → get_or (34 ∷ inner ++ 34 ∷ []) (length inner + 2 - 1) 0 ≡ 34
last_is inner = grind (arith, common_steps, get_or-append-add {A = ℕ})

ends_with : (bs : List ℕ) → 0 < length bs → bs ≡ take (length bs - 1) bs ++ get_or bs (length bs - 1) 0 ∷ []
ends_with bs h =
    let n : length bs ≡ suc (length bs - 1) = omega arith in
    sym (take_all (length bs) bs (omega arith)) ∙ ap (λ k. take k bs) n ∙ take-suc bs (length bs - 1) 0 (omega arith)

pub between_complete : (inner : List ℕ) → between_quotes (34 ∷ inner ++ 34 ∷ []) ≡ Some inner
unfolding between_quotes
between_complete inner =
    let n : length (34 ∷ inner ++ 34 ∷ []) ≡ length inner + 2 = omega (arith, length-append inner (34 ∷ [])) in
    let last : get_or (34 ∷ inner ++ 34 ∷ []) (length (34 ∷ inner ++ 34 ∷ []) - 1) 0 ≡ 34 = rw n (last_is inner) in
    let middle : take (length (34 ∷ inner ++ 34 ∷ []) - 2) (inner ++ 34 ∷ []) ≡ inner = take_at inner (34 ∷ []) (length (34 ∷ inner ++ 34 ∷ []) - 2) (omega (arith, n)) in
    rw (le-leb 2 (length (34 ∷ inner ++ 34 ∷ [])) (omega (arith, n)), last, middle) refl

last_of_cons : (b : ℕ) (bs : List ℕ) → 0 < length bs → get_or bs (length bs - 1) 0 ≡ get_or (b ∷ bs) (length (b ∷ bs) - 1) 0
last_of_cons b [] h = absurd (omega arith)
last_of_cons b (c ∷ bs) h = grind (arith, common_steps)

pub between_sound : (text inner : List ℕ) → between_quotes text ≡ Some inner → text ≡ 34 ∷ inner ++ 34 ∷ []
unfolding between_quotes
between_sound [] inner h = absurd (none-some inner h)
between_sound (b ∷ bs) inner h =
    let g = guarded (nat_le 2 (length (b ∷ bs)) && (b == 34 && get_or (b ∷ bs) (length (b ∷ bs) - 1) 0 == 34)) (Some (take (length (b ∷ bs) - 2) bs)) inner h in
    let p = and_parts (nat_le 2 (length (b ∷ bs))) (b == 34 && get_or (b ∷ bs) (length (b ∷ bs) - 1) 0 == 34) g.0 in
    let q = and_parts (b == 34) (get_or (b ∷ bs) (length (b ∷ bs) - 1) 0 == 34) p.1 in
    let long : 0 < length bs = omega (arith, leb-true 2 (length (b ∷ bs)) p.0) in
    let last : get_or bs (length bs - 1) 0 ≡ 34 = last_of_cons b bs long ∙ eqb-true _ 34 q.1 in
    let n : length bs - 1 ≡ length (b ∷ bs) - 2 = omega arith in
    let middle : take (length bs - 1) bs ≡ inner = ap (λ k. take k bs) n ∙ same_Some _ _ g.1 in
    ap₂ (λ x ys. x ∷ ys) (eqb-true b 34 q.0) (ends_with bs long ∙ rw (last, middle) refl)

fitting_some : (width : ℕ) (o : Option ℕ) (value : Value) → fitting width o ≡ Some value → (n : ℕ) × (o ≡ Some n) × (n < 256 ^ width) × (Number n ≡ value)
fitting_some width None value h = absurd (none-some value h)
fitting_some width (Some n) value h = let g = guarded (nat_lt n (256 ^ width)) (Some (Number n)) value h in (n, refl, ltb-true n (256 ^ width) g.0, same_Some _ _ g.1)

padded_some : (width : ℕ) (o : Option (List ℕ)) (value : Value) → padded_within width o ≡ Some value → (short : List ℕ) × (o ≡ Some short) × (length short ≤ width) × (Bytes (padded width short) ≡ value)
padded_some width None value h = absurd (none-some value h)
padded_some width (Some short) value h = let g = guarded (nat_le (length short) width) (Some (Bytes (padded width short))) value h in (short, refl, leb-true (length short) width g.0, same_Some _ _ g.1)

alpha_some : (width : ℕ) (o : Option (List ℕ)) (value : Value) → alpha_in width o ≡ Some value → (inner : List ℕ) × (o ≡ Some inner) × (short : List ℕ) × (unescaped inner ≡ Some short) × (length short ≤ width) × (Bytes (padded width short) ≡ value)
alpha_some width None value h = absurd (none-some value h)
alpha_some width (Some inner) value h = let g = padded_some width (unescaped inner) value h in (inner, refl, g.0, g.1, g.2, g.3)

pub value_sound : (form : Form) (width : ℕ) (text : List ℕ) (value : Value) → value_in form width text ≡ Some value → ValueText form width text value
value_sound Integer width text value h =
    let f = fitting_some width (number_in text) value h in
    subst (ValueText Integer width text) f.3 (number_sound text f.0 f.1, f.2)
value_sound Alpha width text value h =
    let f = alpha_some width (between_quotes text) value h in
    subst (ValueText Alpha width text) f.5 (record { inner = f.0; short = f.2; between = between_sound text f.0 f.1; denoted = f.3; within = f.4; filled = refl })

pub value_complete : (form : Form) (width : ℕ) (text : List ℕ) (value : Value) → ValueText form width text value → value_in form width text ≡ Some value
value_complete Integer width text (Number n) h = rw (number_complete text n h.0, lt-ltb n (256 ^ width) h.1) refl
value_complete Alpha width text (Bytes bytes) h = rw (h.between, between_complete h.inner, h.denoted, le-leb (length h.short) width h.within, h.filled) refl
value_complete Integer width text (Bytes bytes) h = absurd h
value_complete Alpha width text (Number n) h = absurd h

after_prefix_some : (field : Field) (o : Option (List ℕ)) (value : Value) → value_after_prefix field o ≡ Some value → (text : List ℕ) × (o ≡ Some text) × (value_in field.form field.width text ≡ Some value)
after_prefix_some field None value h = absurd (none-some value h)
after_prefix_some field (Some text) value h = (text, refl, h)

pub field_sound : (field : Field) (word : List ℕ) (value : Value) → field_in field word ≡ Some value → FieldText field word value
unfolding field_in
field_sound field word value h =
    let g = after_prefix_some field (after_prefix (field.name ++ codes "=") word) value h in
    (g.0, after_prefix_splits (field.name ++ codes "=") word g.0 g.1, value_sound field.form field.width g.0 value g.2)

pub field_complete : (field : Field) (word : List ℕ) (value : Value) → FieldText field word value → field_in field word ≡ Some value
unfolding field_in
field_complete field word value h =
    let at : after_prefix (field.name ++ codes "=") word ≡ Some h.0 = ap (after_prefix (field.name ++ codes "=")) h.1 ∙ after_prefix_of (field.name ++ codes "=") h.0 in
    rw at (value_complete field.form field.width h.0 value h.2)

with_some : (o : Option Value) (os : Option (List Value)) (all : List Value) → with_value o os ≡ Some all → (v : Value) × (o ≡ Some v) × (vs : List Value) × (os ≡ Some vs) × (v ∷ vs ≡ all)
with_some (Some v) (Some vs) all h = (v, refl, vs, refl, same_Some _ _ h)
with_some (Some v) None all h = absurd (none-some all h)
with_some None os all h = absurd (none-some all h)

pub values_sound : (fs : List Field) (ws : List (List ℕ)) (vs : List Value) → values_in fs ws ≡ Some vs → FieldTexts fs ws vs
values_sound [] [] vs h = subst (FieldTexts [] []) (same_Some _ _ h) tt
values_sound [] (w ∷ ws) vs h = absurd (none-some vs h)
values_sound (f ∷ fs) [] vs h = absurd (none-some vs h)
values_sound (f ∷ fs) (w ∷ ws) vs h =
    let g = with_some (field_in f w) (values_in fs ws) vs h in
    subst (FieldTexts (f ∷ fs) (w ∷ ws)) g.4 (field_sound f w g.0 g.1, values_sound fs ws g.2 g.3)

pub values_complete : (fs : List Field) (ws : List (List ℕ)) (vs : List Value) → FieldTexts fs ws vs → values_in fs ws ≡ Some vs
values_complete [] [] [] h = refl
values_complete (f ∷ fs) (w ∷ ws) (v ∷ vs) h = rw (field_complete f w v h.0, values_complete fs ws vs h.1) refl
values_complete [] [] (v ∷ vs) h = absurd h
values_complete [] (w ∷ ws) vs h = absurd h
values_complete (f ∷ fs) [] vs h = absurd h
values_complete (f ∷ fs) (w ∷ ws) [] h = absurd h

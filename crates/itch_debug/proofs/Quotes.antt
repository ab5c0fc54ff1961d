-- Lines with a quote in them.
use Rattle.std.proofs.Common.{◌≡◌, ◌⊎◌, ℕ, ◌^◌, ◌==◌, ◌&&◌, not, Bool, true, false, List, [], ◌∷◌, Option, Some, None, inl, inr, refl, sym, ap, ◌∙◌, eqb-true}
use Rattle.std.specs.Prelude.{◌||◌, if◌then◌else◌, nat_lt, nat_le, length, codes, option_map}
use Rattle.std.specs.Str.{bytes_eq}
use Rattle.std.specs.Char.{is_digit}
use Rattle.std.specs.List.{filter, list_all, list_any, onto_first}
use Rattle.std.proofs.lemmas.List.Folds.{list_any_at}
use Rattle.std.proofs.lemmas.Bool.{cases_Bool, false≢true}
use Rattle.std.proofs.lemmas.Slice.Eq.{bytes_eq-Decides}
use Rattle.itch_table.specs.declared.order.Side.{Side}
use Rattle.itch_text.specs.Characters.{quote_mark, space}
use Rattle.itch_text.specs.Parsing.{number_in}
use Rattle.itch_text.specs.Words.{is_word, pieces, words}
use Rattle.itch_debug.specs.declared.command.Command.TheVariants.{AddBreak, Goto, RemoveBreak, Show}
use Rattle.itch_debug.specs.Commands.{QuotesAreInNone, bare_command, break_of, command_of, command_of_words, number_below, numbered_command, other_command, price_at, price_break, reference_at, reference_break, side_of, time_break}

-- whether a quote stands in a text
abbrev has_quote : List ℕ → Bool
has_quote text = list_any (λ byte. byte == quote_mark) text

-- ---- words

or_assoc : (x y z : Bool) → ((x || y) || z) ≡ (x || (y || z))
or_assoc true y z = refl
or_assoc false y z = refl

or_false : (x : Bool) → (x || false) ≡ x
or_false true = refl
or_false false = refl

onto_quoted : (b : ℕ) (ps : List (List ℕ)) → list_any has_quote (onto_first b ps) ≡ ((b == quote_mark) || list_any has_quote ps)
onto_quoted b [] = or_assoc (b == quote_mark) false false
onto_quoted b (p ∷ ps) = or_assoc (b == quote_mark) (has_quote p) (list_any has_quote ps)

-- the pieces of a line have its quotes
pieces_quoted : (quoted : Bool) (line : List ℕ) → list_any has_quote (pieces quoted line) ≡ has_quote line
unfolding pieces
pieces_quoted quoted [] = refl
pieces_quoted true (b ∷ bs) =
    onto_quoted b (pieces (not (b == quote_mark)) bs) ∙ ap (λ (x : Bool). (b == quote_mark) || x) (pieces_quoted (not (b == quote_mark)) bs)
pieces_quoted false (b ∷ bs) = elim (cases_Bool (b == space)) [
  | inl on_it ↦
      let at : b ≡ space = eqb-true b space on_it in
      rw at (pieces_quoted false bs)
  | inr off_it ↦
      rw off_it (onto_quoted b (pieces (b == quote_mark) bs) ∙ ap (λ (x : Bool). (b == quote_mark) || x) (pieces_quoted (b == quote_mark) bs))
]

-- and so have its words
kept_quoted : (ps : List (List ℕ)) → list_any has_quote (filter is_word ps) ≡ list_any has_quote ps
kept_quoted [] = refl
kept_quoted ([] ∷ ps) = kept_quoted ps
kept_quoted ((b ∷ bs) ∷ ps) = ap (λ (x : Bool). has_quote (b ∷ bs) || x) (kept_quoted ps)

pub words_quoted : (line : List ℕ) → list_any has_quote (words line) ≡ has_quote line
unfolding words
words_quoted line = kept_quoted (pieces false line) ∙ pieces_quoted false line

-- ---- one word

-- a word with a quote is no word without one
pub no_name : (word name : List ℕ) → has_quote word ≡ true → has_quote name ≡ false → bytes_eq word name ≡ false
no_name word name on off = elim (cases_Bool (bytes_eq word name)) [
  | inl on_it ↦ absurd (false≢true (sym off ∙ ap has_quote (sym ((bytes_eq-Decides word name).0 on_it)) ∙ on))
  | inr off_it ↦ off_it
]

-- nor does it have digits alone
and_false : (x : Bool) → (x && false) ≡ false
and_false true = refl
and_false false = refl

no_digits : (word : List ℕ) → has_quote word ≡ true → list_all (λ c. is_digit c 10) word ≡ false
no_digits [] on = absurd (false≢true on)
no_digits (b ∷ bs) on = elim (cases_Bool (b == quote_mark)) [
  | inl on_it ↦
      let at : b ≡ quote_mark = eqb-true b quote_mark on_it in
      rw at refl
  | inr off_it ↦
      let rest : has_quote bs ≡ true = rw off_it at on in
      rw (no_digits bs rest) (and_false (is_digit b 10))
]

pub no_number : (word : List ℕ) → has_quote word ≡ true → number_in word ≡ None
unfolding number_in
no_number word on = rw (no_digits word on, and_false (nat_le (length word) 20), and_false (nat_lt 0 (length word))) refl

no_below : (limit : ℕ) (word : List ℕ) → has_quote word ≡ true → number_below limit word ≡ None
no_below limit word on = rw (no_number word on) refl

no_side : (word : List ℕ) → has_quote word ≡ true → side_of word ≡ None
no_side word on = rw (no_name word (codes "B") on refl, no_name word (codes "S") on refl) refl

-- ---- breakpoints

one_of : (x y : Bool) → (x || y) ≡ true → (x ≡ true) ⊎ (y ≡ true)
one_of true y on = inl refl
one_of false y on = inr on

either_none : {X : Type 0} (test : Bool) (x y : Option X) → x ≡ None → y ≡ None → (if test then x else y) ≡ None
either_none true x y is other = is
either_none false x y is other = other

without_side : (locate price : Option ℕ) → price_at locate None price ≡ None
without_side None price = refl
without_side (Some locate) price = refl

without_price : (locate : Option ℕ) (side : Option Side) → price_at locate side None ≡ None
without_price None side = refl
without_price (Some locate) None = refl
without_price (Some locate) (Some side) = refl

without_reference : (locate : Option ℕ) → reference_at locate None ≡ None
without_reference None = refl
without_reference (Some locate) = refl

no_price : (ws : List (List ℕ)) → list_any has_quote ws ≡ true → price_break ws ≡ None
no_price [] on = refl
no_price (l ∷ []) on = refl
no_price (l ∷ s ∷ []) on = refl
no_price (l ∷ s ∷ p ∷ []) on = elim (one_of (has_quote l) (has_quote s || (has_quote p || false)) on) [
  | inl first ↦ rw (no_below (2 ^ 16) l first) refl
  | inr later ↦ elim (one_of (has_quote s) (has_quote p || false) later) [
    | inl second ↦ rw (no_side s second) (without_side (number_below (2 ^ 16) l) (number_below (2 ^ 32) p))
    | inr last ↦ elim (one_of (has_quote p) false last) [
      | inl third ↦ rw (no_below (2 ^ 32) p third) (without_price (number_below (2 ^ 16) l) (side_of s))
      | inr none ↦ absurd (false≢true none)
    ]
  ]
]
no_price (l ∷ s ∷ p ∷ w ∷ ws) on = refl

no_reference : (ws : List (List ℕ)) → list_any has_quote ws ≡ true → reference_break ws ≡ None
no_reference [] on = refl
no_reference (l ∷ []) on = refl
no_reference (l ∷ r ∷ []) on = elim (one_of (has_quote l) (has_quote r || false) on) [
  | inl first ↦ rw (no_below (2 ^ 16) l first) refl
  | inr last ↦ elim (one_of (has_quote r) false last) [
    | inl second ↦ rw (no_below (2 ^ 64) r second) (without_reference (number_below (2 ^ 16) l))
    | inr none ↦ absurd (false≢true none)
  ]
]
no_reference (l ∷ r ∷ w ∷ ws) on = refl

no_time : (ws : List (List ℕ)) → list_any has_quote ws ≡ true → time_break ws ≡ None
no_time [] on = refl
no_time (t ∷ []) on = elim (one_of (has_quote t) false on) [
  | inl first ↦ rw (no_below (2 ^ 48) t first) refl
  | inr none ↦ absurd (false≢true none)
]
no_time (t ∷ w ∷ ws) on = refl

no_break : (ws : List (List ℕ)) → list_any has_quote ws ≡ true → break_of ws ≡ None
no_break [] on = refl
no_break (kind ∷ ws) on = elim (one_of (has_quote kind) (list_any has_quote ws) on) [
  | inl first ↦ rw (no_name kind (codes "price") first refl, no_name kind (codes "reference") first refl, no_name kind (codes "time") first refl) refl
  | inr later ↦ either_none _ _ _ (no_price ws later) (either_none _ _ _ (no_reference ws later) (either_none _ _ _ (no_time ws later) refl))
]

-- ---- commands

no_bare : (word : List ℕ) → has_quote word ≡ true → bare_command word ≡ None
no_bare word on =
    rw (
      no_name word (codes "step") on refl,
      no_name word (codes "back") on refl,
      no_name word (codes "onward") on refl,
      no_name word (codes "rearward") on refl,
      no_name word (codes "breaks") on refl,
      no_name word (codes "event") on refl,
      no_name word (codes "quit") on refl,
    ) refl

no_numbered : (word number : List ℕ) → (has_quote word || has_quote number) ≡ true → numbered_command word number ≡ None
no_numbered word number on = elim (one_of (has_quote word) (has_quote number) on) [
  | inl first ↦ rw (no_name word (codes "goto") first refl, no_name word (codes "remove") first refl, no_name word (codes "show") first refl) refl
  | inr second ↦
      let wide = no_below (2 ^ 64) number second in
      let narrow = no_below (2 ^ 16) number second in
      either_none _ _ _ (ap (option_map Goto) wide) (either_none _ _ _ (ap (option_map RemoveBreak) wide) (either_none _ _ _ (ap (option_map Show) narrow) refl))
]

no_other : (word : List ℕ) (ws : List (List ℕ)) → (has_quote word || list_any has_quote ws) ≡ true → other_command word ws ≡ None
no_other word [] on = elim (one_of (has_quote word) false on) [
  | inl first ↦ no_bare word first
  | inr none ↦ absurd (false≢true none)
]
no_other word (number ∷ []) on = no_numbered word number (ap (λ (x : Bool). has_quote word || x) (sym (or_false (has_quote number))) ∙ on)
no_other word (number ∷ more ∷ ws) on = refl

no_command : (ws : List (List ℕ)) → list_any has_quote ws ≡ true → command_of_words ws ≡ None
no_command [] on = absurd (false≢true on)
no_command (word ∷ ws) on = elim (one_of (has_quote word) (list_any has_quote ws) on) [
  | inl first ↦ rw (no_name word (codes "break") first refl) (no_other word ws on)
  | inr later ↦ either_none _ _ _ (ap (option_map AddBreak) (no_break ws later)) (no_other word ws on)
]

pub in_none : QuotesAreInNone
unfolding command_of
in_none line there =
    let on : has_quote line ≡ true = list_any_at (λ (b : ℕ). b == quote_mark) line there.0 quote_mark there.1 (rw there.2 refl) in
    either_none _ _ _ refl (no_command (words line) (words_quoted line ∙ on))

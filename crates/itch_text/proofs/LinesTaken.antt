-- A line taken where it stands, and the lines of a text taken one after another.
use Rattle.std.proofs.Common.{◌≡◌, ◌≢◌, ℕ, suc, ◌+◌, ◌<◌, ◌≤◌, List, [], ◌∷◌, ◌++◌, length, Option, Some, None, Err, option_map, option_and_then, MatchOption, refl, sym, ap, ◌∙◌, subst, arith, false, append_assoc, append-nil, length-append}
use Rattle.std.proofs.lemmas.Grind.{flat_map-append}
use Rattle.std.proofs.lemmas.Option.{same_Some, none-some}
use Rattle.std.specs.List.{flat_map}
use Rattle.itch_text.specs.Words.{words}
use Rattle.itch_text.specs.Items.{Item, Denotes, Line, is_comment, item_bytes}
use Rattle.itch_text.specs.Order.{next_place, place_after, place_after_all}
use Rattle.itch_text.specs.Text.{Lines, lines_of}
use Rattle.itch_text.specs.Faults.{Name, name_of, kind_of_name, IsWrong, IsWrongByName, IsFirstFault}
use Rattle.itch_text.specs.Parsing.{item_in}
use Rattle.itch_text.specs.Fields.{extended, Puts}
use Rattle.itch_text.specs.Steps.{LineTaken, TakesLine, fault_at}
use Rattle.itch_text.specs.Blames.{DenotesNothing}
use Rattle.itch_text.specs.declared.assembler.AsmFault.TheVariants.{Memory as MemoryRefused}
use Rattle.itch_text.specs.declared.place.Place.{Place}
use Rattle.itch_text.specs.declared.place.Place.TheVariants.{Entries}
use Rattle.itch_text.specs.declared.fault.LineFault.{LineFault}
use Rattle.itch_text.specs.declared.fault.LineError.{LineError}
use Rattle.itch_text.specs.declared.fault.LineError.TheVariants.{Memory, Wrong}
use Rattle.itch_text.proofs.ItemParsing.{item_complete, item_sound}
use Rattle.itch_text.proofs.WholeTexts.{chained, named_place, nothing_denoted}

-- ---- one line
taken_by : (old new : List ℕ) (place next : Place) (line w : List ℕ) (ws : List (List ℕ)) (name : Name) (o : Option Item) → item_in name ws ≡ o → words line ≡ w ∷ ws → name_of w ≡ Some name → next_place place (kind_of_name name) ≡ Some next → extended old (option_map item_bytes o) ≡ Some new → LineTaken old new place line next
taken_by old new place next line w ws name None i e n m h = absurd (none-some new h)
taken_by old new place next line w ws name (Some item) i e n m h = record {
  item = item;
  denoted = subst (λ xs. Denotes xs item) (sym e) (item_sound w ws item name n i);
  ordered = named_place place name ws item i ∙ m;
  wrote = sym (same_Some _ _ h);
}

pub line_taken : (old new : List ℕ) (place next : Place) (line w : List ℕ) (ws : List (List ℕ)) (name : Name) → words line ≡ w ∷ ws → Some name ≡ name_of w → next_place place (kind_of_name name) ≡ Some next → extended old (option_map item_bytes (item_in name ws)) ≡ Some new → LineTaken old new place line next
line_taken old new place next line w ws name e n m h = taken_by old new place next line w ws name (item_in name ws) refl e (sym n) m h

no_item : (o : Option Item) (item : Item) → option_map item_bytes o ≡ None → o ≡ Some item → ⊥
no_item None item h k = none-some item k
no_item (Some x) item h k = none-some (item_bytes x) (sym h)

pub line_refused : (old new : List ℕ) (place next : Place) (line w : List ℕ) (ws : List (List ℕ)) (name : Name) (error : LineError) → words line ≡ w ∷ ws → is_comment w ≡ false → Some name ≡ name_of w → next_place place (kind_of_name name) ≡ Some next → Puts old new (option_map item_bytes (item_in name ws)) (Err error) → TakesLine old new place line (Err error)
line_refused old new place next line w ws name Memory e c n m h = tt
line_refused old new place next line w ws name (Wrong fault) e c n m h =
    let wrong : (item : Item) → Denotes (w ∷ ws) item → ⊥ = λ item d. no_item (item_in name ws) item h.1 (rw (c, sym n) at (item_complete (w ∷ ws) item d)) in
    let there : IsWrongByName place (name_of w) (w ∷ ws) fault = rw (sym n, m) (h.0, wrong) in
    subst (λ xs. IsWrong place xs fault) (sym e) (c, there)

-- ---- all lines

-- this many lines of the text were taken, their bytes are these, the next line stands at this place, and these are left
pub record Taken (text bytes : List ℕ) (place : Place) (number : ℕ) (left : List (List ℕ)) : Type 0 where
  pub before : List (List ℕ)
  pub items : List Item
  pub split : lines_of text ≡ before ++ left
  pub counted : number ≡ length before
  pub denoted : Lines before items
  pub ordered : place_after_all Entries items ≡ Some place
  pub wrote : bytes ≡ flat_map item_bytes items

pub none_taken : (text : List ℕ) → Taken text [] Entries 0 (lines_of text)
none_taken text = record { before = []; items = []; split = refl; counted = refl; denoted = tt; ordered = refl; wrote = refl }

lines_more : (before : List (List ℕ)) (items : List Item) (line : List ℕ) (item : Item) → Lines before items → Line line item → Lines (before ++ line ∷ []) (items ++ item ∷ [])
lines_more [] [] line item h k = (k, tt)
lines_more (l ∷ before) (i ∷ items) line item h k = (h.0, lines_more before items line item h.1 k)
lines_more [] (i ∷ items) line item h k = absurd h
lines_more (l ∷ before) [] line item h k = absurd h

ordered_more : (place at next : Place) (items : List Item) (item : Item) → place_after_all place items ≡ Some at → place_after at item ≡ Some next → place_after_all place (items ++ item ∷ []) ≡ Some next
ordered_more place at next [] item h s =
    ap (option_and_then (λ p. place_after_all p [])) (ap (λ p. place_after p item) (same_Some _ _ h) ∙ s)
ordered_more place at next (i ∷ items) item h s =
    let c = chained (λ p. place_after_all p items) (place_after place i) at h in
    ap (option_and_then (λ p. place_after_all p (items ++ item ∷ []))) c.1 ∙ ordered_more c.0 at next items item c.2 s

pub one_more_taken : (text bytes new : List ℕ) (place next : Place) (number : ℕ) (line : List ℕ) (left : List (List ℕ)) → Taken text bytes place number (line ∷ left) → LineTaken bytes new place line next → Taken text new next (number + 1) left
one_more_taken text bytes new place next number line left t l = record {
  before = t.before ++ line ∷ [];
  items = t.items ++ l.item ∷ [];
  split = t.split ∙ sym (append_assoc t.before (line ∷ []) left);
  counted = omega (arith, t.counted, length-append t.before (line ∷ []));
  denoted = lines_more t.before t.items line l.item t.denoted l.denoted;
  ordered = ordered_more Entries place next t.items l.item t.ordered l.ordered;
  wrote = l.wrote ∙ ap (λ xs. xs ++ item_bytes l.item) t.wrote ∙ ap (λ xs. flat_map item_bytes t.items ++ xs) (sym (append-nil (item_bytes l.item))) ∙ sym (flat_map-append item_bytes t.items (l.item ∷ []));
}

pub first_fault : (text bytes : List ℕ) (place : Place) (number : ℕ) (line : List ℕ) (left : List (List ℕ)) (fault : LineFault) → Taken text bytes place number (line ∷ left) → IsWrong place (words line) fault → IsFirstFault text (number + 1) fault
first_fault text bytes place number line left fault t w = record {
  before = t.before;
  line = line;
  rest = left;
  items = t.items;
  place = place;
  split = t.split;
  counted = omega (arith, t.counted);
  denoted = t.denoted;
  ordered = t.ordered;
  wrong = w;
}

-- ---- the text that is left
abbrev pub lines_left : Option (List ℕ) → List (List ℕ)
lines_left None = []
lines_left (Some text) = lines_of text

abbrev pub left_len : Option (List ℕ) → ℕ
left_len None = 0
left_len (Some text) = suc (length text)

pub split_lines : {X : Type 0} (f : X → List ℕ) (text line : List ℕ) (o : Option X) → MatchOption o (lines_of text ≡ line ∷ []) (λ r. (lines_of text ≡ line ∷ lines_of (f r)) × (length (f r) < length text)) → lines_of text ≡ line ∷ lines_left (option_map f o)
split_lines f text line None h = h
split_lines f text line (Some r) h = h.0

pub left_shorter : {X : Type 0} (f : X → List ℕ) (text line : List ℕ) (o : Option X) → MatchOption o (lines_of text ≡ line ∷ []) (λ r. (lines_of text ≡ line ∷ lines_of (f r)) × (length (f r) < length text)) → left_len (option_map f o) ≤ length text
left_shorter f text line None h = omega arith
left_shorter f text line (Some r) h = omega (arith, h.1)

-- ---- a line that wasn't taken
pub fault_denotes_nothing : (text bytes new : List ℕ) (place : Place) (number : ℕ) (line : List ℕ) (left : List (List ℕ)) (error : LineError) → Taken text bytes place number (line ∷ left) → TakesLine bytes new place line (Err error) → fault_at (number + 1) error ≢ MemoryRefused → DenotesNothing text
fault_denotes_nothing text bytes new place number line left Memory t h n = absurd (n refl)
fault_denotes_nothing text bytes new place number line left (Wrong fault) t h n = nothing_denoted text (number + 1) fault (first_fault text bytes place number line left fault t h)

-- What each layout of the table has, so that its messages can be printed and parsed again.
use Rattle.std.proofs.Common.{◌≡◌, ℕ, ◌≤◌, ◌==◌, ◌&&◌, Bool, true, false, cond, List, [], ◌∷◌, Option, Some, refl, subst, arith, eqb-true}
use Rattle.std.proofs.lemmas.Bool.{and_parts}
use Rattle.std.proofs.lemmas.Bool.Decides.{nat_tests}
use Rattle.std.proofs.lemmas.Option.{none-some, same_Some}
use Rattle.std.specs.List.{list_all, find, AllByRecursion as Each}
use Rattle.itch_layouts.specs.Layouts.{Layout, Field, Form, Integer, Alpha, layout_of_kind, table, fields, layout_of_mnemonic}
use Rattle.itch_layouts.specs.Soundness.{is_word as is_name, is_word_byte, is_width, is_sound, is_sound_field, tiles}
use Rattle.itch_layouts.proofs.SoundLayouts.{of_kind}
use Rattle.itch_layouts.proofs.EncodedFields.{Tile, tile_of}
use Rattle.itch_text.specs.Words.{is_word}
use Rattle.itch_print.proofs.OneWord.{IsHigh}
use Rattle.itch_print.proofs.PrintedValues.{IsWidth}

-- a name has at least one byte, and only high ones
pub record IsName (name : List ℕ) : Type 0 where
  pub word : is_word name ≡ true
  pub high : Each IsHigh name

pub record IsPrintableField (field : Field) : Type 0 where
  pub name : IsName field.name
  pub width : IsWidth field.form field.width

pub record IsPrintable (kind : ℕ) (layout : Layout) : Type 0 where
  pub kind_is : layout.kind ≡ kind
  pub named_so : layout_of_mnemonic layout.mnemonic ≡ Some layout
  pub tiled : Tile 1 (fields layout) layout.size
  pub name : IsName layout.mnemonic
  pub fields_are : Each IsPrintableField (fields layout)

high_byte : (b : ℕ) → is_word_byte b ≡ true → 48 ≤ b
high_byte b h = grind (arith, nat_tests)

high_bytes : (bs : List ℕ) → list_all is_word_byte bs ≡ true → Each IsHigh bs
high_bytes [] h = tt
high_bytes (b ∷ bs) h = let p = and_parts (is_word_byte b) (list_all is_word_byte bs) h in (high_byte b p.0, high_bytes bs p.1)

name_of : (name : List ℕ) → is_name name ≡ true → IsName name
name_of [] h = cc
name_of (b ∷ bs) h = record { word = refl; high = high_bytes (b ∷ bs) h }

width_of : (form : Form) (width : ℕ) → is_width form width ≡ true → IsWidth form width
width_of Integer width h = grind (arith, nat_tests)
width_of Alpha width h = tt

printable_fields : (fs : List Field) → list_all is_sound_field fs ≡ true → Each IsPrintableField fs
printable_fields [] h = tt
printable_fields (f ∷ fs) h =
    let p = and_parts (is_sound_field f) (list_all is_sound_field fs) h in
    let q = and_parts (is_name f.name) (is_width f.form f.width) p.0 in
    (record { name = name_of f.name q.0; width = width_of f.form f.width q.1 }, printable_fields fs p.1)

-- a layout is known by its mnemonic
abbrev IsNamed : Layout → Type 0
IsNamed layout = layout_of_mnemonic layout.mnemonic ≡ Some layout

all_named : Each IsNamed table
unfolding layout_of_mnemonic
all_named = (refl, (refl, (refl, (refl, (refl, (refl, (refl, (refl, (refl, (refl, (refl, (refl, (refl, (refl, (refl, (refl, (refl, (refl, (refl, (refl, (refl, (refl, tt))))))))))))))))))))))

found_by : {X : Type 0} (P : X → Type 0) (p : X → Bool) (y : X) (o : Option X) (x : X) (b : Bool) → p y ≡ b → P y → (o ≡ Some x → P x × (p x ≡ true)) → cond b (Some y) o ≡ Some x → P x × (p x ≡ true)
found_by P p y o x true e h k q = subst (λ z. P z × (p z ≡ true)) (same_Some _ _ q) (h, e)
found_by P p y o x false e h k q = k q

-- what holds of all holds of the one that is found, and it passes the test
found : {X : Type 0} (P : X → Type 0) (p : X → Bool) (xs : List X) (x : X) → Each P xs → find p xs ≡ Some x → P x × (p x ≡ true)
found P p [] x h e = absurd (none-some x e)
found P p (y ∷ ys) x h e = found_by P p y (find p ys) x (p y) refl h.0 (λ q. found P p ys x h.1 q) e

named_layout : (kind : ℕ) (layout : Layout) → layout_of_kind kind ≡ Some layout → IsNamed layout × (layout.kind ≡ kind)
unfolding layout_of_kind
named_layout kind layout h =
    let f = found IsNamed (λ (r : Layout). r.kind == kind) table layout all_named h in
    (f.0, eqb-true layout.kind kind f.1)

pub printable : (kind : ℕ) (layout : Layout) → layout_of_kind kind ≡ Some layout → IsPrintable kind layout
printable kind layout h =
    let n = named_layout kind layout h in
    let sound : is_sound layout ≡ true = of_kind kind layout h in
    let p = and_parts (is_name layout.mnemonic && list_all is_sound_field (fields layout)) (tiles 1 (fields layout) layout.size) sound in
    let q = and_parts (is_name layout.mnemonic) (list_all is_sound_field (fields layout)) p.0 in
    record {
      kind_is = n.1;
      named_so = n.0;
      tiled = tile_of 1 (fields layout) layout.size p.1;
      name = name_of layout.mnemonic q.0;
      fields_are = printable_fields (fields layout) q.1;
    }

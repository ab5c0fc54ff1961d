-- A text denotes at most one string of bytes, and none where a line of it is wrong; it has at most one first faulty
-- line.
use Rattle.std.proofs.Common.{◌≡◌, ℕ, suc, IsSome, List, [], ◌∷◌, ◌++◌, length, Option, Some, None, option_and_then, refl, sym, ap, ap₂, ◌∙◌, subst}
use Rattle.std.proofs.lemmas.Bool.{false≢true}
use Rattle.std.proofs.lemmas.Option.{same_Some, none-some}
use Rattle.std.specs.List.{flat_map}
use Rattle.itch_layouts.specs.Layouts.{fields}
use Rattle.itch_layouts.specs.Encoding.{encoding}
use Rattle.itch_text.specs.Words.{words}
use Rattle.itch_text.specs.Items.{Item, Entry, End, Cut, Rest, Denotes, item_bytes}
use Rattle.itch_text.specs.Order.{next_place, place_after, place_after_all}
use Rattle.itch_text.specs.Text.{Lines, Text, lines_of, HasOneMeaning}
use Rattle.itch_text.specs.Faults.{Name, Message, RawName, EndName, CutName, RestName, name_of, kind_of_name, IsWrong, IsWrongByName, IsWrongWhereItStands, IsFirstFault, HasOneFirstFault}
use Rattle.itch_text.specs.Parsing.{hex_in, is_partial, is_short, when, item_in, values_in}
use Rattle.itch_text.specs.declared.place.Place.{Place}
use Rattle.itch_text.specs.declared.place.Place.TheVariants.{Entries}
use Rattle.itch_text.specs.declared.fault.LineFault.{LineFault}
use Rattle.itch_text.proofs.ItemParsing.{item_complete, named_item, one_item, map_some}

-- lines denote at most one list of items
one_list : (lines : List (List ℕ)) (xs ys : List Item) → Lines lines xs → Lines lines ys → xs ≡ ys
one_list [] [] [] h k = refl
one_list (line ∷ lines) (x ∷ xs) (y ∷ ys) h k = ap₂ (λ z zs. z ∷ zs) (one_item (words line) x y h.0 k.0) (one_list lines xs ys h.1 k.1)
one_list [] [] (y ∷ ys) h k = absurd k
one_list [] (x ∷ xs) ys h k = absurd h
one_list (line ∷ lines) [] ys h k = absurd h
one_list (line ∷ lines) (x ∷ xs) [] h k = absurd k

pub one_meaning : HasOneMeaning
one_meaning text a b h k = h.whole ∙ ap (flat_map item_bytes) (one_list (lines_of text) h.items k.items h.denoted k.denoted) ∙ sym k.whole

-- what an item and its name have in common
abbrev pub IsNamed : Name → Item → Type 0
IsNamed (Message layout) item = (payload : List ℕ) × (item ≡ Entry payload)
IsNamed RawName item = (payload : List ℕ) × (item ≡ Entry payload)
IsNamed EndName item = item ≡ End
IsNamed CutName item = (bytes : List ℕ) × (item ≡ Cut bytes)
IsNamed RestName item = (bytes : List ℕ) × (item ≡ Rest bytes)

pub item_named : (name : Name) (ws : List (List ℕ)) (item : Item) → item_in name ws ≡ Some item → IsNamed name item
item_named (Message layout) ws item h = let v = map_some (λ vs. Entry (layout.kind ∷ encoding (fields layout) vs)) (values_in (fields layout) ws) item h in (layout.kind ∷ encoding (fields layout) v.0, sym v.2)
item_named RawName ws item h = let v = map_some Entry (when is_short (hex_in ws)) item h in (v.0, sym v.2)
item_named EndName [] item h = cc
item_named EndName (w ∷ ws) item h = absurd (none-some item h)
item_named CutName ws item h = let v = map_some Cut (when is_partial (hex_in ws)) item h in (v.0, sym v.2)
item_named RestName ws item h = let v = map_some Rest (hex_in ws) item h in (v.0, sym v.2)

-- an item may stand where its name may, and the next line stands at the same place
pub named_place : (place : Place) (name : Name) (ws : List (List ℕ)) (item : Item) → item_in name ws ≡ Some item → place_after place item ≡ next_place place (kind_of_name name)
named_place place (Message layout) ws item h = rw (item_named (Message layout) ws item h).1 refl
named_place place RawName ws item h = rw (item_named RawName ws item h).1 refl
named_place place EndName ws item h = rw (item_named EndName ws item h) refl
named_place place CutName ws item h = rw (item_named CutName ws item h).1 refl
named_place place RestName ws item h = rw (item_named RestName ws item h).1 refl

-- ---- a line that is wrong where it stands denotes nothing that may stand there
wrong_place : (o : Option Place) (place next : Place) (name : Name) (ws : List (List ℕ)) (w : List ℕ) (fault : LineFault) (item : Item) → next_place place (kind_of_name name) ≡ o → IsWrongWhereItStands o (w ∷ ws) fault → Denotes (w ∷ ws) item → item_in name ws ≡ Some item → place_after place item ≡ Some next → ⊥
wrong_place (Some p) place next name ws w fault item e h d i s = h.1 item d
wrong_place None place next name ws w fault item e h d i s = none-some next (sym e ∙ sym (named_place place name ws item i) ∙ s)

wrong_name : (o : Option Name) (place next : Place) (ws : List (List ℕ)) (w : List ℕ) (fault : LineFault) (item : Item) → IsWrongByName place o (w ∷ ws) fault → Denotes (w ∷ ws) item → named_item o ws ≡ Some item → place_after place item ≡ Some next → ⊥
wrong_name None place next ws w fault item h d i s = none-some item i
wrong_name (Some name) place next ws w fault item h d i s = wrong_place (next_place place (kind_of_name name)) place next name ws w fault item refl h d i s

nothing_right : (place next : Place) (ws : List (List ℕ)) (fault : LineFault) (item : Item) → IsWrong place ws fault → Denotes ws item → place_after place item ≡ Some next → ⊥
nothing_right place next [] fault item h d s = absurd h
nothing_right place next (w ∷ ws) fault item h d s = wrong_name (name_of w) place next ws w fault item h.1 d (rw h.0 at (item_complete (w ∷ ws) item d)) s

-- ---- lines that denote items in order, and after them a line that is wrong
record WrongAfter (place : Place) (before : List (List ℕ)) (line : List ℕ) (fault : LineFault) : Type 0 where
  items : List Item
  reached : Place
  denoted : Lines before items
  ordered : place_after_all place items ≡ Some reached
  wrong : IsWrong reached (words line) fault

first_wrong : (text : List ℕ) (number : ℕ) (fault : LineFault) (f : IsFirstFault text number fault) → WrongAfter Entries f.before f.line fault
first_wrong text number fault f = record { items = f.items; reached = f.place; denoted = f.denoted; ordered = f.ordered; wrong = f.wrong }

-- a step that succeeds, and another from where it leads
pub chained : {X Y : Type 0} (f : X → Option Y) (o : Option X) (y : Y) → option_and_then f o ≡ Some y → (x : X) × (o ≡ Some x) × (f x ≡ Some y)
chained f None y h = absurd (none-some y h)
chained f (Some x) y h = (x, refl, h)

-- with no line before it, the line is wrong at once
here_by : (place reached : Place) (line : List ℕ) (fault : LineFault) (items : List Item) → Lines [] items → place_after_all place items ≡ Some reached → IsWrong reached (words line) fault → IsWrong place (words line) fault
here_by place reached line fault [] h o w = subst (λ p. IsWrong p (words line) fault) (sym (same_Some _ _ o)) w
here_by place reached line fault (item ∷ items) h o w = absurd h

here : (place : Place) (line : List ℕ) (fault : LineFault) → WrongAfter place [] line fault → IsWrong place (words line) fault
here place line fault w = here_by place w.reached line fault w.items w.denoted w.ordered w.wrong

-- a line before it denotes an item, and the other lines lead on from the place after that
record Later (place : Place) (first : List ℕ) (before : List (List ℕ)) (line : List ℕ) (fault : LineFault) : Type 0 where
  item : Item
  next : Place
  denoted : Denotes (words first) item
  step : place_after place item ≡ Some next
  others : WrongAfter next before line fault

later_by : (place reached : Place) (first : List ℕ) (before : List (List ℕ)) (line : List ℕ) (fault : LineFault) (items : List Item) → Lines (first ∷ before) items → place_after_all place items ≡ Some reached → IsWrong reached (words line) fault → Later place first before line fault
later_by place reached first before line fault [] h o w = absurd h
later_by place reached first before line fault (item ∷ items) h o w =
    let c = chained (λ next. place_after_all next items) (place_after place item) reached o in
    record {
      item = item;
      next = c.0;
      denoted = h.0;
      step = c.1;
      others = record { items = items; reached = reached; denoted = h.1; ordered = c.2; wrong = w };
    }

later : (place : Place) (first : List ℕ) (before : List (List ℕ)) (line : List ℕ) (fault : LineFault) → WrongAfter place (first ∷ before) line fault → Later place first before line fault
later place first before line fault w = later_by place w.reached first before line fault w.items w.denoted w.ordered w.wrong

-- ---- a text with a faulty line denotes nothing
no_items : (place last : Place) (before : List (List ℕ)) (line : List ℕ) (rest : List (List ℕ)) (fault : LineFault) (items : List Item) → WrongAfter place before line fault → Lines (before ++ line ∷ rest) items → place_after_all place items ≡ Some last → ⊥
no_items place last [] line rest fault [] w d o = absurd d
no_items place last [] line rest fault (item ∷ items) w d o =
    let c = chained (λ next. place_after_all next items) (place_after place item) last o in
    nothing_right place c.0 (words line) fault item (here place line fault w) d.0 c.1
no_items place last (first ∷ before) line rest fault [] w d o = absurd d
no_items place last (first ∷ before) line rest fault (item ∷ items) w d o =
    let c = chained (λ next. place_after_all next items) (place_after place item) last o in
    let l = later place first before line fault w in
    let same : l.item ≡ item = one_item (words first) l.item item l.denoted d.0 in
    let at : l.next ≡ c.0 = same_Some _ _ (sym l.step ∙ ap (place_after place) same ∙ c.1) in
    no_items c.0 last before line rest fault items (subst (λ p. WrongAfter p before line fault) at l.others) d.1 c.2

some_of : {X : Type 0} (o : Option X) → IsSome o → (x : X) × (o ≡ Some x)
some_of None h = absurd (false≢true h)
some_of (Some x) h = (x, refl)

pub nothing_denoted : (text : List ℕ) (number : ℕ) (fault : LineFault) → IsFirstFault text number fault → (bytes : List ℕ) → Text text bytes → ⊥
nothing_denoted text number fault f bytes t =
    let last = some_of (place_after_all Entries t.items) t.ordered in
    no_items Entries last.0 f.before f.line f.rest fault t.items (first_wrong text number fault f) (subst (λ ls. Lines ls t.items) f.split t.denoted) last.1

-- ---- a text has one first faulty line, and it has one fault
one_fault_there : (o : Option Place) (ws : List (List ℕ)) (f g : LineFault) → IsWrongWhereItStands o ws f → IsWrongWhereItStands o ws g → f ≡ g
one_fault_there None ws f g h k = h ∙ sym k
one_fault_there (Some next) ws f g h k = h.0 ∙ sym k.0

one_fault_named : (o : Option Name) (place : Place) (ws : List (List ℕ)) (f g : LineFault) → IsWrongByName place o ws f → IsWrongByName place o ws g → f ≡ g
one_fault_named None place ws f g h k = h ∙ sym k
one_fault_named (Some name) place ws f g h k = one_fault_there (next_place place (kind_of_name name)) ws f g h k

one_fault : (place : Place) (ws : List (List ℕ)) (f g : LineFault) → IsWrong place ws f → IsWrong place ws g → f ≡ g
one_fault place [] f g h k = absurd h
one_fault place (w ∷ ws) f g h k = one_fault_named (name_of w) place (w ∷ ws) f g h.1 k.1

-- a line that is wrong denotes no item that others follow
not_later : (place : Place) (line first last : List ℕ) (before : List (List ℕ)) (f g : LineFault) → line ≡ first → WrongAfter place [] line f → WrongAfter place (first ∷ before) last g → ⊥
not_later place line first last before f g e v w =
    let l = later place first before last g w in
    nothing_right place l.next (words line) f l.item (here place line f v) (subst (λ x. Denotes (words x) l.item) (sym e) l.denoted) l.step

one_first : (place : Place) (before others : List (List ℕ)) (line other : List ℕ) (rest left : List (List ℕ)) (f g : LineFault) → before ++ line ∷ rest ≡ others ++ other ∷ left → WrongAfter place before line f → WrongAfter place others other g → (length before ≡ length others) × (f ≡ g)
one_first place [] [] line other rest left f g e v w =
    let same : line ≡ other = cc in
    (refl, one_fault place (words line) f g (here place line f v) (subst (λ x. IsWrong place (words x) g) (sym same) (here place other g w)))
one_first place [] (o ∷ others) line other rest left f g e v w = absurd (not_later place line o other others f g (cc) v w)
one_first place (b ∷ before) [] line other rest left f g e v w = absurd (not_later place other b line before g f (cc) w v)
one_first place (b ∷ before) (o ∷ others) line other rest left f g e v w =
    let l = later place b before line f v in
    let k = later place o others other g w in
    let first : b ≡ o = cc in
    let same : l.item ≡ k.item = one_item (words b) l.item k.item l.denoted (subst (λ x. Denotes (words x) k.item) (sym first) k.denoted) in
    let at : k.next ≡ l.next = same_Some _ _ (sym k.step ∙ ap (place_after place) (sym same) ∙ l.step) in
    let r = one_first l.next before others line other rest left f g (cc) l.others (subst (λ p. WrongAfter p others other g) at k.others) in
    (ap suc r.0, r.1)

pub one_first_fault : HasOneFirstFault
one_first_fault text m n f g h k =
    let one = one_first Entries h.before k.before h.line k.line h.rest k.rest f g (sym h.split ∙ k.split) (first_wrong text m f h) (first_wrong text n g k) in
    (h.counted ∙ ap suc one.0 ∙ sym k.counted, one.1)

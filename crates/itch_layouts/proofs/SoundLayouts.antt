-- Every layout of the table is sound.
use Rattle.std.proofs.Common.{◌≡◌, ◌==◌, ◌<◌, ℕ, refl, ap, List, Some, true, IsTrue, length, get_or, map, subst}
use Rattle.std.proofs.lemmas.List.{get_or-map, length-map}
use Rattle.std.proofs.lemmas.List.Sums.{AllPass-from_list_all}
use Rattle.std.specs.List.{list_all}
use Rattle.itch_layouts.specs.Layouts.{Layout, table, layout_of_kind}
use Rattle.itch_layouts.specs.Soundness.{is_sound}
use Rattle.itch_layouts.proofs.Finding.{same_on_found}

-- the layout of a type
pub of_kind : (kind : ℕ) (layout : Layout) → layout_of_kind kind ≡ Some layout → IsTrue (is_sound layout)
unfolding layout_of_kind
of_kind kind layout is = same_on_found is_sound (λ (l : Layout). true) (λ (l : Layout). l.kind == kind) table layout refl is

-- an item of the program's table
pub item_sound : {X : Type 0} (f : X → Layout) (items : List X) (k : ℕ) (d : X) → map f items ≡ table → k < length items → IsTrue (is_sound (f (get_or items k d)))
item_sound f items k d is l =
    let within : k < length (map f items) = simp length-map l in
    subst (λ (layout : Layout). IsTrue (is_sound layout)) (get_or-map f items k d (f d) l) (AllPass-from_list_all is_sound (map f items) (ap (list_all is_sound) is) k (f d) within)

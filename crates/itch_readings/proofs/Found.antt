-- A stock of a day that is looked for, message by message.
use Rattle.std.proofs.Common.{◌≡◌, ◌+◌, ℕ, List, [], ◌∷◌, ◌++◌, length, refl, sym, ap, subst, ◌∙◌, append-nil}
use Rattle.std.proofs.lemmas.List.{append_assoc}
use Rattle.itch_readings.specs.Naming.{NamesNone, NamesStock}
use Rattle.itch_readings.specs.Searching.{HasSearched, Search}
use Rattle.itch_readings.specs.declared.naming.StockName.{StockName}
use Rattle.itch_readings.proofs.LongerDays.{names_more}

-- the messages before the rest of a day were searched
pub record IsSearching (day rest : List (List ℕ)) (name : StockName) (search : Search) : Type 0 where
  pub so_far : List (List ℕ)
  pub whole : so_far ++ rest ≡ day
  pub searched : HasSearched so_far search
  pub name_is : search.name ≡ name

pub searching_first : (day : List (List ℕ)) (name : StockName) (search : Search) → HasSearched [] search → search.name ≡ name → IsSearching day day name search
searching_first day name search searched is = record { so_far = []; whole = refl; searched = searched; name_is = is }

module _ (day rest : List (List ℕ)) (name : StockName) (search : Search) (before : IsSearching day rest name search)
    (payload : List ℕ) (more : List (List ℕ)) (goes_on : rest ≡ payload ∷ more) where
  whole_now : (before.so_far ++ payload ∷ []) ++ more ≡ day
  whole_now = append_assoc before.so_far (payload ∷ []) more ∙ ap (λ (l : List (List ℕ)). before.so_far ++ l) (sym goes_on) ∙ before.whole

  pub searching_next : (next : Search) → next.name ≡ search.name → HasSearched (before.so_far ++ payload ∷ []) next → IsSearching day more name next
  searching_next next same searched = record { so_far = before.so_far ++ payload ∷ []; whole = whole_now; searched = searched; name_is = same ∙ before.name_is }

  pub found_now : (locate : ℕ) → NamesStock (before.so_far ++ payload ∷ []) search.name (length before.so_far + 1) locate → (n : ℕ) × NamesStock day name n locate
  found_now locate named = (
    length before.so_far + 1,
    subst (λ (s : StockName). NamesStock day s (length before.so_far + 1) locate) before.name_is
        (subst (λ (d : List (List ℕ)). NamesStock d search.name (length before.so_far + 1) locate) whole_now
        (names_more (before.so_far ++ payload ∷ []) more search.name (length before.so_far + 1) locate named)),
  )

pub found_none : (day rest : List (List ℕ)) (name : StockName) (search : Search) → IsSearching day rest name search → rest ≡ [] → NamesNone day name
found_none day rest name search before none =
    let all : before.so_far ≡ day = sym (append-nil before.so_far) ∙ ap (λ (l : List (List ℕ)). before.so_far ++ l) (sym none) ∙ before.whole in
    subst (λ (d : List (List ℕ)). NamesNone d name) all (subst (λ (s : StockName). NamesNone before.so_far s) before.name_is before.searched.none)

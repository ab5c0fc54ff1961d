-- The rule of a cell where one view changes.
use Rattle.std.proofs.Common.{◌≡◌, ◌≢◌, ℕ, Bool, zero, suc, ◌%◌, ◌≤◌, true, false, true≢false, List, [], ◌∷◌, map, length, set, inl, refl, sym, ap, ◌∙◌, subst, ⊎_elim, arith, le_refl, le_trans, length-set}
use Rattle.std.specs.Prelude.{slice_index}
use mathlib.Core.Option.{some, some-ne-none, some-injective}
use lib.ListN.{get_elem?}
use lib.Seq.{set-get_or}
use Rattle.atomic_table.specs.Table.{State, keeps, stepped}
use Rattle.atomic_table.proofs.Lists.{at_set, set_else}
use Rattle.top_cell.specs.Rule.{IsAboveNoteOrNow, IsNotedOrNow, Sees, Fits, is_writers, IsOpen, CellHolds, new_cell, open_cell, CellRule, note_of, sight_of}
use Rattle.top_cell.specs.declared.rule.DayStock.{DayStock}
use Rattle.top_cell.specs.declared.rule.Sight.{Sight}
use Rattle.top_cell.specs.declared.rule.View.{View}
use Rattle.top_cell.specs.declared.rule.View.TheVariants.{Unopened, WriterOf, Writing, ScreenOf, Spent}

-- whether a view says something of a cell that is open
abbrev pub says : View → Bool
says Unopened = false
says (WriterOf s own) = true
says (Writing s x) = true
says (ScreenOf s v) = true
says Spent = false

-- what is known of a cell that isn't opened yet
only_unopened : (seat : ℕ) (v : View) → get_elem? (Unopened ∷ []) seat ≡ some v → v ≡ Unopened
only_unopened zero v e = sym (some-injective Unopened v e)
only_unopened (suc seat) v e = absurd (some-ne-none v (sym e))

-- a view that says something is a view of a cell that is open
pub open_at : (words : List ℕ) (views : List View) (seat : ℕ) (v : View) → says v ≡ true → CellHolds words views → get_elem? views seat ≡ some v → IsOpen words views
open_at words views seat v does (new_cell _ only) at =
    absurd (true≢false (sym does ∙ ap says (only_unopened seat v (subst (λ (vs : List View). get_elem? vs seat ≡ some v) only at))))
open_at words views seat v does (open_cell o) at = o

pub set_there : (l : List View) (i : ℕ) (a b : View) → get_elem? l i ≡ some a → get_elem? (set l i b) i ≡ some b
set_there [] i a b e = absurd (some-ne-none a (sym e))
set_there (x ∷ xs) zero a b e = refl
set_there (x ∷ xs) (suc i) a b e = set_there xs i a b e

pub all_fit : (F : ℕ → View → Type 0) (views : List View) (seat : ℕ) (w : View)
    → F seat w → ((j : ℕ) (u : View) → j ≢ seat → get_elem? views j ≡ some u → F j u)
    → (j : ℕ) (u : View) → get_elem? (set views seat w) j ≡ some u → F j u
all_fit F views seat w mine others j u e =
    ⊎_elim
    (λ (t : (j ≡ seat) × (w ≡ u)). subst (λ (z : ℕ × View). F z.0 z.1) (λ i. (sym t.0 i, t.1 i)) mine)
    (λ (t : (j ≢ seat) × (get_elem? views j ≡ some u)). others j u t.0 t.1)
    (at_set views seat j w u e)

-- the writer's view stays where it is, when another view changes
pub writer_stays : (views : List View) (writer seat : ℕ) (v w : View) → is_writers v ≡ false
    → ((u : View) × (get_elem? views writer ≡ some u) × (is_writers u ≡ true)) → get_elem? views seat ≡ some v
    → (u : View) × (get_elem? (set views seat w) writer ≡ some u) × (is_writers u ≡ true)
writer_stays views writer seat v w other t at =
    (t.0, set_else views seat writer w (λ is. true≢false (sym t.2 ∙ (ap is_writers (some-injective _ _ (sym t.1 ∙ (ap (get_elem? views) is ∙ at))) ∙ other))) ∙ t.1, t.2)

-- a step that changes no word
pub unmoved : {S : Type 0} (st : State S View) (id : ℕ) (c : List (ℕ × S)) (w : View) (i : ℕ) → CellHolds st.words (set st.views id w) → CellRule (stepped st i (slice_index st.words i) id c w keeps)
unmoved st id c w i h = subst (λ (ws : List ℕ). CellHolds ws (set st.views id w)) (sym (set-get_or st.words i 0)) h

-- other views of an open cell, of which one is the writer's, and which fit
pub with_views : (words : List ℕ) (views views' : List View) (o : IsOpen words views)
    → ((u : View) × (get_elem? views' o.writer ≡ some u) × (is_writers u ≡ true))
    → length views ≤ length views'
    → ((j : ℕ) (u : View) → get_elem? views' j ≡ some u → Fits o.stock o.count o.shown o.number o.writer o.noted j u) → CellHolds words views'
with_views words views views' o one_writer longer each = open_cell record {
  stock = o.stock;
  count = o.count;
  shown = o.shown;
  number = o.number;
  writer = o.writer;
  noted = o.noted;
  are = o.are;
  four = o.four;
  at_rest = o.at_rest;
  one_writer = one_writer;
  few_noted = le_trans o.few_noted longer;
  each = each;
}

-- a screen's view changes, and no word
pub screen_turns : (words : List ℕ) (views : List View) (id : ℕ) (s : DayStock) (v v' : Sight) → (o : IsOpen words views) → get_elem? views id ≡ some (ScreenOf s v)
    → Sees o.count o.shown o.number (note_of o.noted id) v' → CellHolds words (set views id (ScreenOf s v'))
screen_turns words views id s v v' o at sees =
    with_views words views (set views id (ScreenOf s v')) o (writer_stays views o.writer id (ScreenOf s v) (ScreenOf s v') refl o.one_writer at)
    (omega (arith, length-set views id (ScreenOf s v')))
    (all_fit (Fits o.stock o.count o.shown o.number o.writer o.noted) views id (ScreenOf s v') ((o.each id (ScreenOf s v) at).0, sees) (λ j u _ e. o.each j u e))

-- what a screen has found, by a note of it
abbrev pub Finds : ℕ → ℕ → Sight → Sight → Type 0
Finds count number note v =
    IsNotedOrNow note.looks note.last v.looks v.last count × IsNotedOrNow note.tries note.began v.tries v.began count
    × IsAboveNoteOrNow note.wins note.number v.wins v.number number

-- what is known at a screen's seat, where it is noted now
noted_sight : (views : List View) (j : ℕ) (s : DayStock) (v : Sight) → get_elem? views j ≡ some (ScreenOf s v) → note_of (map sight_of views) j ≡ v
noted_sight [] j s v e = absurd (some-ne-none (ScreenOf s v) (sym e))
noted_sight (x ∷ xs) zero s v e = ap sight_of (some-injective _ _ e)
noted_sight (x ∷ xs) (suc j) s v e = noted_sight xs j s v e

-- a note of now says all
pub finds_noted : (views : List View) (j count number : ℕ) (s : DayStock) (v : Sight) → get_elem? views j ≡ some (ScreenOf s v) → Finds count number (note_of (map sight_of views) j) v
finds_noted views j count number s v e =
    subst (λ n. Finds count number n v) (sym (noted_sight views j s v e)) (inl (refl, refl), inl (refl, refl), inl (refl, le_refl v.number))

-- what the views of others say stays so where the count has gone up, or is odd
pub others_fit : (stock stock' : DayStock) (count count' : ℕ) (shown shown' : List ℕ) (number number' writer writer' : ℕ) (noted noted' : List Sight) (j : ℕ)
    → stock ≡ stock' → count ≤ count' → number ≤ number' → ((began : ℕ) → began ≤ count → began % 2 ≡ 0 → count' ≡ began → ⊥) → j ≢ writer
    → (u : View) → ((s : DayStock) (v : Sight) → u ≡ ScreenOf s v → Finds count number (note_of noted j) v → Finds count' number' (note_of noted' j) v)
    → Fits stock count shown number writer noted j u → Fits stock' count' shown' number' writer' noted' j u
others_fit stock stock' count count' shown shown' number number' writer writer' noted noted' j same up more moved apart Unopened finds f = f
others_fit stock stock' count count' shown shown' number number' writer writer' noted noted' j same up more moved apart (WriterOf s n) finds f = absurd (apart f.0)
others_fit stock stock' count count' shown shown' number number' writer writer' noted noted' j same up more moved apart (Writing s x) finds f = absurd (apart f.0)
others_fit stock stock' count count' shown shown' number number' writer writer' noted noted' j same up more moved apart (ScreenOf s v) finds f =
    let found = finds s v refl (f.1.looked, f.1.tried, f.1.won) in (
      f.0 ∙ same,
      record {
        below = le_trans f.1.below more;
        last = le_trans f.1.last up;
        began = le_trans f.1.began up;
        even = f.1.even;
        fit = λ words _ is. absurd (moved v.began f.1.began f.1.even is);
        looked = found.0;
        tried = found.1;
        won = found.2;
      },
    )
others_fit stock stock' count count' shown shown' number number' writer writer' noted noted' j same up more moved apart Spent finds f = tt

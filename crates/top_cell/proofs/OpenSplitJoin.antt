-- Opening a cell, and what splits a view and joins two.
use Rattle.std.proofs.Common.{◌≡◌, ◌⊎◌, ℕ, zero, suc, ◌≤◌, max, List, [], ◌∷◌, ◌++◌, length, set, Some, None, inl, inr, refl, sym, ap, ◌∙◌, subst, ⊎_elim, arith, zero-le, length-append, length-set}
use Rattle.std.proofs.lemmas.List.{get_or_past}
use mathlib.Core.Option.{some, some-ne-none, some-injective}
use lib.ListN.{get_elem?}
use Rattle.atomic_table.specs.Table.{Allows, Joins, Me, Splits, keeps}
use Rattle.atomic_table.proofs.Lists.{at_longer, set_again, set_else}
use Rattle.itch_table.proofs.Tops.{zeros_at_first}
use Rattle.top_cell.specs.Rule.{IsAboveNoteOrNow, Sees, Fits, IsOpen, CellHolds, new_cell, open_cell, CellRule, Turns, new_sight, note_of, sight, zeros}
use Rattle.top_cell.specs.Kinds.{Opened, first_view, joined, screen_beside}
use Rattle.top_cell.proofs.OneViewChanges.{Finds, open_at, all_fit, writer_stays, with_views, screen_turns, unmoved}
use Rattle.top_cell.specs.declared.rule.DayStock.{DayStock}
use Rattle.top_cell.specs.declared.rule.Rest.{Rest}
use Rattle.top_cell.specs.declared.rule.Sight.{Sight}
use Rattle.top_cell.specs.declared.rule.View.{View}
use Rattle.top_cell.specs.declared.rule.View.TheVariants.{Unopened, WriterOf, ScreenOf, Spent}

no_words : (words : List ℕ) → None ≡ Some words → ⊥
no_words words e = cc

-- a view that stands at the end
at_end : (l : List View) (a b : View) (j : ℕ) → get_elem? (l ++ a ∷ []) j ≡ some b → (get_elem? l j ≡ some b) ⊎ ((length l ≡ j) × (a ≡ b))
at_end [] a b zero e = inr (refl, some-injective a b e)
at_end [] a b (suc j) e = absurd (some-ne-none b (sym e))
at_end (x ∷ xs) a b zero e = inl e
at_end (x ∷ xs) a b (suc j) e = ⊎_elim inl (λ t. inr (ap suc t.0, t.1)) (at_end xs a b j e)

-- a new cell is opened at its first seat
first_fits : (s : DayStock) (j : ℕ) (u : View) → get_elem? (first_view s ∷ []) j ≡ some u → Fits s 0 (0 ∷ 0 ∷ 0 ∷ 0 ∷ []) 0 0 [] j u
first_fits s zero u e = subst (Fits s 0 (0 ∷ 0 ∷ 0 ∷ 0 ∷ []) 0 0 [] 0) (some-injective (first_view s) u e) (refl, refl, refl, refl, refl)
first_fits s (suc j) u e = absurd (some-ne-none u (sym e))

opened_at : (id : ℕ) (s : DayStock) → get_elem? (Unopened ∷ []) id ≡ some Unopened → CellHolds zeros (set (Unopened ∷ []) id (first_view s))
opened_at zero s at = open_cell record {
  stock = s;
  count = 0;
  shown = 0 ∷ 0 ∷ 0 ∷ 0 ∷ [];
  number = 0;
  writer = 0;
  noted = [];
  are = refl;
  four = refl;
  at_rest = λ _. (zeros_at_first s.day s.locate, zero-le);
  one_writer = (first_view s, refl, refl);
  few_noted = zero-le;
  each = first_fits s;
}
opened_at (suc id) s at = absurd (some-ne-none Unopened (sym at))

opens_at : (words : List ℕ) (views : List View) (id : ℕ) (s : DayStock) → CellHolds words views → get_elem? views id ≡ some Unopened → CellHolds words (set views id (first_view s))
opens_at words views id s (new_cell are only) at =
    subst (λ (z : List ℕ × List View). CellHolds z.0 (set z.1 id (first_view s))) (λ i. (sym are i, sym only i))
    (opened_at id s (subst (λ (vs : List View). get_elem? vs id ≡ some Unopened) only at))
opens_at words views id s (open_cell o) at = absurd (o.each id Unopened at)

-- a new screen has found nothing, and nothing is noted of its seat
finds_new : (noted : List Sight) (seat count number n : ℕ) → length noted ≤ seat → Finds count number (note_of noted seat) (new_sight n)
finds_new noted seat count number n few =
    subst (λ v. Finds count number v (new_sight n)) (sym (get_or_past noted seat (new_sight 0) few)) (inl (refl, refl), inl (refl, refl), inl (refl, zero-le))

-- one view more
one_more : (words : List ℕ) (views : List View) (id : ℕ) (v : View) (s : DayStock) (n : ℕ) → get_elem? views id ≡ some v → (o : IsOpen words views) → s ≡ o.stock → n ≤ o.number
    → CellHolds words (set views id v ++ ScreenOf s (new_sight n) ∷ [])
one_more words views id v s n at o same below =
    let long = length-set views id v in
    with_views words views (set views id v ++ ScreenOf s (new_sight n) ∷ []) o
    (o.one_writer.0, at_longer (set views id v) (ScreenOf s (new_sight n) ∷ []) o.writer o.one_writer.0 (ap (λ l. get_elem? l o.writer) (set_again views id v at) ∙ o.one_writer.1), o.one_writer.2)
    (omega (arith, long, length-append (set views id v) (ScreenOf s (new_sight n) ∷ [])))
    (λ j u e. ⊎_elim
    (λ was. o.each j u (subst (λ l. get_elem? l j ≡ some u) (set_again views id v at) was))
    (λ (is : (length (set views id v) ≡ j) × (ScreenOf s (new_sight n) ≡ u)).
    let found = finds_new o.noted j o.count o.number n (omega (arith, o.few_noted, long, is.0)) in
    subst (Fits o.stock o.count o.shown o.number o.writer o.noted j) is.1
    (same, record { below = below; last = zero-le; began = zero-le; even = refl; fit = λ words e _. absurd (no_words words e); looked = found.0; tried = found.1; won = found.2 }))
    (at_end (set views id v) (ScreenOf s (new_sight n)) u j e))

-- a seat's view is spent
screen_goes : (words : List ℕ) (views : List View) (id : ℕ) (s : DayStock) (v : Sight) → get_elem? views id ≡ some (ScreenOf s v) → CellHolds words views → CellHolds words (set views id Spent)
screen_goes words views id s v at h =
    let o = open_at words views id (ScreenOf s v) refl h at in
    with_views words views (set views id Spent) o (writer_stays views o.writer id (ScreenOf s v) Spent refl o.one_writer at)
    (omega (arith, length-set views id Spent))
    (all_fit (Fits o.stock o.count o.shown o.number o.writer o.noted) views id Spent tt (λ j u _ e. o.each j u e))

module _ {S : Type 0} where
  pub opens : (slots id : ℕ) (me : Me S View) (s : DayStock) → me ≡ (Unopened, []) → Allows CellRule slots id me 0 (λ n. n) (λ _ m. Turns (Opened s) me m)
  opens slots id me s is st h _ there _ = (first_view s, keeps, tt, unmoved st id me.1 (first_view s) 0 (opens_at st.words st.views id s h (there ∙ ap (λ (z : Me S View). some z.0) is)), (refl, refl))

  pub writer_splits : (id : ℕ) (v : View) (s : DayStock) (own : Rest) → v ≡ WriterOf s own → Splits {S = S} CellRule id v v (screen_beside v)
  writer_splits id v s own is = subst (λ u. Splits {S = S} CellRule id u u (screen_beside u)) (sym is) (λ st h at.
      let o = open_at st.words st.views id (WriterOf s own) refl h at in
      let mine = o.each id (WriterOf s own) at in
      one_more st.words st.views id (WriterOf s own) s own.number at o mine.1 (omega (arith, mine.2)))

  pub screen_splits : (id : ℕ) (v : View) (s : DayStock) (x : Sight) → v ≡ ScreenOf s x → Splits {S = S} CellRule id v v (screen_beside v)
  screen_splits id v s x is = subst (λ u. Splits {S = S} CellRule id u u (screen_beside u)) (sym is) (λ st h at.
      let o = open_at st.words st.views id (ScreenOf s x) refl h at in
      let mine = o.each id (ScreenOf s x) at in
      one_more st.words st.views id (ScreenOf s x) s x.number at o mine.0 mine.1.below)

  both_join : (id other : ℕ) (s t : DayStock) (v w : Sight) → Joins {S = S} CellRule id (ScreenOf s v) other (ScreenOf t w) (joined (ScreenOf s v) (ScreenOf t w)) Spent
  both_join id other s t v w st h at apart there =
      let o = open_at st.words st.views id (ScreenOf s v) refl h at in
      let mine = (o.each id (ScreenOf s v) at).1 in
      let both = sight (max v.number w.number) v.loads v.looks v.tries v.wins v.last v.began v.taken in
      let note = note_of o.noted id in
      let theirs_at : get_elem? st.views other ≡ some (ScreenOf t w) = sym (set_else st.views id other (ScreenOf s both) apart) ∙ there in
      let theirs = (o.each other (ScreenOf t w) theirs_at).1 in
      let won : IsAboveNoteOrNow note.wins note.number both.wins both.number o.number =
      ⊎_elim (λ t. inl (t.0, omega (arith, t.1))) (λ t. inr (t.0, omega (arith, t.1, theirs.below))) mine.won in
      let sees : Sees o.count o.shown o.number note both = record { below = omega (arith, mine.below, theirs.below); last = mine.last; began = mine.began; even = mine.even; fit = mine.fit; looked = mine.looked; tried = mine.tried; won = won } in
      screen_goes st.words (set st.views id (ScreenOf s both)) other t w there (screen_turns st.words st.views id s v both o at sees)

  pub screens_join : (id other : ℕ) (v w : View) (s t : DayStock) (x y : Sight) → v ≡ ScreenOf s x → w ≡ ScreenOf t y → Joins {S = S} CellRule id v other w (joined v w) Spent
  screens_join id other v w s t x y is that = subst (λ (z : View × View). Joins {S = S} CellRule id z.0 other z.1 (joined z.0 z.1) Spent) (λ i. (sym is i, sym that i)) (both_join id other s t x y)

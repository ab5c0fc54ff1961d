-- The steps of a screen.
use Rattle.std.proofs.Common.{◌≡◌, ℕ, ◌+◌, ◌%◌, ◌<◌, ◌≤◌, List, [], ◌∷◌, ◌++◌, length, take, Some, None, inr, refl, sym, ap, ◌∙◌, subst, ⊎_elim, arith, length-append, take_all}
use Rattle.std.proofs.lemmas.List.{take_more}
use Rattle.std.specs.Prelude.{slice_index}
use mathlib.Core.Logic.{dite}
use mathlib.Core.Option.{some}
use lib.ListN.{get_elem?}
use native.Mathlib.Decide.{ℕ_discrete}
use Rattle.atomic_table.specs.Table.{Me, keeps, Allows}
use Rattle.top_cell.specs.Rule.{IsAboveNoteOrNow, IsNotedOrNow, ShowsOf, Sees, CellRule, Turns, note_of, number_in, sight}
use Rattle.top_cell.specs.Kinds.{ReaderBegun, ReaderEnded, ReaderTook}
use Rattle.top_cell.proofs.OneViewChanges.{open_at, unmoved, screen_turns}
use Rattle.top_cell.proofs.CellWords.{count_is, word_is, first_shown}
use Rattle.top_cell.specs.declared.rule.DayStock.{DayStock}
use Rattle.top_cell.specs.declared.rule.Sight.{Sight}
use Rattle.top_cell.specs.declared.rule.View.{View}
use Rattle.top_cell.specs.declared.rule.View.TheVariants.{ScreenOf}

pub same_words : (x y : List ℕ) → Some x ≡ Some y → x ≡ y
same_words x y e = cc

no_words : (words : List ℕ) → None ≡ Some words → ⊥
no_words words e = cc

-- what is found once more is found now
once_more : (noted_times noted times found now found' : ℕ) → IsNotedOrNow noted_times noted times found now → found' ≡ now → IsNotedOrNow noted_times noted (times + 1) found' now
once_more noted_times noted times found now found' known is =
    inr (⊎_elim (λ t. omega (arith, t.0)) (λ t. omega (arith, t.0)) known, is)

read_once_more : (noted_times noted times found now found' : ℕ) → IsAboveNoteOrNow noted_times noted times found now → found' ≡ now → IsAboveNoteOrNow noted_times noted (times + 1) found' now
read_once_more noted_times noted times found now found' known is =
    inr (⊎_elim (λ t. omega (arith, t.0)) (λ t. omega (arith, t.0)) known, is)

module _ {S : Type 0} where
  pub reader_begins : (slots id : ℕ) (me : Me S View) (s : DayStock) (v : Sight) → me.0 ≡ ScreenOf s v → v.taken ≡ None
      → Allows CellRule slots id me 0 (λ n. n) (λ r n. Turns (ReaderBegun r) me n)
  reader_begins slots id me s v known shut st h _ there _ =
      let at : get_elem? st.views id ≡ some (ScreenOf s v) = there ∙ ap some known in
      let r : ℕ = slice_index st.words 0 in
      let o = open_at st.words st.views id (ScreenOf s v) refl h at in
      let mine = (o.each id (ScreenOf s v) at).1 in
      let is : r ≡ o.count = count_is st.words o.count o.shown o.are in
      let risen : v.last ≤ r = omega (arith, is, mine.last) in
      let up : v.began ≤ r = omega (arith, is, mine.began) in
      let note = note_of o.noted id in
      let looked = once_more note.looks note.last v.looks v.last o.count r mine.looked is in
      dite (ℕ_discrete (r % 2) 0)
      (λ even.
      let v' = sight v.number (v.loads + 1) (v.looks + 1) (v.tries + 1) v.wins r r (Some []) in
      let tried = once_more note.tries note.began v.tries v.began o.count r mine.tried is in
      let sees : Sees o.count o.shown o.number note v' = record { below = mine.below; last = omega (arith, is); began = omega (arith, is); even = even; fit = λ words e _. let none = same_words [] words e in subst (λ ws. ws ≡ take (length ws) o.shown) none refl; looked = looked; tried = tried; won = mine.won } in
      (ScreenOf s v', keeps, tt, unmoved st id me.1 (ScreenOf s v') 0 (screen_turns st.words st.views id s v v' o at sees), (subst (λ u. ReaderBegun r u (ScreenOf s v')) (sym known) (shut, risen, up, (λ _. refl), (λ odd. absurd (omega (arith, even, odd)))), refl)))
      (λ odd.
      let v' = sight v.number (v.loads + 1) (v.looks + 1) v.tries v.wins r v.began None in
      let sees : Sees o.count o.shown o.number note v' = record { below = mine.below; last = omega (arith, is); began = mine.began; even = mine.even; fit = λ words e _. absurd (no_words words e); looked = looked; tried = mine.tried; won = mine.won } in
      (ScreenOf s v', keeps, tt, unmoved st id me.1 (ScreenOf s v') 0 (screen_turns st.words st.views id s v v' o at sees), (subst (λ u. ReaderBegun r u (ScreenOf s v')) (sym known) (shut, risen, up, (λ even. absurd (odd even)), (λ _. refl)), refl)))

  pub reader_takes : (slots id : ℕ) (me : Me S View) (s : DayStock) (v : Sight) (taken : List ℕ) (word : ℕ) → me.0 ≡ ScreenOf s v → v.taken ≡ Some taken → word ≡ length taken + 1 → length taken < 4
      → Allows CellRule slots id me word (λ n. n) (λ r n. Turns (ReaderTook r) me n)
  reader_takes slots id me s v taken word known open_try next few = subst (λ k. Allows CellRule slots id me k (λ n. n) (λ r n. Turns (ReaderTook r) me n)) (sym next) (λ st h _ there _.
      let at : get_elem? st.views id ≡ some (ScreenOf s v) = there ∙ ap some known in
      let i : ℕ = length taken in
      let r : ℕ = slice_index st.words (i + 1) in
      let o = open_at st.words st.views id (ScreenOf s v) refl h at in
      let mine = (o.each id (ScreenOf s v) at).1 in
      let is : r ≡ slice_index o.shown i = word_is st.words o.count o.shown i o.are in
      let v' = sight v.number (v.loads + 1) v.looks v.tries v.wins v.last v.began (Some (taken ++ r ∷ [])) in
      let more : o.count ≡ v.began → taken ++ r ∷ [] ≡ take (length (taken ++ r ∷ [])) o.shown =
      λ still.
      ap (λ l. l ++ r ∷ []) (mine.fit taken open_try still)
      ∙ (ap (λ n. take i o.shown ++ n ∷ []) is
      ∙ (sym (take_more o.shown i 0 (omega (arith, o.four, few))) ∙ ap (λ n. take n o.shown) (sym (length-append taken (r ∷ []))))) in
      let sees : Sees o.count o.shown o.number (note_of o.noted id) v' = record { below = mine.below; last = mine.last; began = mine.began; even = mine.even; fit = λ words e still. let same = same_words (taken ++ r ∷ []) words e in subst (λ ws. ws ≡ take (length ws) o.shown) same (more still); looked = mine.looked; tried = mine.tried; won = mine.won } in (
        ScreenOf s v',
        keeps,
        tt,
        unmoved st id me.1 (ScreenOf s v') (i + 1) (screen_turns st.words st.views id s v v' o at sees),
        (subst (λ u. ReaderTook r u (ScreenOf s v')) (sym known) (taken, open_try, few, refl), refl),
      ))

  pub reader_ends : (slots id : ℕ) (me : Me S View) (s : DayStock) (v : Sight) (taken : List ℕ) → me.0 ≡ ScreenOf s v → v.taken ≡ Some taken → length taken ≡ 4
      → Allows CellRule slots id me 0 (λ n. n) (λ r n. Turns (ReaderEnded r) me n)
  reader_ends slots id me s v taken known open_try all st h _ there _ =
      let at : get_elem? st.views id ≡ some (ScreenOf s v) = there ∙ ap some known in
      let r : ℕ = slice_index st.words 0 in
      let o = open_at st.words st.views id (ScreenOf s v) refl h at in
      let mine = (o.each id (ScreenOf s v) at).1 in
      let is : r ≡ o.count = count_is st.words o.count o.shown o.are in
      let note = note_of o.noted id in
      let looked = once_more note.looks note.last v.looks v.last o.count r mine.looked is in
      let none : (n wins : ℕ) → n ≤ o.number → IsAboveNoteOrNow note.wins note.number wins n o.number → Sees o.count o.shown o.number note (sight n (v.loads + 1) (v.looks + 1) v.tries wins r v.began None) =
      λ n wins below won. record { below = below; last = omega (arith, is); began = mine.began; even = mine.even; fit = λ words e _. absurd (no_words words e); looked = looked; tried = mine.tried; won = won } in
      let up : v.began ≤ r = omega (arith, is, mine.began) in
      let risen : v.last ≤ r = omega (arith, is, mine.last) in
      dite (ℕ_discrete r v.began)
      (λ still.
      let whole : taken ≡ o.shown = mine.fit taken open_try (sym is ∙ still) ∙ take_all (length taken) o.shown (omega (arith, all, o.four)) in
      let rest = o.at_rest (ap (λ n. n % 2) (sym is ∙ still) ∙ mine.even) in
      let first : number_in taken ≡ o.number = ap (λ ws. number_in ws) whole ∙ first_shown o.stock o.number o.shown rest.0 in
      let shows : ShowsOf s (number_in taken) taken =
      subst (λ (z : DayStock × (ℕ × List ℕ)). ShowsOf z.0 z.1.0 z.1.1) (λ i. (sym (o.each id (ScreenOf s v) at).0 i, (sym first i, sym whole i))) rest.0 in
      let won = read_once_more note.wins note.number v.wins v.number o.number (number_in taken) mine.won first in
      let v' = sight (number_in taken) (v.loads + 1) (v.looks + 1) v.tries (v.wins + 1) r v.began None in (
        ScreenOf s v',
        keeps,
        tt,
        unmoved st id me.1 (ScreenOf s v') 0 (screen_turns st.words st.views id s v v' o at (none (number_in taken) (v.wins + 1) (omega (arith, first)) won)),
        (subst (λ u. ReaderEnded r u (ScreenOf s v')) (sym known) (taken, open_try, all, up, risen, (λ _. (shows, omega (arith, first, mine.below), refl)), (λ not. absurd (not still))), refl),
      ))
      (λ moved.
      let v' = sight v.number (v.loads + 1) (v.looks + 1) v.tries v.wins r v.began None in
      (ScreenOf s v', keeps, tt, unmoved st id me.1 (ScreenOf s v') 0 (screen_turns st.words st.views id s v v' o at (none v.number v.wins mine.below mine.won)), (subst (λ u. ReaderEnded r u (ScreenOf s v')) (sym known) (taken, open_try, all, up, risen, (λ still. absurd (moved still)), (λ _. refl)), refl)))

-- The steps of the writer.
use Rattle.std.proofs.Common.{◌≡◌, ℕ, ◌+◌, ◌*◌, ◌%◌, ◌^◌, ◌<◌, ◌≤◌, true, List, ◌∷◌, ◌++◌, map, length, take, drop, set, refl, sym, ap, ◌∙◌, subst, arith, length-set, add-one, mod-eq_of_lt}
use Rattle.std.proofs.lemmas.List.{length-map}
use Rattle.std.specs.Prelude.{slice_index}
use mathlib.Core.Option.{some}
use lib.ListN.{get_elem?}
use Rattle.atomic_table.specs.Table.{Me, keeps, Allows}
use Rattle.top_cell.specs.Rule.{ShowsOf, Fits, is_writers, IsOpen, CellHolds, open_cell, CellRule, Turns, change, note_of, number_in, rest, sight_of}
use Rattle.top_cell.specs.Kinds.{WriterBegun, WriterEnded, WriterHasPut}
use Rattle.top_cell.proofs.OneViewChanges.{Finds, open_at, set_there, all_fit, others_fit, finds_noted}
use Rattle.top_cell.proofs.CellWords.{count_is, set_count, set_word, mixed_more, mixed_all, four_shown}
use Rattle.top_cell.specs.declared.rule.DayStock.{DayStock}
use Rattle.top_cell.specs.declared.rule.Change.{Change}
use Rattle.top_cell.specs.declared.rule.Rest.{Rest}
use Rattle.top_cell.specs.declared.rule.Sight.{Sight}
use Rattle.top_cell.specs.declared.rule.View.{View}
use Rattle.top_cell.specs.declared.rule.View.TheVariants.{WriterOf, Writing, ScreenOf}

up_by_one : (n k : ℕ) → n ≡ k → k < 2 ^ 40 → (n + 1) % 2 ^ 64 ≡ k + 1
up_by_one n k is small = ap (λ m. (m + 1) % 2 ^ 64) is ∙ mod-eq_of_lt (omega arith)

-- the writer's step, which makes the count, the words, the number and the notes what they are now
writer_turns : (words words' : List ℕ) (views : List View) (id : ℕ) (s : DayStock) (v w : View) (count' : ℕ) (shown' : List ℕ) (number' : ℕ) (noted' : List Sight)
    → (o : IsOpen words views) → get_elem? views id ≡ some v → id ≡ o.writer → s ≡ o.stock → is_writers w ≡ true
    → words' ≡ count' ∷ shown' → length shown' ≡ 4 → (count' % 2 ≡ 0 → ShowsOf s number' shown' × (count' ≤ 2 * number'))
    → o.count ≤ count' → o.number ≤ number' → ((began : ℕ) → began ≤ o.count → began % 2 ≡ 0 → count' ≡ began → ⊥)
    → length noted' ≤ length views
    → ((j : ℕ) (t : DayStock) (y : Sight) → get_elem? views j ≡ some (ScreenOf t y) → Finds o.count o.number (note_of o.noted j) y → Finds count' number' (note_of noted' j) y)
    → Fits s count' shown' number' id noted' id w
    → CellHolds words' (set views id w)
writer_turns words words' views id s v w count' shown' number' noted' o at here same is_writers are four at_rest up more moved few finds mine = open_cell record {
  stock = s;
  count = count';
  shown = shown';
  number = number';
  writer = id;
  noted = noted';
  are = are;
  four = four;
  at_rest = at_rest;
  one_writer = (w, set_there views id v w at, is_writers);
  few_noted = omega (arith, few, length-set views id w);
  each = all_fit (Fits s count' shown' number' id noted') views id w mine
      (λ j u apart e. others_fit o.stock s o.count count' o.shown shown' o.number number' o.writer id o.noted noted' j (sym same) up more moved (λ is. apart (is ∙ sym here)) u
      (λ t y is. finds j t y (e ∙ ap some is)) (o.each j u e));
}

module _ {S : Type 0} where
  pub writer_begins : (slots id : ℕ) (me : Me S View) (s : DayStock) (own : Rest) (new : List ℕ) → me.0 ≡ WriterOf s own → length s.day < 2 ^ 32 → ShowsOf s (number_in new) new → own.number < number_in new
      → Allows CellRule slots id me 0 (λ n. (n + 1) % 2 ^ 64) (λ r m. Turns (WriterBegun new) me m)
  writer_begins slots id me s own new is few shows later st h _ there _ =
      let at : get_elem? st.views id ≡ some (WriterOf s own) = there ∙ ap some is in
      let n : ℕ = own.number in
      let o = open_at st.words st.views id (WriterOf s own) refl h at in
      let mine = o.each id (WriterOf s own) at in
      let still = o.at_rest mine.3 in
      let stood : ShowsOf s n o.shown = subst (λ (z : DayStock × ℕ). ShowsOf z.0 z.1 o.shown) (λ i. (sym mine.1 i, sym mine.2 i)) still.0 in
      let up : (slice_index st.words 0 + 1) % 2 ^ 64 ≡ o.count + 1 = up_by_one (slice_index st.words 0) o.count (count_is st.words o.count o.shown o.are) (omega (arith, still.1, stood.0, few, mine.2)) in
      let notes = map sight_of st.views in
      let w = Writing s (change n o.shown new 0 notes) in (
        w,
        keeps,
        tt,
        writer_turns st.words (set st.words 0 ((slice_index st.words 0 + 1) % 2 ^ 64)) st.views id s (WriterOf s own) w (o.count + 1) o.shown n notes o at mine.0 mine.1 refl
            (set_count st.words o.count o.shown _ o.are ∙ ap (λ k. k ∷ o.shown) up) o.four (λ even. absurd (omega (arith, even, mine.3))) (omega arith) (omega (arith, mine.2)) (λ began a _ is. omega (arith, a, is))
            (omega (arith, length-map st.views sight_of)) (λ j t y e _. finds_noted st.views j (o.count + 1) n t y e) (
              refl,
              refl,
              record {
                odd = omega (arith, mine.3);
                bound = omega (arith, still.1, mine.2);
                stands = refl;
                old = stood;
                new = shows;
                later = later;
                some_put = omega arith;
                mixed = refl;
              },
              refl,
            ),
        (subst (λ v. WriterBegun new v w) (sym is) (o.shown, notes, refl), refl),
      )

  pub writer_puts : (slots id : ℕ) (me : Me S View) (s : DayStock) (x : Change) (i b : ℕ) → me.0 ≡ Writing s x → x.put < 4 → b ≡ slice_index x.new x.put → i ≡ x.put + 1
      → Allows CellRule slots id me i (λ _. b) (λ _ m. Turns WriterHasPut me m)
  writer_puts slots id me s x i b is few right next = subst (λ k. Allows CellRule slots id me k (λ _. b) (λ _ m. Turns WriterHasPut me m)) (sym next) (λ st h _ there _.
      let at : get_elem? st.views id ≡ some (Writing s x) = there ∙ ap some is in
      let o = open_at st.words st.views id (Writing s x) refl h at in
      let mine = o.each id (Writing s x) at in
      let ch = mine.2 in
      let j : ℕ = x.put in
      let w = Writing s (change x.number x.old x.new (j + 1) x.noted) in
      let lengths = four_shown o.stock (number_in x.new) x.new ch.new in
      let lengths_old = four_shown o.stock o.number x.old ch.old in
      let mixed : set o.shown j b ≡ take (j + 1) x.new ++ drop (j + 1) x.old =
      ap (λ l. set l j b) ch.mixed ∙ (ap (λ k. set (take j x.new ++ drop j x.old) j k) right ∙ (mixed_more x.new x.old j (omega (arith, lengths, few)) (omega (arith, lengths, lengths_old)) ∙ ap (λ k. take k x.new ++ drop k x.old) (sym (add-one j)))) in (
        w,
        keeps,
        tt,
        writer_turns st.words (set st.words (j + 1) b) st.views id s (Writing s x) w o.count (set o.shown j b) o.number o.noted o at mine.0 mine.1 refl
            (set_word st.words o.count o.shown j b o.are) (length-set o.shown j b ∙ o.four) (λ even. absurd (omega (arith, even, ch.odd))) (omega arith) (omega arith) (λ began _ even is. omega (arith, even, is, ch.odd))
            o.few_noted (λ j t y _ finds. finds) (
              refl,
              refl,
              record {
                odd = ch.odd;
                bound = ch.bound;
                stands = ch.stands;
                old = subst (λ (z : DayStock). ShowsOf z o.number x.old) (sym mine.1) ch.old;
                new = subst (λ (z : DayStock). ShowsOf z (number_in x.new) x.new) (sym mine.1) ch.new;
                later = ch.later;
                some_put = omega (arith, few);
                mixed = mixed;
              },
              mine.3,
            ),
        (subst (λ v. WriterHasPut v w) (sym is) refl, refl),
      ))

  pub writer_ends : (slots id : ℕ) (me : Me S View) (s : DayStock) (x : Change) → me.0 ≡ Writing s x → length s.day < 2 ^ 32 → x.put ≡ 4
      → Allows CellRule slots id me 0 (λ n. (n + 1) % 2 ^ 64) (λ r m. Turns WriterEnded me m)
  writer_ends slots id me s x is few all st h _ there _ =
      let at : get_elem? st.views id ≡ some (Writing s x) = there ∙ ap some is in
      let o = open_at st.words st.views id (Writing s x) refl h at in
      let mine = o.each id (Writing s x) at in
      let ch = mine.2 in
      let n : ℕ = number_in x.new in
      let new : ShowsOf s n x.new = subst (λ (z : DayStock). ShowsOf z n x.new) (sym mine.1) ch.new in
      let whole : o.shown ≡ x.new = ch.mixed ∙ mixed_all x.new x.old x.put all (four_shown o.stock n x.new ch.new) (four_shown o.stock o.number x.old ch.old) in
      let up : (slice_index st.words 0 + 1) % 2 ^ 64 ≡ o.count + 1 = up_by_one (slice_index st.words 0) o.count (count_is st.words o.count o.shown o.are) (omega (arith, ch.bound, ch.later, new.0, few)) in
      let notes = map sight_of st.views in
      let w = WriterOf s (rest n notes) in (
        w,
        keeps,
        tt,
        writer_turns st.words (set st.words 0 ((slice_index st.words 0 + 1) % 2 ^ 64)) st.views id s (Writing s x) w (o.count + 1) o.shown n notes o at mine.0 mine.1 refl
            (set_count st.words o.count o.shown _ o.are ∙ ap (λ k. k ∷ o.shown) up) o.four
            (λ _. (subst (λ ws. ShowsOf s n ws) (sym whole) new, omega (arith, ch.bound, ch.later))) (omega arith) (omega (arith, ch.later)) (λ began a _ is. omega (arith, a, is))
            (omega (arith, length-map st.views sight_of)) (λ j t y e _. finds_noted st.views j (o.count + 1) n t y e)
            (refl, refl, refl, omega (arith, ch.odd), refl),
        (subst (λ v. WriterEnded v w) (sym is) (notes, refl), refl),
      )

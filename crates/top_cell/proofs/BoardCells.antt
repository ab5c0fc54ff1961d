-- The cells of a board, and their writers.
use Rattle.std.proofs.Common.{◌≡◌, ◌⊎◌, ℕ, zero, suc, ◌<◌, List, [], ◌∷◌, ◌++◌, length, get_or, Some, inl, inr, refl, sym, ap, ◌∙◌, subst, ⊎_elim, arith, length-append}
use Rattle.std.specs.Prelude.{slice_get}
use Rattle.std.proofs.lemmas.List.{get_or-map, length-map, map-append}
use Rattle.std.proofs.lemmas.Option.{get_or_from_slice_get, slice_get_within}
use Rattle.atomic_table.specs.Seated.{TableId}
use Rattle.itch_table.specs.Shows.{locates_of_day}
use Rattle.itch_table.proofs.DayLocates.{rising}
use Rattle.day_core.proofs.LocateCodes.{code_once}
use Rattle.top_cell.specs.Boards.{CellId, WriterAt, AreApart, AreNew, IsOn, new_writer, place}
use Rattle.top_cell.specs.Seats.{CellSeat, IsSeatOf}

-- ---- items of lists

first_at : {A : Type 0} (xs ys : List A) (k : ℕ) (x : A) → slice_get xs k ≡ Some x → slice_get (xs ++ ys) k ≡ Some x
first_at [] ys k x e = absurd (cc)
first_at (z ∷ zs) ys zero x e = e
first_at (z ∷ zs) ys (suc k) x e = first_at zs ys k x e

last_at : {A : Type 0} (xs : List A) (x : A) (n : ℕ) → length xs ≡ n → slice_get (xs ++ x ∷ []) n ≡ Some x
last_at [] x zero e = refl
last_at [] x (suc n) e = absurd (omega arith)
last_at (z ∷ zs) x zero e = absurd (omega arith)
last_at (z ∷ zs) x (suc n) e = last_at zs x n (omega arith)

at_push : {A : Type 0} (xs : List A) (x y : A) (k : ℕ) → slice_get (xs ++ x ∷ []) k ≡ Some y → (slice_get xs k ≡ Some y) ⊎ ((k ≡ length xs) × (x ≡ y))
at_push [] x y zero e = let same : Some x ≡ Some y = e in inr (refl, cc)
at_push [] x y (suc k) e = let none : slice_get [] k ≡ Some y = e in absurd (cc)
at_push (z ∷ zs) x y zero e = inl e
at_push (z ∷ zs) x y (suc k) e = ⊎_elim inl (λ t. inr (ap suc t.0, t.1)) (at_push zs x y k e)

-- ---- cells of a board

-- the cell of a seat, by what a board says of the cell at an index
pub seat_on : (board : List CellId) (table : TableId) (seat : CellSeat) (index : ℕ) → IsOn board (place seat index)
    → ((cell : CellId) → slice_get board index ≡ Some cell → table ≡ cell.table) → table.words ≡ 5 → IsSeatOf table seat
seat_on board table seat index on is five = (sym (is _ on), five)

-- the cells of a day's stocks are apart
pub day_apart : (day : List (List ℕ)) (board : List CellId) (writers : List WriterAt) → AreNew day (locates_of_day day) board writers → AreApart board
day_apart day board writers new i j c d e f same =
    let there : (k : ℕ) (x : CellId) → slice_get board k ≡ Some x → (k < length (locates_of_day day)) × (get_or (locates_of_day day) k 0 ≡ x.locate) =
    λ k x is.
    let lt = slice_get_within board k x is in (
      omega (arith, lt, length-map board (λ (c : CellId). c.locate), ap length new.cells),
      ap (λ (ls : List ℕ). get_or ls k 0) (sym new.cells) ∙ get_or-map (λ (c : CellId). c.locate) board k x 0 lt ∙ ap (λ (c : CellId). c.locate) (get_or_from_slice_get board k x x is),
    )
    in
    code_once (locates_of_day day) i j (rising day) (there i c e).0 (there j d f).0 ((there i c e).1 ∙ same ∙ sym (there j d f).1)

-- ---- new boards

module _ (day : List (List ℕ)) (locates : List ℕ) (board : List CellId) (writers : List WriterAt) (cell : CellId) (new : AreNew day locates board writers) where
  abbrev w : WriterAt
  w = new_writer day cell.locate (length writers) cell

  each : (k : ℕ) (u : WriterAt) → slice_get (writers ++ w ∷ []) k ≡ Some u
      → (u ≡ new_writer day u.place.locate k u.place.cell) × IsOn (board ++ cell ∷ []) u.place
  each k u e =
      ⊎_elim
      (λ (old : slice_get writers k ≡ Some u). let n = new.each k u old in (n.0, first_at board (cell ∷ []) u.place.index u.place.cell n.1))
      (λ (t : (k ≡ length writers) × (w ≡ u)).
      subst (λ (z : ℕ × WriterAt). (z.1 ≡ new_writer day z.1.place.locate z.0 z.1.place.cell) × IsOn (board ++ cell ∷ []) z.1.place)
      (λ i. (sym t.0 i, t.1 i)) (refl, last_at board cell (length writers) new.long))
      (at_push writers w u k e)

  -- one cell more, and its writer
  one_more : AreNew day (locates ++ cell.locate ∷ []) (board ++ cell ∷ []) (writers ++ w ∷ [])
  one_more = record {
    stocks = map-append (λ u. u.place.locate) writers (w ∷ []) ∙ ap (λ l. l ++ cell.locate ∷ []) new.stocks;
    cells = map-append (λ c. c.locate) board (cell ∷ []) ∙ ap (λ l. l ++ cell.locate ∷ []) new.cells;
    long = omega (arith, new.long, length-append writers (w ∷ []), length-append board (cell ∷ []));
    each = each;
  }

-- no cells
pub none_new : (day : List (List ℕ)) (board : List CellId) (writers : List WriterAt) → board ≡ [] → writers ≡ [] → AreNew day [] board writers
none_new day board writers b ws = subst (λ (z : List CellId × List WriterAt). AreNew day [] z.0 z.1) (λ i. (sym b i, sym ws i)) (record {
  stocks = refl;
  cells = refl;
  long = refl;
  each = λ k w e. let none : slice_get [] k ≡ Some w = e in absurd (cc);
})

-- the same, of lists that came to be so
pub more_new : (day : List (List ℕ)) (locates locates' : List ℕ) (board board' : List CellId) (writers writers' : List WriterAt) (locate index : ℕ) (cell : CellId) (w : WriterAt)
    → AreNew day locates board writers → index ≡ length writers → cell.locate ≡ locate → w ≡ new_writer day locate index cell
    → locates' ≡ locates ++ locate ∷ [] → board' ≡ board ++ cell ∷ [] → writers' ≡ writers ++ w ∷ []
    → AreNew day locates' board' writers'
more_new day locates locates' board board' writers writers' locate index cell w new at of is l b ws =
    let more = l ∙ ap (λ (n : ℕ). locates ++ n ∷ []) (sym of) in
    let last : writers' ≡ writers ++ new_writer day cell.locate (length writers) cell ∷ [] =
    ws ∙ ap (λ (u : WriterAt). writers ++ u ∷ []) (is ∙ (λ i. new_writer day (sym of i) (at i) cell)) in
    subst (λ (z : List ℕ × (List CellId × List WriterAt)). AreNew day z.0 z.1.0 z.1.1) (λ i. (sym more i, (sym b i, sym last i)))
    (one_more day locates board writers cell new)

-- The writers of a day's stocks by worker, and what all workers make.
use Rattle.std.proofs.Common.{◌≡◌, ℕ, ◌<◌, List, All, length, get_or, map, Result, Ok, Err, IfOk, sym, ap, subst, ◌∙◌, arith, [], ◌∷◌, suc, refl, ap₂}
use Rattle.std.specs.declared.alloc.AllocError.{AllocError}
use Rattle.std.proofs.lemmas.List.{get_or-map, get_or_default, length-map}
use Rattle.std.proofs.lemmas.List.FromFn.{get_or-map-range_with_len, length-map-range_with_len}
use Rattle.std.specs.List.{zip}
use Rattle.std.proofs.lemmas.List.Elements.{All-filter, All-map}
use Rattle.std.proofs.lemmas.Option.{slice_get-get_or}
use Rattle.std.proofs.lemmas.Slice.Zip.{get_or-zip, length-zip}
use Rattle.itch_table.specs.Shows.{locates_of_day}
use Rattle.stock_machine.specs.StockRows.{StockMachine}
use Rattle.day_core.specs.declared.merging.Piece.{Piece}
use Rattle.day_core.specs.Replaying.{AreByWorker, each_worker, last_machine, own_values, values_by}
use Rattle.day_core.specs.Splitting.{DayParts}
use Rattle.day_core.proofs.StocksByWorker.{own_values_map, own_values_of}
use Rattle.top_cell.specs.Boards.{CellId, WriterAt, AreNew, IsOn}
use Rattle.stock_workers.specs.declared.fork_join.Finished.{Finished}
use Rattle.stock_workers.specs.declared.fork_join.Waiting.{Waiting}
use Rattle.stock_workers.specs.Running.{AreFinished, AreGathered, AreWaiting, IsFinished, IsWaiting, at_last}
use Rattle.stock_workers.specs.Working.{WriterState, codes_by, writer_state}

pub map_twice : {W X Y : Type 0} (g : X → Y) (f : W → X) (ws : List W) → map g (map f ws) ≡ map (λ w. g (f w)) ws
map_twice g f [] = refl
map_twice g f (w ∷ ws) = ap₂ ◌∷◌ refl (map_twice g f ws)

-- what holds of all values holds of those of a worker's stocks
own_all : {T : Type 0} (P : T → Type 0) (workers : ℕ) (values : List T) (locates : List ℕ) (w : ℕ) → All P values → All P (values_by workers (zip values locates) w)
own_all {T} P workers values locates w all =
    All-map P (λ (v : T × ℕ). v.0) _ (All-filter _ (λ (v : T × ℕ). P v.0) (zip values locates) (λ k d lt.
    let here = length-zip values locates in
    subst P (sym (ap (λ (v : T × ℕ). v.0) (get_or-zip values locates k d (omega (arith, lt, here)) (omega (arith, lt, here))))) (all k d.0 (omega (arith, lt, here)))))

-- writers that are new
module _ (day : List (List ℕ)) (board : List CellId) (ws : List WriterAt) (new : AreNew day (locates_of_day day) board ws) where
  abbrev fresh : ℕ → WriterState
  fresh locate = record { day = day; locate = locate; message = 0 }

  pub as_many : length ws ≡ length (locates_of_day day)
  as_many = sym (length-map ws (λ w. w.place.locate)) ∙ ap length new.stocks

  each_fresh : (xs : List WriterAt) → All (λ w. writer_state w ≡ fresh w.place.locate) xs → map writer_state xs ≡ map fresh (map (λ w. w.place.locate) xs)
  each_fresh [] all = refl
  each_fresh (x ∷ xs) all = ap₂ ◌∷◌ (all 0 x (omega arith)) (each_fresh xs (λ k d lt. all (suc k) d (omega arith)))

  all_fresh : map writer_state ws ≡ map fresh (locates_of_day day)
  all_fresh = each_fresh ws (λ k d lt. ap writer_state (new.each k (get_or ws k d) (slice_get-get_or ws k d lt)).0) ∙ ap (map fresh) new.stocks

  -- a worker may start with those of its stocks
  pub waits : (parts : DayParts) → parts.locates ≡ locates_of_day day → (k : ℕ) → IsWaiting day (codes_by parts k) board (own_values parts ws k)
  waits parts listed k = record {
    none_done =
        own_values_map writer_state parts.workers ws parts.locates k
        ∙ ap (λ (zs : List WriterState). values_by parts.workers (zip zs parts.locates) k) (all_fresh ∙ ap (map fresh) (sym listed))
        ∙ own_values_of fresh parts.workers parts.locates k;
    on_board = own_all (λ w. IsOn board w.place) parts.workers ws parts.locates k (λ i d lt. (new.each i (get_or ws i d) (slice_get-get_or ws i d lt)).1);
  }

-- ---- what all workers make, by what each of them makes

pub both_ok : {T E : Type 0} (r : Result T E) (P Q S : T → Type 0) → IfOk r P → IfOk r Q → ((x : T) → P x → Q x → S x) → IfOk r S
both_ok (Ok x) P Q S p q f = f x p q
both_ok (Err e) P Q S p q f = tt

-- what a worker with these writers has made, or that memory was refused
abbrev pub Made : {A : Type 0} → List (List ℕ) → DayParts → ℕ → List WriterAt → Result (Finished A) AllocError → Type 0
Made day parts worker writers made = IfOk made (λ m. IsFinished day parts worker writers m.pieces.items m.stocks.items m.writers.items)

-- how many workers wait
many_wait : {A : Type 0} (parts : DayParts) (writers : List WriterAt) (all : List (Waiting A)) → AreWaiting parts writers all → length all ≡ parts.workers
many_wait {A} parts writers all are = sym (length-map all (λ (w : Waiting A). w.worker)) ∙ ap length are.numbers_are ∙ length-map-range_with_len (λ (k : ℕ). k) 0 parts.workers

-- one of them
module _ {A : Type 0} (parts : DayParts) (writers : List WriterAt) (all : List (Waiting A)) (are : AreWaiting parts writers all) (k : ℕ) (w : Waiting A) (is : w ≡ get_or all k w) (lt : k < parts.workers) where
  room : k < length all
  room = omega (arith, lt, many_wait parts writers all are)

  number : w.worker ≡ k
  number =
      ap (λ (v : Waiting A). v.worker) is ∙ sym (get_or-map (λ (v : Waiting A). v.worker) all k w w.worker room)
      ∙ ap (λ (xs : List ℕ). get_or xs k w.worker) are.numbers_are
      ∙ get_or-map-range_with_len (λ (n : ℕ). n) 0 parts.workers k k w.worker lt (omega arith)

  own : w.writers.items ≡ own_values parts writers k
  own =
      ap (λ (v : Waiting A). v.writers.items) is ∙ sym (get_or-map (λ (v : Waiting A). v.writers.items) all k w w.writers.items room)
      ∙ ap (λ (xs : List (List WriterAt)). get_or xs k w.writers.items) are.writers_are
      ∙ get_or-map-range_with_len (own_values parts writers) 0 parts.workers k k w.writers.items lt (omega arith)

  -- what holds of its number and its writers, and of those that it has
  told : (P : ℕ → List WriterAt → Type 0) → P w.worker w.writers.items → P k (own_values parts writers k)
  told P holds = subst (λ (n : ℕ). P n (own_values parts writers k)) number (subst (λ (ws : List WriterAt). P w.worker ws) own holds)

  known : (P : ℕ → List WriterAt → Type 0) → P k (own_values parts writers k) → P w.worker w.writers.items
  known P holds = subst (λ (ws : List WriterAt). P w.worker ws) (sym own) (subst (λ (n : ℕ). P n (own_values parts writers k)) (sym number) holds)

-- workers that wait may start
pub all_may_start : {A : Type 0} (day : List (List ℕ)) (parts : DayParts) (writers : List WriterAt) (all : List (Waiting A)) (board : List CellId) → AreWaiting parts writers all
    → ((k : ℕ) → k < parts.workers → IsWaiting day (codes_by parts k) board (own_values parts writers k))
    → All (λ w. IsWaiting day (codes_by parts w.worker) board w.writers.items) all
all_may_start day parts writers all board are each = λ k d lt.
    let w = get_or all k d in
    let below : k < parts.workers = omega (arith, lt, many_wait parts writers all are) in
    known parts writers all are k w (get_or_default all k d w lt) below (λ n ws. IsWaiting day (codes_by parts n) board ws) (each k below)

-- what each of them made
pub all_finished : {A : Type 0} (day : List (List ℕ)) (parts : DayParts) (writers : List WriterAt) (all : List (Waiting A)) (made : List (Result (Finished A) AllocError)) → AreWaiting parts writers all → length made ≡ length all
    → ((k : ℕ) (d : Result (Finished A) AllocError) → k < length all → (w : Waiting A) × (w ≡ get_or all k w) × Made day parts w.worker w.writers.items (get_or made k d))
    → AreFinished day parts writers made
all_finished day parts writers all made are long each =
    let count = many_wait parts writers all are in
    record {
      long = long ∙ count;
      each = λ k d lt. let at = each k d (omega (arith, lt, count)) in told parts writers all are k at.0 at.1 lt (λ n ws. Made day parts n ws (get_or made k d)) at.2;
    }

-- put together by worker, the machines and the writers are those of all stocks
pub stocks_by_worker : {day : List (List ℕ)} {parts : DayParts} {writers : List WriterAt} {pieces : List (List Piece)} {stocks : List (List StockMachine)} {after : List (List WriterAt)}
    → AreGathered day parts writers pieces stocks after → AreByWorker parts (map (last_machine day) parts.locates) stocks
stocks_by_worker {day} {parts} are = (
  length-map parts.locates (last_machine day),
  are.stocks_are ∙ (λ i. each_worker (λ w. sym (own_values_of (last_machine day) parts.workers parts.locates w) i) parts.workers),
)

pub writers_by_worker : {day : List (List ℕ)} {parts : DayParts} {writers : List WriterAt} {pieces : List (List Piece)} {stocks : List (List StockMachine)} {after : List (List WriterAt)}
    → length writers ≡ length parts.locates → AreGathered day parts writers pieces stocks after → AreByWorker parts (map (at_last day) writers) after
writers_by_worker {day} {parts} {writers} long are = (
  length-map writers (at_last day) ∙ long,
  are.writers_are ∙ (λ i. each_worker (λ w. own_values_map (at_last day) parts.workers writers parts.locates w i) parts.workers),
)

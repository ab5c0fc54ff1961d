-- A stock that is named, whose messages are noted, one message on.
use Rattle.std.proofs.Common.{◌≡◌, ℕ, ◌+◌, ◌-◌, ◌^◌, ◌<◌, true, false, List, [], ◌∷◌, ◌++◌, length, Option, Some, None, sym, ap, subst, ◌∙◌, arith}
use Rattle.std.specs.Prelude.{IfSome, is_some}
use Rattle.itch_table.specs.Parts.{part}
use Rattle.itch_table.specs.Projection.{OthersStay, StepsAreOwn, is_of_stock}
use Rattle.itch_table.proofs.StockDays.{other_part, own_part}
use Rattle.stock_machine.specs.StockRows.{StockMachine}
use Rattle.itch_readings.specs.Naming.{NamesStock}
use Rattle.itch_readings.specs.Noting.{HasTaken, NotesBefore, NotesNext, Noting, TakesNext}
use Rattle.itch_readings.specs.Searching.{Search}
use Rattle.itch_readings.specs.declared.naming.StockName.{StockName}
use Rattle.itch_readings.proofs.LongerDays.{longer, names_more}
use Rattle.itch_readings.proofs.OwnMore.{OrdersAreOwn, others_noted, own_noted}

module _ {N : Type 0} (AreOf : Noting N) (first : N) (day : List (List ℕ)) (payload : List ℕ) (name : StockName) (search : Search) (messages : ℕ) (notes : N) where
  -- a machine has room for a message more
  steps_fit : (stock : Option StockMachine) → NotesBefore AreOf first day payload search stock notes → length day < 2 ^ 32 - 1 → IfSome stock (λ s. s.steps < 2 ^ 32 - 1)
  steps_fit None so_far room = tt
  steps_fit (Some stock) so_far room = omega (arith, so_far.2.steps, room)

  pub room_left : (stock : Option StockMachine) → TakesNext AreOf first day payload name search messages stock notes → length day + 1 < 2 ^ 32
      → IfSome stock (λ s. s.steps < 2 ^ 32 - 1)
  room_left stock takes room = steps_fit stock takes.so_far (omega (arith, room))

  -- a stock that has begun is looked for no more
  still_begun : (stock : Option StockMachine) → is_some stock ≡ true → HasTaken AreOf first day name search messages stock notes
      → NotesBefore AreOf first day payload search stock notes
  still_begun None some taken = let never : ⊥ = cc in absurd never
  still_begun (Some stock) some taken =
      (taken.so_far.0, names_more day (payload ∷ []) search.name taken.so_far.0 stock.locate taken.so_far.1, taken.so_far.2)

  pub begun_stays : (stock : Option StockMachine) → is_some stock ≡ true → HasTaken AreOf first day name search messages stock notes
      → TakesNext AreOf first day payload name search (messages + 1) stock notes
  begun_stays stock some taken = record {
    name_is = taken.name_is;
    counted = ap (λ (k : ℕ). k + 1) taken.counted;
    so_far = still_begun stock some taken;
  }

  -- a message that isn't the stock's
  pub others_next : (held : Option StockMachine) (stock : StockMachine) → held ≡ Some stock → OthersStay → is_of_stock stock.locate payload ≡ false
      → TakesNext AreOf first day payload name search messages held notes
      → HasTaken AreOf first (day ++ payload ∷ []) name search messages (Some stock) notes
  others_next held stock is others off takes =
      let so_far : NotesBefore AreOf first day payload search (Some stock) notes =
      subst (λ (o : Option StockMachine). NotesBefore AreOf first day payload search o notes) is takes.so_far in
      record {
        name_is = takes.name_is;
        counted = takes.counted ∙ sym (longer day payload);
        so_far = (
          so_far.0,
          so_far.1,
          others_noted AreOf first day payload so_far.0 stock notes so_far.1.some (omega (arith, so_far.1.within, longer day payload)) so_far.2
              others (other_part stock.locate (part payload) off) off,
        );
      }

  -- the stock's own message
  pub own_next : (held : Option StockMachine) (stock : StockMachine) → held ≡ Some stock → StepsAreOwn → OrdersAreOwn → is_of_stock stock.locate payload ≡ true
      → (next : StockMachine) (notes' : N) → NotesNext AreOf messages payload stock next notes notes'
      → TakesNext AreOf first day payload name search messages held notes
      → HasTaken AreOf first (day ++ payload ∷ []) name search messages (Some next) notes'
  own_next held stock is own orders on next notes' took takes =
      let so_far : NotesBefore AreOf first day payload search (Some stock) notes =
      subst (λ (o : Option StockMachine). NotesBefore AreOf first day payload search o notes) is takes.so_far in
      record {
        name_is = takes.name_is;
        counted = takes.counted ∙ sym (longer day payload);
        so_far = (
          so_far.0,
          subst (λ (l : ℕ). NamesStock (day ++ payload ∷ []) search.name so_far.0 l) (sym took.locate) so_far.1,
          own_noted AreOf first day payload so_far.0 stock notes so_far.1.some (omega (arith, so_far.1.within, longer day payload)) so_far.2
              own orders (own_part stock.locate (part payload) on) on next notes'
              (subst (λ (k : ℕ). NotesNext AreOf k payload stock next notes notes') takes.counted took),
        );
      }

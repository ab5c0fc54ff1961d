-- The machines of stocks in their slots.
use Rattle.std.proofs.Common.{◌≡◌, ℕ, ◌<◌, List, length, get_or, map, set, Option, Some, None, All, refl, sym, ap, subst, ◌∙◌, arith}
use Rattle.std.specs.Prelude.{IfSome}
use Rattle.std.specs.Option.{option_map}
use Rattle.std.proofs.lemmas.List.{get_or-map, length-map, map-set}
use Rattle.itch_table.specs.World.{empty_world}
use Rattle.stock_machine.specs.StockRows.{StockMachine}
use Rattle.itch_readings.specs.AllStocks.{NotesInSlot, NotesOne, machine_in}
use Rattle.itch_readings.specs.Noting.{NotesNext, Noting}

module _ {V : Type 0} (value : V → StockMachine) where
  -- what holds of a slot's machine
  in_slot : (P : StockMachine → Type 0) (slot : Option V) → IfSome (option_map value slot) P → IfSome slot (λ v. P (value v))
  in_slot P None holds = tt
  in_slot P (Some v) holds = holds

  pub none_seen : (slots : List (Option V)) → All (λ slot. slot ≡ None) slots → All (λ slot. slot ≡ None) (map (option_map value) slots)
  none_seen slots none = λ i d within.
      let below : i < length slots = omega (arith, within, length-map slots (option_map value)) in
      get_or-map (option_map value) slots i None d below ∙ ap (option_map value) (none i None below)

  module _ (slots : List (Option V)) (i : ℕ) (slot : Option V) (within : i < length slots) (is : slot ≡ get_or slots i slot) where
    seen : option_map value slot ≡ get_or (map (option_map value) slots) i None
    seen = ap (option_map value) is ∙ sym (get_or-map (option_map value) slots i slot None within)

    pub in_its_slot : (P : StockMachine → Type 0) → IfSome (get_or (map (option_map value) slots) i None) P → IfSome slot (λ v. P (value v))
    in_its_slot P holds = in_slot P slot (subst (λ (o : Option StockMachine). IfSome o P) (sym seen) holds)

    pub one_noted : {N : Type 0} (AreOf : Noting N) (number : ℕ) (payload : List ℕ) (new : Option V) (notes more : N) (machines : List (Option StockMachine))
        → map (option_map value) slots ≡ machines
        → NotesInSlot AreOf number payload i (option_map value slot) (option_map value new) notes more
        → NotesOne AreOf number payload i machines (map (option_map value) (set slots i new)) notes more
    one_noted AreOf number payload new notes more machines are took = record {
      next = took.next;
      new_is = map-set (option_map value) slots i new ∙ (λ j. set (are j) i (took.new_is j));
      notes_next = subst (λ (o : Option StockMachine). NotesNext AreOf number payload (machine_in i o) took.next notes more)
          (seen ∙ ap (λ (l : List (Option StockMachine)). get_or l i None) are) took.notes_next;
    }

  -- a machine that is there
  pub old_machine : {N : Type 0} (AreOf : Noting N) (number : ℕ) (payload : List ℕ) (locate : ℕ) (slot : Option V) (v : V) (stock next : StockMachine) (notes more : N)
      → slot ≡ Some v → stock ≡ value v → NotesNext AreOf number payload stock next notes more
      → NotesInSlot AreOf number payload locate (option_map value slot) (Some next) notes more
  old_machine AreOf number payload locate slot v stock next notes more is same took = record {
    next = next;
    new_is = refl;
    notes_next = subst (λ (m : StockMachine). NotesNext AreOf number payload m next notes more)
        (same ∙ sym (ap (λ (o : Option V). machine_in locate (option_map value o)) is)) took;
  }

  -- a new one
  pub new_machine : {N : Type 0} (AreOf : Noting N) (number : ℕ) (payload : List ℕ) (locate : ℕ) (slot : Option V) (stock next : StockMachine) (notes more : N)
      → slot ≡ None → stock.locate ≡ locate → stock.world ≡ empty_world → stock.steps ≡ 0 → NotesNext AreOf number payload stock next notes more
      → NotesInSlot AreOf number payload locate (option_map value slot) (Some next) notes more
  new_machine AreOf number payload locate slot stock next notes more is own rows steps took =
      let fresh : stock ≡ machine_in locate None = λ i. record { locate = own i; world = rows i; steps = steps i } in
      record {
        next = next;
        new_is = refl;
        notes_next = subst (λ (m : StockMachine). NotesNext AreOf number payload m next notes more)
            (fresh ∙ sym (ap (λ (o : Option V). machine_in locate (option_map value o)) is)) took;
      }

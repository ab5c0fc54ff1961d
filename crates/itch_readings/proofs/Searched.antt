-- The search for a stock that is named, one message on.
use Rattle.std.proofs.Common.{◌≡◌, ◌≢◌, ℕ, ◌+◌, ◌<◌, Bool, true, false, List, [], ◌∷◌, ◌++◌, length, get_or, set, replicate, Option, Some, None, refl, sym, ap, subst, ◌∙◌, arith, inl, inr}
use Rattle.std.specs.Prelude.{is_some, option_map}
use Rattle.std.specs.FinMap.{get-empty}
use Rattle.std.proofs.lemmas.Bool.{cases_eq, cases_lt}
use Rattle.std.proofs.lemmas.List.{get_or-replicate, get_or-set_other, get_or-set_same}
use Rattle.itch_layouts.specs.Shapes.{shape_of}
use Rattle.itch_layouts.specs.declared.message.Directory.{Directory as DirectoryRow}
use Rattle.itch_table.specs.declared.outcome.Part.TheVariants.{Locate as OfStock}
use Rattle.itch_table.specs.declared.status.StockRow.{StockRow}
use Rattle.itch_table.specs.After.{after}
use Rattle.itch_table.specs.Parts.{part}
use Rattle.itch_table.specs.Projection.{is_of_stock, only}
use Rattle.itch_table.specs.Table.{step}
use Rattle.itch_table.specs.World.{World, directory, empty_world}
use Rattle.itch_table.proofs.DayLocates.{no_rows}
use Rattle.itch_table.proofs.Days.{after-none}
use Rattle.itch_table.proofs.StockDays.{other_part, own_part}
use Rattle.itch_readings.specs.Naming.{Begins, BeginsBy, NamesNone, NamesStock, symbol_by}
use Rattle.itch_readings.specs.Searching.{FindsNext, HasSearched, KnowsRows, Search}
use Rattle.itch_readings.specs.declared.naming.StockName.{StockName}
use Rattle.itch_readings.specs.declared.naming.StockName.TheVariants.{Locate, Symbol}
use Rattle.itch_readings.proofs.DirectoryRows.{applied_same, first_applied, others_listed, row_is_given, rows_of_unlisted, shape_keeps, then_listed}
use Rattle.itch_readings.proofs.LongerDays.{after_whole, begins_before, begins_last, last_begins, longer, payload_last}

-- before the first message
none_first : (name : StockName) → NamesNone [] name
none_first name n some within = absurd (omega (arith, some, within))

knows_first : (name : StockName) (listed : List Bool) → listed ≡ replicate 0x1_0000 false → KnowsRows [] name listed
knows_first (Locate code) listed is = tt
knows_first (Symbol symbol) listed is = λ locate d low.
    let nothing : directory (after [] 0) locate ≡ None =
    ap (λ (w : World). directory w locate) (after-none []) ∙ ap (option_map (λ (r : StockRow). r.directory)) (get-empty {X = StockRow} _ locate) in
    ap (λ (l : List Bool). get_or l locate d) is ∙ get_or-replicate 0x1_0000 locate false d low ∙ sym (ap is_some nothing)

pub searched_first : (name : StockName) (listed : List Bool) → listed ≡ replicate 0x1_0000 false → HasSearched [] (record { name = name; listed = listed })
searched_first name listed is = record { none = none_first name; knows = knows_first name listed is }

-- ---- one message on

module _ (day : List (List ℕ)) (payload : List ℕ) where
  none_next : (name : StockName) → NamesNone day name → ¬ BeginsBy name payload (step (after day (length day)) payload).0 → NamesNone (day ++ payload ∷ []) name
  none_next name none not m some within begins = elim (cases_lt (length day) m) [
    | inl past ↦
        let last : m ≡ length day + 1 = omega (arith, past, within, longer day payload) in
        not (last_begins day payload name (subst (Begins (day ++ payload ∷ []) name) last begins))
    | inr before ↦ none m some before (begins_before day (payload ∷ []) name m some before begins)
  ]

  names_next : (name : StockName) (locate : ℕ) → NamesNone day name → BeginsBy name payload (step (after day (length day)) payload).0
      → part payload ≡ OfStock locate → NamesStock (day ++ payload ∷ []) name (length day + 1) locate
  names_next name locate none begins own = record {
    some = omega arith;
    within = omega (arith, longer day payload);
    begins = begins_last day payload name begins;
    own = ap part (payload_last day payload) ∙ own;
    first = λ m some less before. none m some (omega (arith, less)) (begins_before day (payload ∷ []) name m some (omega (arith, less)) before);
  }

  -- ---- by a locate code

  pub code_is : (search : Search) (code : ℕ) → search.name ≡ Locate code → HasSearched day search → is_of_stock code payload ≡ true
      → NamesStock (day ++ payload ∷ []) search.name (length day + 1) code × (only code (after day (length day)) ≡ empty_world)
  code_is search code is searched on =
      let none : NamesNone day (Locate code) = subst (NamesNone day) is searched.none in (
        subst (λ (name : StockName). NamesStock (day ++ payload ∷ []) name (length day + 1) code) (sym is)
            (names_next (Locate code) code none (own_part code (part payload) on) (own_part code (part payload) on)),
        no_rows day code (length day) (λ has. none has.0 has.1 has.2 has.3),
      )

  pub code_is_not : (search : Search) (code : ℕ) → search.name ≡ Locate code → HasSearched day search → is_of_stock code payload ≡ false
      → HasSearched (day ++ payload ∷ []) search
  code_is_not search code is searched off = record {
    none = subst (NamesNone (day ++ payload ∷ [])) (sym is)
        (none_next (Locate code) (subst (NamesNone day) is searched.none) (other_part code (part payload) off));
    knows = subst (λ (name : StockName). KnowsRows (day ++ payload ∷ []) name search.listed) (sym is) tt;
  }

  -- ---- by a symbol

  module _ (symbol : List ℕ) (listed : List Bool) (none : NamesNone day (Symbol symbol)) (knows : KnowsRows day (Symbol symbol) listed) where
    next_knows : (listed' : List Bool)
        → ((q : ℕ) (d : Bool) → q < 0x1_0000 → get_or listed' q d ≡ is_some (directory (step (after day (length day)) payload).1 q))
        → KnowsRows (day ++ payload ∷ []) (Symbol symbol) listed'
    next_knows listed' is q d low = is q d low ∙ ap (λ (w : World). is_some (directory w q)) (sym (after_whole day payload))

    -- a message that gives no symbol
    pub gives_none : symbol_by payload ≡ None
        → FindsNext day payload (record { name = Symbol symbol; listed = listed }) (record { name = Symbol symbol; listed = listed }) None
    gives_none not = record {
      none = none_next (Symbol symbol) none (λ begins. let never : ⊥ = cc (not, begins.0) in never);
      knows = next_knows listed (λ q d low. knows q d low ∙ ap is_some (sym (shape_keeps (after day (length day)) (shape_of payload) not q)));
    }

    module _ (own : List ℕ) (gives : symbol_by payload ≡ Some own) where
      module _ (locate : ℕ) (at : part payload ≡ OfStock locate) (low : locate < 0x1_0000) where
        -- of a stock that has had one: one of the symbol is refused
        had_row : (o : Option DirectoryRow) → directory (after day (length day)) locate ≡ o → is_some o ≡ true → ¬ BeginsBy (Symbol symbol) payload (step (after day (length day)) payload).0
        had_row None is some begins = let never : ⊥ = cc in never
        had_row (Some row) is some begins =
            let given = row_is_given day locate (length day) row is in
            let same : own ≡ symbol = cc (gives, begins.0) in
            let named : row.stock ≡ symbol = applied_same (after day (length day)) (shape_of payload) own locate row gives at is begins.1 ∙ same in
            none given.message given.some given.within (given.gives ∙ ap Some named, given.applied)

        keeps_listed : is_some (directory (after day (length day)) locate) ≡ true → (q : ℕ) (d : Bool) → q < 0x1_0000
            → get_or listed q d ≡ is_some (directory (step (after day (length day)) payload).1 q)
        keeps_listed on q d below = elim (cases_eq q locate) [
          | inl here ↦
              knows q d below
              ∙ rw here (on ∙ sym (then_listed (after day (length day)) (shape_of payload) own locate gives at))
          | inr apart ↦ knows q d below ∙ ap is_some (sym (others_listed (after day (length day)) (shape_of payload) own locate q gives at apart))
        ]

        pub listed_already : get_or listed locate false ≡ true
            → FindsNext day payload (record { name = Symbol symbol; listed = listed }) (record { name = Symbol symbol; listed = listed }) None
        listed_already on =
            let had : is_some (directory (after day (length day)) locate) ≡ true = sym (knows locate false low) ∙ on in
            record {
              none = none_next (Symbol symbol) none (had_row (directory (after day (length day)) locate) refl had);
              knows = next_knows listed (keeps_listed had);
            }

        -- of one that has had none
        module _ (off : get_or listed locate false ≡ false) (long : length listed ≡ 0x1_0000) where
          unlisted : (o : Option DirectoryRow) → is_some o ≡ false → o ≡ None
          unlisted None not = refl
          unlisted (Some row) not = let never : ⊥ = cc in absurd never

          no_row : directory (after day (length day)) locate ≡ None
          no_row = unlisted (directory (after day (length day)) locate) (sym (knows locate false low) ∙ off)

          pub first_of_symbol : (listed' : List Bool) → own ≡ symbol
              → FindsNext day payload (record { name = Symbol symbol; listed = listed }) (record { name = Symbol symbol; listed = listed' }) (Some locate)
          first_of_symbol listed' same = (
            names_next (Symbol symbol) locate none (gives ∙ ap Some same, first_applied (after day (length day)) (shape_of payload) own locate gives at no_row) at,
            rows_of_unlisted day locate (length day) no_row,
          )

          set_listed : (q : ℕ) (d : Bool) → q < 0x1_0000 → get_or (set listed locate true) q d ≡ is_some (directory (step (after day (length day)) payload).1 q)
          set_listed q d below = elim (cases_eq q locate) [
            | inl here ↦
                rw here (get_or-set_same listed locate true d (omega (arith, low, long))
                ∙ sym (then_listed (after day (length day)) (shape_of payload) own locate gives at))
            | inr apart ↦
                get_or-set_other listed locate q true d apart ∙ knows q d below
                ∙ ap is_some (sym (others_listed (after day (length day)) (shape_of payload) own locate q gives at apart))
          ]

          pub of_another_symbol : own ≢ symbol
              → FindsNext day payload (record { name = Symbol symbol; listed = listed }) (record { name = Symbol symbol; listed = set listed locate true }) None
          of_another_symbol differ = record {
            none = none_next (Symbol symbol) none (λ begins. let same : own ≡ symbol = cc (gives, begins.0) in differ same);
            knows = next_knows (set listed locate true) set_listed;
          }

  -- a search by a symbol, one message on
  pub by_symbol : (old : Search) (symbol : List ℕ) (name : StockName) (items lent listed : List Bool) (found : Option ℕ)
      → record { name = name; listed = items } ≡ old → name ≡ Symbol symbol → lent ≡ items → HasSearched day old
      → (NamesNone day (Symbol symbol) → KnowsRows day (Symbol symbol) lent
      → FindsNext day payload (record { name = Symbol symbol; listed = lent }) (record { name = Symbol symbol; listed = listed }) found)
      → FindsNext day payload old (record { name = name; listed = listed }) found
  by_symbol old symbol name items lent listed found view is same searched next =
      let here : record { name = Symbol symbol; listed = lent } ≡ old = (λ i. record { name = sym is i; listed = same i }) ∙ view in
      let before : HasSearched day (record { name = Symbol symbol; listed = lent }) = subst (HasSearched day) (sym here) searched in
      subst (λ (o : Search). FindsNext day payload o (record { name = name; listed = listed }) found) here
      (subst (λ (n : StockName). FindsNext day payload (record { name = Symbol symbol; listed = lent }) (record { name = n; listed = listed }) found) (sym is)
      (next before.none before.knows))

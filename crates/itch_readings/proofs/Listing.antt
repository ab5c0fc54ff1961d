-- The stocks of a day, one message on.
use Rattle.std.proofs.Common.{◌≡◌, ◌≢◌, ℕ, ◌+◌, ◌<◌, ◌≤◌, Bool, true, false, cond, List, [], ◌∷◌, ◌++◌, zero, suc, length, drop, get_or, set, take, replicate, Option, Some, None, refl, ap, sym, ◌∙◌, arith, add-one, subst, inl, inr}
use Rattle.std.specs.Option.{option_or}
use Rattle.std.proofs.lemmas.Bool.{cases_eq, eq-eqb, ne_eqb}
use Rattle.std.proofs.lemmas.List.{drop_at, get_or_append_left, get_or-replicate, get_or-set_same, get_or-set_other, length-append, length-drop, length-replicate, length-set, length-take, take-append-le}
use Rattle.std.specs.Prelude.{count_by}
use Rattle.std.proofs.lemmas.List.Sums.{count_by-le-length}
use Rattle.itch_table.specs.declared.outcome.Outcome.{Outcome}
use Rattle.itch_table.specs.declared.outcome.Part.TheVariants.{Locate, Nowhere}
use Rattle.itch_table.specs.Parts.{part}
use Rattle.itch_table.specs.Projection.{is_of_stock, steps_of}
use Rattle.itch_table.proofs.StockDays.{steps-next, steps-none}
use Rattle.itch_readings.proofs.GoesOn.{here, left_then, one_more}
use Rattle.itch_readings.specs.Naming.{AreListed, listed_until, symbol_by, symbol_for, symbol_until}
use Rattle.itch_readings.specs.declared.naming.Listed.{Listed}

abbrev listed_as : Option (List ℕ) → ℕ → Listed
listed_as symbol messages = record { symbol = symbol; messages = messages }

or_none : (found : Option (List ℕ)) → option_or found None ≡ found
or_none None = refl
or_none (Some symbol) = refl

symbol-next : (day : List (List ℕ)) (locate n : ℕ)
    → symbol_until day locate (n + 1) ≡ option_or (symbol_until day locate n) (symbol_for locate (get_or day n []))
unfolding symbol_until
symbol-next day locate n = rw add-one refl

symbol-none : (day : List (List ℕ)) (locate : ℕ) → symbol_until day locate 0 ≡ None
unfolding symbol_until
symbol-none day locate = refl

-- before the first message
pub listed_none : (day : List (List ℕ)) (locate : ℕ) → listed_until day 0 locate ≡ listed_as None 0
listed_none day locate = rw (symbol-none day locate, steps-none day locate) refl

-- no more messages than came
steps_below : (day : List (List ℕ)) (locate n : ℕ) → steps_of day locate n ≤ n
unfolding steps_of
steps_below day locate n = omega (arith, count_by-le-length (is_of_stock locate) (take n day), length-take n day)

-- where a day goes on with a payload after n messages
module _ (day rest : List (List ℕ)) (n : ℕ) (payload : List ℕ) (goes_on : drop n day ≡ payload ∷ rest) where
  next_of : (locate : ℕ) (own : Bool) → is_of_stock locate payload ≡ own
      → listed_until day (n + 1) locate
      ≡ listed_as (option_or (symbol_until day locate n) (cond own (symbol_by payload) None)) (steps_of day locate n + cond own 1 0)
  next_of locate own is =
      rw (symbol-next day locate n, steps-next day locate n, here day rest n payload goes_on, is) refl

  pub next_own : (locate : ℕ) → is_of_stock locate payload ≡ true
      → listed_until day (n + 1) locate ≡ listed_as (option_or (symbol_until day locate n) (symbol_by payload)) (steps_of day locate n + 1)
  next_own locate is = next_of locate true is

  pub next_other : (locate : ℕ) → is_of_stock locate payload ≡ false → listed_until day (n + 1) locate ≡ listed_until day n locate
  next_other locate is =
      let same : steps_of day locate n + 0 ≡ steps_of day locate n = omega arith in
      next_of locate false is ∙ rw (or_none (symbol_until day locate n), same) refl

-- ---- a list of stocks that a loop makes

-- the list is that of the messages before the rest of the day
pub record IsListing (day rest : List (List ℕ)) (listed : List Listed) : Type 0 where
  pub n : ℕ
  pub within : n ≤ length day
  pub left : rest ≡ drop n day
  pub are : AreListed day n listed

-- before the first message
pub none_listed : (listed : List Listed) → listed ≡ replicate 0x1_0000 (listed_as None 0) → AreListed [] 0 listed
none_listed listed none = record {
  long = ap length none ∙ length-replicate 0x1_0000 (listed_as None 0);
  each = λ locate d low. ap (λ (l : List Listed). get_or l locate d) none ∙ get_or-replicate 0x1_0000 locate (listed_as None 0) d low ∙ sym (listed_none [] locate);
}

-- what the first messages say is the same where more come after them
symbol_before : (day more : List (List ℕ)) (locate n : ℕ) → n ≤ length day → symbol_until (day ++ more) locate n ≡ symbol_until day locate n
symbol_before day more locate zero within = symbol-none (day ++ more) locate ∙ sym (symbol-none day locate)
symbol_before day more locate (suc n) within =
    let up : suc n ≡ n + 1 = omega arith in
    let there : get_or (day ++ more) n [] ≡ get_or day n [] = get_or_append_left day more [] n (omega (arith, within)) in
    ap (symbol_until (day ++ more) locate) up ∙ symbol-next (day ++ more) locate n
    ∙ rw (symbol_before day more locate n (omega (arith, within)), there) (sym (symbol-next day locate n) ∙ ap (symbol_until day locate) (sym up))

steps_before : (day more : List (List ℕ)) (locate n : ℕ) → n ≤ length day → steps_of (day ++ more) locate n ≡ steps_of day locate n
unfolding steps_of
steps_before day more locate n within = ap (count_by (is_of_stock locate)) (take-append-le n day more within)

pub listing_begins : (day more : List (List ℕ)) (listed : List Listed) → AreListed day (length day) listed → IsListing (day ++ more) more listed
listing_begins day more listed before = record {
  n = length day;
  within = omega (arith, length-append day more);
  left = sym (drop_at day more (length day) refl);
  are = record {
    long = before.long;
    each = λ locate d low. before.each locate d low
        ∙ (λ i. listed_as (sym (symbol_before day more locate (length day) (omega arith)) i) (sym (steps_before day more locate (length day) (omega arith)) i));
  };
}

pub listing_ends : (day : List (List ℕ)) (rest : List (List ℕ)) (listed : List Listed) → IsListing day rest listed → rest ≡ [] → AreListed day (length day) listed
listing_ends day rest listed before none =
    let at : before.n ≡ length day = omega (arith, before.within, ap length (sym before.left ∙ none), length-drop before.n day) in
    subst (λ (n : ℕ). AreListed day n listed) at before.are

module _ (day rest : List (List ℕ)) (listed : List Listed) (before : IsListing day rest listed) (payload : List ℕ) (more : List (List ℕ)) (goes_on : rest ≡ payload ∷ more) where
  now : drop before.n day ≡ payload ∷ more
  now = sym before.left ∙ goes_on

  next_within : before.n + 1 ≤ length day
  next_within = one_more day more before.n payload now

  pub listing_passes : (fixed : Outcome) → Nowhere fixed ≡ part payload → IsListing day more listed
  listing_passes fixed is = record {
    n = before.n + 1;
    within = next_within;
    left = left_then day more before.n payload now;
    are = record {
      long = before.are.long;
      each = λ locate d low.
          let off : is_of_stock locate payload ≡ false = rw (← is) refl in
          before.are.each locate d low ∙ sym (next_other day more before.n payload now locate off);
    };
  }

  module _ (locate : ℕ) (is : Locate locate ≡ part payload) (low : locate < 0x1_0000) (item : Listed) (read : item ≡ get_or listed locate item) where
    own : is_of_stock locate payload ≡ true
    own = rw (← is) (eq-eqb locate locate refl)

    other : (code : ℕ) → code ≢ locate → is_of_stock code payload ≡ false
    other code differ = rw (← is) (ne_eqb locate code (λ e. differ (sym e)))

    item_is : item ≡ listed_until day before.n locate
    item_is = read ∙ before.are.each locate item low

    pub messages_fit : item.messages + 1 ≤ length day
    messages_fit =
        let counted : item.messages ≡ steps_of day locate before.n = ap (λ (known : Listed). known.messages) item_is in
        omega (arith, counted, steps_below day locate before.n, next_within)

    pub listing_goes_on : (symbol : Option (List ℕ)) → symbol ≡ option_or item.symbol (symbol_by payload)
        → IsListing day more (set listed locate (listed_as symbol (item.messages + 1)))
    listing_goes_on symbol symbol_is = record {
      n = before.n + 1;
      within = next_within;
      left = left_then day more before.n payload now;
      are = record {
        long = length-set listed locate _ ∙ before.are.long;
        each = λ code d below. elim (cases_eq code locate) [
          | inl same ↦
              rw (same, get_or-set_same listed locate (listed_as symbol (item.messages + 1)) d (omega (arith, low, before.are.long)))
              (ap (λ (s : Option (List ℕ)). listed_as s (item.messages + 1)) symbol_is
              ∙ ap (λ (known : Listed). listed_as (option_or known.symbol (symbol_by payload)) (known.messages + 1)) item_is
              ∙ sym (next_own day more before.n payload now locate own))
          | inr differ ↦
              get_or-set_other listed locate code (listed_as symbol (item.messages + 1)) d differ
              ∙ before.are.each code d below
              ∙ sym (next_other day more before.n payload now code (other code differ))
        ];
      };
    }

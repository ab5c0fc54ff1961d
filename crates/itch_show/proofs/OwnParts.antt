-- The messages of a stock that is looked for by its locate code are all that it has.
use Rattle.std.proofs.Common.{◌≡◌, ◌≢◌, ℕ, zero, suc, ◌+◌, ◌-◌, ◌^◌, ◌==◌, ◌<◌, ◌≤◌, Bool, false, cond, List, [], ◌∷◌, filter, length, map, take, Some, None, refl, sym, ap, subst, ◌∙◌, arith}
use Rattle.std.specs.Prelude.{Option}
use Rattle.std.specs.List.{range_with_len}
use Rattle.std.proofs.lemmas.Bool.{eqb-true, false_from_ne_true}
use Rattle.std.proofs.lemmas.List.{length-take}
use Rattle.binaryfile.specs.declared.day.Limits.{Limits}
use Rattle.itch_readings.specs.Naming.{NamesNone, NamesStock}
use Rattle.itch_readings.specs.Noting.{HasNoted, Noting}
use Rattle.itch_readings.specs.OwnMessages.{OwnMessage, own_at, own_from}
use Rattle.itch_readings.specs.declared.naming.StockName.{StockName}
use Rattle.itch_readings.specs.declared.naming.StockName.TheVariants.{Locate}
use Rattle.itch_show.specs.Before.{HasTakenOwn, IsBefore}
use Rattle.itch_show.specs.Parts.{GavePart, HasReadUpTo}
use Rattle.itch_show.specs.declared.place.Place.TheVariants.{After}
use Rattle.itch_show.proofs.LastNoted.{stands_for}
use Rattle.itch_table.specs.declared.outcome.Part.{Part}
use Rattle.itch_table.specs.declared.outcome.Part.TheVariants.{Locate as OfStock, Nowhere}
use Rattle.itch_table.specs.After.{after}
use Rattle.itch_table.specs.Parts.{part}
use Rattle.itch_table.specs.Projection.{is_locate, is_of_stock, only, payload_at}
use Rattle.itch_table.specs.Shows.{HasMessage}
use Rattle.itch_table.specs.World.{empty_world}
use Rattle.stock_machine.specs.StockRows.{StockMachine}

-- numbers at the beginning of a range that don't pass
skip : (p : ℕ → Bool) (from many count : ℕ) → ((k : ℕ) → from ≤ k → k < from + many → p k ≡ false)
    → filter p (range_with_len from (many + count)) ≡ filter p (range_with_len (from + many) count)
skip p from zero count none =
    let same : from ≡ from + 0 = omega arith in
    let all : 0 + count ≡ count = omega arith in
    ap (λ (c : ℕ). filter p (range_with_len from c)) all ∙ ap (λ (k : ℕ). filter p (range_with_len k count)) same
skip p from (suc many) count none =
    let rest = filter p (range_with_len (from + 1) (many + count)) in
    let same : from + 1 + many ≡ from + suc many = omega arith in
    let one : suc many + count ≡ suc (many + count) = omega arith in
    ap (λ (c : ℕ). filter p (range_with_len from c)) one
    ∙ ap (λ (b : Bool). cond b (from ∷ rest) rest) (none from (omega arith) (omega arith))
    ∙ skip p (from + 1) many count (λ k least below. none k (omega (arith, least)) (omega (arith, below)))
    ∙ ap (λ (k : ℕ). filter p (range_with_len k count)) same

other_stock : (locate : ℕ) (p : Part) → p ≢ OfStock locate → is_locate locate p ≡ false
other_stock locate (OfStock other) unlike = false_from_ne_true (other == locate) (λ same. unlike (ap OfStock (eqb-true other locate same)))
other_stock locate (Nowhere fixed) unlike = refl

module _ (day : List (List ℕ)) (locate : ℕ) where
  -- from the first of its messages on a stock has all of them
  own_first : (n : ℕ) → 0 < n → n ≤ length day + 1 → ((m : ℕ) → 0 < m → m < n → part (payload_at day m) ≢ OfStock locate)
      → own_from day locate n ≡ own_from day locate 1
  own_first n some within quiet =
      let p : ℕ → Bool = λ k. is_of_stock locate (payload_at day k) in
      let whole : length day + 1 - 1 ≡ (n - 1) + (length day + 1 - n) = omega (arith, some, within) in
      let here : 1 + (n - 1) ≡ n = omega (arith, some) in
      ap (map (own_at day locate)) (sym (
      ap (λ (count : ℕ). filter p (range_with_len 1 count)) whole
      ∙ skip p 1 (n - 1) (length day + 1 - n) (λ k least below. other_stock locate (part (payload_at day k)) (quiet k least (omega (arith, below, some))))
      ∙ ap (λ (k : ℕ). filter p (range_with_len k (length day + 1 - n))) here
      ))

  own_none : ((m : ℕ) → 0 < m → m ≤ length day → part (payload_at day m) ≢ OfStock locate) → own_from day locate 1 ≡ []
  own_none quiet =
      let past : length day + 1 - (length day + 1) ≡ 0 = omega arith in
      sym (own_first (length day + 1) (omega arith) (omega arith) (λ m some less. quiet m some (omega (arith, less))))
      ∙ ap (λ (count : ℕ). map (own_at day locate) (filter (λ k. is_of_stock locate (payload_at day k)) (range_with_len (length day + 1) count))) past

module _ {N : Type 0} (AreOf : Noting N) (first : N) (day : List (List ℕ)) (name : StockName) (locate : ℕ) (is : name ≡ Locate locate)
    (stock : StockMachine) (notes : N) where
  pub own_noted : (n : ℕ) → NamesStock day name n stock.locate → HasNoted AreOf first day n stock notes
      → HasTakenOwn AreOf first day locate stock notes
  own_noted n found has =
      let named : NamesStock day (Locate locate) n stock.locate = subst (λ (other : StockName). NamesStock day other n stock.locate) is found in
      let same : stock.locate ≡ locate = stands_for day (Locate locate) n stock.locate named in
      record {
        locate_is = same;
        world = has.world ∙ ap (λ (code : ℕ). only code (after day (length day))) same;
        steps = has.steps;
        noted = subst (AreOf first notes)
            (ap (λ (code : ℕ). own_from day code n) same ∙ own_first day locate n named.some (omega (arith, named.within)) named.first) has.noted;
      }

  pub none_noted : stock.locate ≡ locate → stock.world ≡ empty_world → stock.steps ≡ 0
      → (¬ HasMessage day locate → only locate (after day (length day)) ≡ empty_world)
      → NamesNone day name → AreOf first notes [] → HasTakenOwn AreOf first day locate stock notes
  none_noted same rows steps others none noted =
      let quiet : NamesNone day (Locate locate) = subst (NamesNone day) is none in
      record {
        locate_is = same;
        world = rows ∙ sym (others (λ has. quiet has.0 has.1 has.2 has.3));
        steps = omega (arith, steps);
        noted = subst (AreOf first notes) (sym (own_none day locate quiet)) noted;
      }

module _ {N : Type 0} (AreOf : Noting N) (first : N) (start now : Option (List ℕ)) (limits : Limits) (locate n number : ℕ) (last : List ℕ)
    (Holds : List (List ℕ) → Type 0) (read : HasReadUpTo start now limits (After (n - 1)) number last Holds) (some : 0 < n) where
  -- a file of fewer messages hasn't the one that is asked for
  pub fewer : number < n - 1 → GavePart start now (IsBefore AreOf first locate n None)
  fewer few = record {
    given = read.part.given;
    gave = read.part.gave;
    each = λ input file are split begins.
        omega (arith, few, read.number_is, ap length (read.part.each input file are split begins), length-take (n - 1) file.payloads);
  }

  pub before : n - 1 ≤ number → (found : StockMachine × N) → HasTakenOwn AreOf first read.day locate found.0 found.1
      → GavePart start now (IsBefore AreOf first locate n (Some found))
  before enough found taken = record {
    given = read.part.given;
    gave = read.part.gave;
    each = λ input file are split begins.
        let cut = read.part.each input file are split begins in (
          omega (arith, enough, read.number_is, ap length cut, length-take (n - 1) file.payloads),
          subst (λ (day : List (List ℕ)). HasTakenOwn AreOf first day locate found.0 found.1) (sym cut) taken,
        );
  }

  pub few_steps : n < 2 ^ 32 → (found : StockMachine × N) → HasTakenOwn AreOf first read.day locate found.0 found.1 → found.0.steps < 2 ^ 32 - 1
  few_steps fits found taken = omega (arith, fits, some, taken.steps, read.comes_up)

-- A stock's machine along its own messages.
use Rattle.std.proofs.Common.{◌≡◌, ℕ, ◌+◌, ◌-◌, ◌*◌, ◌/◌, ◌^◌, ◌<◌, ◌≤◌, List, [], ◌∷◌, ◌++◌, Bool, true, false, leb, length, get_or, take, drop, map, refl, sym, ap, ◌∙◌, arith}
use Rattle.std.specs.List.{range_with_len}
use Rattle.std.specs.List.Sorted.{IsPartitionedBy, IsPartitionPoint}
use Rattle.std.proofs.lemmas.List.{get_or-drop, get_or-take, length-drop, length-take, take_more}
use Rattle.std.proofs.lemmas.List.Elements.{filter_passes}
use Rattle.std.proofs.lemmas.List.FromFn.{get_or-map-range_with_len, length-map-range_with_len, map-range_with_len_more}
use Rattle.std.proofs.Math.Nat.{div-mul-le_self, le-div_iff_mul-le, mul-le-mul_right}
use Rattle.itch_table.specs.declared.outcome.Outcome.{Outcome}
use Rattle.itch_table.specs.declared.outcome.Part.TheVariants.{Locate}
use Rattle.itch_table.specs.Parts.{part}
use Rattle.itch_table.specs.Projection.{is_locate, is_of_stock, only, payload_at}
use Rattle.itch_table.specs.Table.{step}
use Rattle.itch_table.specs.World.{empty_world}
use Rattle.itch_table.proofs.Days.{after-none}
use Rattle.itch_table.proofs.StockDays.{only-empty, own_part, steps-none}
use Rattle.stock_machine.specs.StockRows.{StockMachine}
use Rattle.day_core.specs.Owners.{last_or, machine_of, of_stock, part_at}
use Rattle.day_core.proofs.FilteredRanges.{kept_before, kept_within}
use Rattle.day_core.proofs.Progress.{last_push, machine_until}
use Rattle.day_core.proofs.MachineSteps.{machine_stepped, payload_is, steps_most}
use Rattle.checkpoints.specs.Copies.{IsTrack, copies_of, machine_after_own, numbers_of}
use Rattle.checkpoints.proofs.Splitting.{found, parted, taken}

-- there are enough messages for another copy
pub room_left : (count every last : ℕ) → last < count / every → (last + 1) * every ≤ count
room_left count every last lt =
    let whole = div-mul-le_self count every in
    let here = mul-le-mul_right {m = last + 1} {n = count / every} every (omega (arith, lt)) in
    omega (arith, whole, here)

-- fewer messages have no more copies
pub last_within : (taken count every : ℕ) → 0 < every → taken ≤ count → taken / every ≤ count / every
last_within taken count every some le =
    (le-div_iff_mul-le {k = every} {x = taken / every} {y = count} some).1 (omega (arith, div-mul-le_self taken every))

module _ (day : List (List ℕ)) (locate : ℕ) where
  abbrev own : List ℕ
  own = numbers_of day locate

  abbrev is_own : ℕ → Bool
  is_own n = is_locate locate (part_at day n)

  pub own_within : (i d : ℕ) → i < length own → (1 ≤ get_or own i d) × (get_or own i d ≤ length day)
  unfolding numbers_of
  own_within i d lt =
      let within = kept_within is_own 1 (length day) i d lt in
      (omega (arith, within), omega (arith, within))

  own_passes : (i d : ℕ) → i < length own → part_at day (get_or own i d) ≡ Locate locate
  unfolding numbers_of
  own_passes i d lt = own_part locate _ (filter_passes is_own (range_with_len 1 (length day)) i d lt)

  -- a new machine is the one before the first message
  pub first_machine : (m : StockMachine) → m.locate ≡ locate → m.world ≡ empty_world → m.steps ≡ 0 → m ≡ machine_after_own day locate 0
  unfolding machine_after_own
  first_machine m code world steps =
      let empty = world ∙ sym (ap (only locate) (after-none day) ∙ only-empty locate) in
      let none = steps ∙ sym (steps-none day locate) in
      λ i. record { locate = code i; world = empty i; steps = none i }

  pub machine_locate : (count : ℕ) → (machine_after_own day locate count).locate ≡ locate
  unfolding machine_after_own
  machine_locate count = refl

  -- after as many of its messages as come until message n it is as message n leaves it
  pub machine_at : (n count : ℕ) → take count own ≡ of_stock day locate (range_with_len 1 n) → machine_after_own day locate count ≡ machine_of day locate n
  unfolding machine_after_own
  machine_at n count taken = ap (λ (xs : List ℕ). machine_of day locate (last_or 0 xs)) taken ∙ machine_until day locate n

  module _ (count d : ℕ) (more : count < length own) (before : StockMachine) (is : before ≡ machine_after_own day locate count) (payload : List ℕ) (here : payload ≡ payload_at day (get_or own count d)) where
    abbrev n : ℕ
    n = get_or own count d

    -- before its next message it is as the message before that left it
    stands : before ≡ machine_of day locate (n - 1)
    unfolding numbers_of
    stands = is ∙ machine_at (n - 1) count (kept_before is_own 1 (length day) count d more)

    moved : machine_after_own day locate (count + 1) ≡ machine_of day locate n
    unfolding machine_after_own
    moved = ap (machine_of day locate) (ap (last_or 0) (take_more own count d more) ∙ last_push 0 (take count own) n)

    -- it takes this message
    pub takes_own : part payload ≡ Locate before.locate
    takes_own = ap part here ∙ own_passes count d more ∙ ap (λ (m : StockMachine). Locate m.locate) (sym stands)

    pub takes_few : n < 2 ^ 32 → before.steps < 2 ^ 32 - 1
    takes_few fits =
        let within = own_within count d more in
        let most = steps_most day locate (n - 1) in
        omega (arith, fits, within, most, ap (λ (m : StockMachine). m.steps) stands)

    -- and then has taken one message more
    pub took_own : (m : StockMachine) (o : Outcome) → m.locate ≡ before.locate → m.steps ≡ before.steps + 1 → (o, m.world) ≡ step before.world payload → m ≡ machine_after_own day locate (count + 1)
    took_own m o code steps gives =
        (machine_stepped day locate n before m o (own_within count d more).0 (own_passes count d more) stands code steps (gives ∙ ap (step before.world) here)).0
        ∙ sym moved

  -- a search for the messages up to n finds how many they are
  module _ (n : ℕ) (le : n ≤ length day) where
    pub own_parted : IsPartitionedBy (λ m. leb m n) own
    unfolding numbers_of
    own_parted = parted is_own n (length day) le

    pub own_found : (r : ℕ) → r ≤ length own → IsPartitionPoint (λ m. leb m n ≡ true) (λ m. leb m n ≡ false) own r → take r own ≡ of_stock day locate (range_with_len 1 n)
    unfolding numbers_of
    own_found r bound point =
        ap (λ (k : ℕ). take k own) (found is_own n (length day) le r bound point) ∙ taken is_own n (length day) le

  -- ---- a part of its messages

  pub locate_is : (m : StockMachine) (count : ℕ) → m ≡ machine_after_own day locate count → m.locate ≡ locate
  locate_is m count is = ap (λ (k : StockMachine). k.locate) is ∙ machine_locate count

  module _ (numbers : List ℕ) (are : numbers ≡ own) (from to i : ℕ) (lt : i < length (take (to - from) (drop from numbers))) where
    abbrev number : ℕ
    number = get_or (take (to - from) (drop from numbers)) i 0

    inside : (i < to - from) × (from + i < length numbers)
    inside =
        let short = length-take (to - from) (drop from numbers) in
        let dropped = length-drop from numbers in
        (omega arith, omega arith)

    pub part_within : from + i < length own
    part_within = omega (arith, inside, ap length are)

    part_at_own : number ≡ get_or own (from + i) 0
    part_at_own =
        get_or-take (to - from) (drop from numbers) i 0 inside.0 ∙ get_or-drop from numbers i 0
        ∙ ap (λ (xs : List ℕ). get_or xs (from + i) 0) are

    pub part_inside : (1 ≤ number) × (number ≤ length day)
    part_inside = rw part_at_own (own_within (from + i) 0 part_within)

    pub part_payload : (payload : List ℕ) → payload ≡ get_or day (number - 1) payload → payload ≡ payload_at day (get_or own (from + i) 0)
    part_payload payload is = payload_is day number payload part_inside.0 part_inside.1 is ∙ ap (payload_at day) part_at_own

    pub part_fits : get_or numbers (from + i) 0 < 2 ^ 32 → get_or own (from + i) 0 < 2 ^ 32
    part_fits fits = omega (arith, fits, ap (λ (xs : List ℕ). get_or xs (from + i) 0) are)

  -- a machine that has taken the first messages, by its own locate code
  pub numbers_self : (m : StockMachine) (count : ℕ) → m ≡ machine_after_own day locate count → (numbers : List ℕ) → numbers ≡ own → numbers ≡ numbers_of day m.locate
  numbers_self m count is numbers are = are ∙ ap (numbers_of day) (sym (locate_is m count is))

  pub stands_self : (m : StockMachine) (count : ℕ) → m ≡ machine_after_own day locate count → m ≡ machine_after_own day m.locate count
  stands_self m count is = is ∙ ap (λ (l : ℕ). machine_after_own day l count) (sym (locate_is m count is))

  -- ---- the copies

  module _ (every : ℕ) where
    abbrev copy : ℕ → StockMachine
    copy k = machine_after_own day locate (k * every)

    pub copies_first : (m : StockMachine) → m.locate ≡ locate → m.world ≡ empty_world → m.steps ≡ 0 → m ≡ copy 0
    copies_first m code world steps =
        let none : 0 * every ≡ 0 = omega arith in
        first_machine m code world steps ∙ ap (machine_after_own day locate) (sym none)

    pub copies_are : (copies : List StockMachine) → copies ≡ copies_of day locate every → copies ≡ map copy (range_with_len 0 (length own / every + 1))
    unfolding copies_of
    copies_are copies is = is

    pub copies_made : (last : ℕ) (copies : List StockMachine) → last ≡ length own / every → copies ≡ map copy (range_with_len 0 (last + 1)) → copies ≡ copies_of day locate every
    unfolding copies_of
    copies_made last copies all are = are ∙ ap (λ (n : ℕ). map copy (range_with_len 0 (n + 1))) all

    module _ (last : ℕ) (copies : List StockMachine) (are : copies ≡ map copy (range_with_len 0 (last + 1))) where
      copies_len : length copies ≡ last + 1
      copies_len = ap length are ∙ length-map-range_with_len copy 0 (last + 1)

      copies_at : (k : ℕ) (d : StockMachine) → k ≤ last → get_or copies k d ≡ copy k
      copies_at k d le =
          ap (λ (ms : List StockMachine). get_or ms k d) are
          ∙ get_or-map-range_with_len copy 0 (last + 1) k k d (omega (arith, le)) (omega arith)

      pub copies_more : (m : StockMachine) (pushed : List StockMachine) → m ≡ copy (last + 1) → pushed ≡ copies ++ m ∷ [] → pushed ≡ map copy (range_with_len 0 (last + 1 + 1))
      copies_more m pushed is more =
          more ∙ ap (λ (k : StockMachine). copies ++ k ∷ []) is
          ∙ ap (λ (ms : List StockMachine). ms ++ copy (last + 1) ∷ []) are
          ∙ sym (map-range_with_len_more copy 0 (last + 1) (last + 1) (omega arith))

-- the last copy before a number of the stock's messages
module _ (day : List (List ℕ)) (locate every : ℕ) (numbers : List ℕ) (copies : List StockMachine) (track : IsTrack day locate every numbers copies) (taken : ℕ) (le : taken ≤ length numbers) where
  abbrev most : ℕ
  most = length (numbers_of day locate) / every

  here : taken / every ≤ most
  here = omega (arith, last_within taken (length numbers) every track.some le, ap (λ (xs : List ℕ). length xs / every) track.numbers_are)

  along : copies ≡ map (λ (k : ℕ). machine_after_own day locate (k * every)) (range_with_len 0 (most + 1))
  along = copies_are day locate every copies track.copies_are

  pub copy_there : taken / every < length copies
  copy_there = omega (arith, here, copies_len day locate every most copies along)

  pub copy_stands : (d : StockMachine) → get_or copies (taken / every) d ≡ machine_after_own day locate (taken / every * every)
  copy_stands d = copies_at day locate every most copies along (taken / every) d here

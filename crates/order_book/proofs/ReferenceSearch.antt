-- What a search for a reference finds among orders by rising reference.
use Rattle.std.proofs.Common.{◌≡◌, ◌≢◌, ℕ, ◌+◌, ◌-◌, ◌<◌, ◌≤◌, ◌==◌, List, [], get_or, length, None, Bool, true, false, refl, ap, ◌∙◌, arith, inl, inr}
use Rattle.std.specs.declared.cmp.Ordering.TheVariants.{Less}
use Rattle.std.specs.Ordering.{nat_cmp}
use Rattle.std.specs.Cmp.{nat_cmp_total}
use Rattle.std.specs.List.{All, AllWithin}
use Rattle.std.specs.FinMap as maps
use Rattle.std.specs.FinMap.{get-from_entries}
use Rattle.std.proofs.lemmas.Bool.{cases_lt, eqb-true, eqb-false}
use Rattle.std.proofs.lemmas.Bool.Decides.{nat_tests}
use Rattle.std.proofs.lemmas.List.{get_or_default}
use Rattle.std.proofs.lemmas.List.Elements.{recursion_from_All}
use Rattle.std.proofs.lemmas.Map.Keys.{Less-from_sorted}
use Rattle.order_book.specs.declared.rising.RisenRow.{RisenRow}
use Rattle.order_book.specs.Parts.{AreRising, IsAbove, IsBelow, live_in}
use Rattle.order_book.proofs.RisingLists.{IsOther, by_distance, entries_of, find_none}

-- what a read past the end of the list is taken to be
abbrev pub no_row : RisenRow
no_row = record { distance = 0; shares = 0; marked_price = 0; attribution = [] }

-- no order has the reference
pub none_has : (first reference : ℕ) (rows : List RisenRow) → All (λ row. first + row.distance ≢ reference) rows
    → maps.get (live_in first rows) reference ≡ None
none_has first reference rows differs =
    get-from_entries nat_cmp_total (entries_of first rows) reference
    ∙ find_none first reference rows (recursion_from_All (IsOther first reference) rows (λ k d within. other (get_or rows k d) (differs k d within)))
  where
    other : (row : RisenRow) → first + row.distance ≢ reference → IsOther first reference row
    other row differs = grind (arith, nat_tests)

-- no order is at the distance of the reference: those before a window of at most one are at lower ones, those after at
-- higher ones, and the one in it is at another
pub missing : (first reference : ℕ) (rows : List RisenRow) (distance low count : ℕ) → first + distance ≡ reference → count ≤ 1
    → AllWithin (IsBelow distance) rows 0 low → AllWithin (IsAbove distance) rows (low + count) (length rows)
    → (count ≡ 1 → (d : RisenRow) → (get_or rows low d).distance ≢ distance) → maps.get (live_in first rows) reference ≡ None
missing first reference rows distance low count is one below above differs =
    none_has first reference rows (λ k d within same. other k d within (omega (arith, same, is)))
  where
    other : All (λ row. row.distance ≢ distance) rows
    other k d within = elim (cases_lt k low) [
      | inl before ↦ let lower = below k d (omega arith) before in λ same. omega (arith, lower, same)
      | inr from ↦ elim (cases_lt k (low + count)) [
        | inl inside ↦
            let only : count ≡ 1 = omega (arith, one, from, inside) in
            let here : k ≡ low = omega (arith, one, from, inside) in
            rw here (differs only d)
        | inr after ↦ let higher = above k d (omega (arith, after)) within in λ same. omega (arith, higher, same)
      ]
    ]

below_by : (m n distance : ℕ) → nat_cmp m n ≡ Less → n ≤ distance → m < distance
below_by m n distance less le = grind (arith, nat_tests)

-- the orders before one that is at no higher distance are at lower ones
pub all_below : (rows : List RisenRow) (distance start : ℕ) (first : RisenRow) → AreRising rows → start < length rows
    → (get_or rows start first).distance ≤ distance → AllWithin (IsBelow distance) rows 0 start
all_below rows distance start first rising within least k d low high =
    let less = Less-from_sorted by_distance rows k start d rising high within in
    let same = ap (λ (row : RisenRow). row.distance) (get_or_default rows start d first within) in
    below_by _ _ distance less (omega (arith, same, least))

above_by : (m n distance : ℕ) → nat_cmp m n ≡ Less → distance < m → distance < n
above_by m n distance less lt = grind (arith, nat_tests)

-- the orders from one that is at a higher distance on are at higher ones
pub all_above : (rows : List RisenRow) (distance start : ℕ) (first : RisenRow) → AreRising rows → start < length rows
    → distance < (get_or rows start first).distance → AllWithin (IsAbove distance) rows start (length rows)
all_above rows distance start first rising within more k d low high =
    let same = ap (λ (row : RisenRow). row.distance) (get_or_default rows start d first within) in
    elim (cases_lt start k) [
      | inl later ↦ above_by (get_or rows start d).distance (get_or rows k d).distance distance (Less-from_sorted by_distance rows start k d rising later high) (omega (arith, same, more))
      | inr not ↦
          let here : k ≡ start = omega (arith, low, not) in
          rw here (omega (arith, same, more))
    ]

-- all orders are at lower distances where the last one is
pub all_below_by_last : (rows : List RisenRow) (distance : ℕ) → AreRising rows
    → ((d : RisenRow) → 0 < length rows → IsBelow distance (get_or rows (length rows - 1) d)) → All (IsBelow distance) rows
all_below_by_last rows distance rising last k d within = up_to_last (k == length rows - 1) refl
  where
    up_to_last : (b : Bool) → (k == length rows - 1) ≡ b → IsBelow distance (get_or rows k d)
    up_to_last true same = rw (eqb-true k (length rows - 1) same) (last d (omega arith))
    up_to_last false apart =
        let before : k < length rows - 1 = omega (arith, eqb-false k (length rows - 1) apart) in
        let less = Less-from_sorted by_distance rows k (length rows - 1) d rising before (omega arith) in
        let least = last d (omega arith) in
        below_by _ _ distance less (omega (arith, least))

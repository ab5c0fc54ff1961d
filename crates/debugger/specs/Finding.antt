-- The next number that passes a test, and the one before. All is of this project.
use Rattle.std.specs.Prelude.{◌≡◌, ◌≤◌, ◌<◌, ℕ, Bool, true, false, Option, Some, None}

-- the least number above `from`, up to `last`, that passes, or none
abbrev pub IsNext : (ℕ → Bool) → ℕ → ℕ → Option ℕ → Type 0
IsNext p from last None = (n : ℕ) → from < n → n ≤ last → p n ≡ false
IsNext p from last (Some m) =
    (from < m) × (m ≤ last) × (p m ≡ true) × ((n : ℕ) → from < n → n < m → p n ≡ false)

-- the greatest number up to `from` that passes, or none
abbrev pub IsLatest : (ℕ → Bool) → ℕ → Option ℕ → Type 0
IsLatest p from None = (n : ℕ) → 0 < n → n ≤ from → p n ≡ false
IsLatest p from (Some m) =
    (0 < m) × (m ≤ from) × (p m ≡ true) × ((n : ℕ) → m < n → n ≤ from → p n ≡ false)

-- the least number after `from` that passes, or where none does the last number
pub record IsOnward (p : ℕ → Bool) (from last at : ℕ) : Type 0 where
  pub later : from < at
  pub within : at ≤ last
  pub between : (n : ℕ) → from < n → n < at → p n ≡ false
  pub stops : at < last → p at ≡ true

-- the greatest number before `from` that passes, or where none does 0
pub record IsRearward (p : ℕ → Bool) (from at : ℕ) : Type 0 where
  pub earlier : at < from
  pub between : (n : ℕ) → at < n → n < from → p n ≡ false
  pub stops : 0 < at → p at ≡ true

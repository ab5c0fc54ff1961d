-- Fields of tables, which commas part. They are of this project, and their numbers are decimal.
use Rattle.std.specs.Prelude.{ℕ, ◌==◌, if◌then◌else◌, List, ◌++◌, codes, decimal}

-- the fields of a side's best level: its price and its shares, or nothing where the side is empty
abbrev pub level_fields : ℕ → ℕ → List ℕ
level_fields price shares =
    if shares == 0 then codes ",," else codes "," ++ decimal price ++ codes "," ++ decimal shares

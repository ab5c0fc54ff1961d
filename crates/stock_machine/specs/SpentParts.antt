-- The two parts in which a stock keeps the references that its orders have had: those that rose, and the others.
use Rattle.std.specs.Prelude.{ℕ, ◌+◌, ◌++◌, List, map}

-- references that rose, by their distances from the first of them
abbrev pub risen : ℕ → List ℕ → List ℕ
risen first distances = map (λ distance. first + distance) distances

-- the references of both parts
abbrev pub spent_in : ℕ → List ℕ → List ℕ → List ℕ
spent_in first distances others = risen first distances ++ others

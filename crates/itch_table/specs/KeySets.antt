-- Sets of keys, as finite maps to nothing more. Of this project.
use Rattle.std.specs.Prelude.{◌≡◌, List, map, true}
use Rattle.std.specs.Option.{IsSome}
use Rattle.std.specs.declared.cmp.Ordering.{Ordering}
use Rattle.std.specs.Coded.{Coded}
use Rattle.std.specs.FinMap as maps
use Rattle.std.specs.FinMap.{FinMap}
use base.Stored.{coded_unit}

-- a set of keys
abbrev pub KeySet : {K : Type 0} → (K → K → Ordering) → Type 0
KeySet R = FinMap R (Unit {0})

-- the set of the keys of a list
abbrev pub set_of : {K : Type 0} {R : K → K → Ordering} → List K → KeySet R
set_of keys = maps.from_entries (map (λ k. (k, tt)) keys)

-- the set with a key more
abbrev pub with_key : {K : Type 0} {R : K → K → Ordering} → KeySet R → K → KeySet R
with_key keys k = maps.insert keys k tt

-- each key of a map is in a set
abbrev pub KeysAreIn : {K X : Type 0} {R : K → K → Ordering} → FinMap R X → KeySet R → Type 0
KeysAreIn {K} rows keys = (k : K) → IsSome (maps.get rows k) → maps.contains_key keys k ≡ true

-- a code for sets, by that of their keys
abbrev pub coded_keys : {K : Type 0} {R : K → K → Ordering} → Coded K → Coded (KeySet R)
coded_keys key = maps.code key coded_unit

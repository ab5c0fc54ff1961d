-- The one splitting of a byte string, found from its first byte on. Contracts that callers see say `Splits` instead.
use Rattle.std.specs.Prelude.{ℕ, zero, suc, ◌+◌, ◌*◌, true, false, cond, List, [], ◌∷◌, length, take, drop, nat_lt, nat_eq}
use Rattle.binaryfile.specs.Entries.{Contents}

-- the bytes begin with no entry and no marker
abbrev pub left_over : List ℕ → Contents
left_over bytes = record { payloads = []; marked = false; tail = bytes }

-- one entry more before the others
abbrev pub with_payload : List ℕ → Contents → Contents
with_payload payload contents =
    record { payloads = payload ∷ contents.payloads; marked = contents.marked; tail = contents.tail }

-- the splitting by at most this number of steps
abbrev pub scanned : ℕ → List ℕ → Contents
scanned zero bytes = left_over bytes
scanned (suc n) [] = left_over []
scanned (suc n) (x ∷ []) = left_over (x ∷ [])
scanned (suc n) (high ∷ low ∷ rest) =
    cond (nat_eq (256 * high + low) 0) (record { payloads = []; marked = true; tail = rest })
    (cond (nat_lt (length rest) (256 * high + low)) (left_over (high ∷ low ∷ rest))
    (with_payload (take (256 * high + low) rest) (scanned n (drop (256 * high + low) rest))))

-- the splitting, since each entry takes at least one byte and so no more steps are needed
abbrev pub contents_of : List ℕ → Contents
contents_of bytes = scanned (suc (length bytes)) bytes

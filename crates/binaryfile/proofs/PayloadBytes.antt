-- The payloads of bytes are bytes.
use Rattle.std.proofs.Common.{◌+◌, List, ℕ, [], ◌∷◌, ◌++◌, length, length-append, append_assoc, subst, arith}
use Rattle.std.specs.List.{All, flat_map}
use Rattle.std.specs.Int.{w16, to_be_bytes}
use Rattle.std.proofs.lemmas.List.{get_or_append_left, get_or-append-add}
use Rattle.std.proofs.lemmas.List.Elements.{All-cons, All-nil}
use Rattle.byte_strings.specs.Bytes.{AreBytes, IsByte}
use Rattle.binaryfile.specs.Entries.{Contents, Splits, entry}

module _ {X : Type 0} (P : X → Type 0) (xs ys : List X) (are : All P (xs ++ ys)) where
  All-first : All P xs
  All-first k d lt = subst P (get_or_append_left xs ys d k lt) (are k d (omega (arith, length-append xs ys)))

  All-second : All P ys
  All-second k d lt = subst P (get_or-append-add xs ys k d) (are (length xs + k) d (omega (arith, length-append xs ys)))

each_payload : (payloads : List (List ℕ)) (rest : List ℕ) → AreBytes (flat_map entry payloads ++ rest) → All AreBytes payloads
each_payload [] rest are = All-nil AreBytes
each_payload (p ∷ ps) rest are =
    let here : AreBytes (entry p ++ (flat_map entry ps ++ rest)) = subst AreBytes (append_assoc (entry p) (flat_map entry ps) rest) are in
    All-cons AreBytes p ps
    (All-second IsByte (to_be_bytes w16 (length p)) p (All-first IsByte (entry p) (flat_map entry ps ++ rest) here))
    (each_payload ps rest (All-second IsByte (entry p) (flat_map entry ps ++ rest) here))

pub payloads_are : (bytes : List ℕ) (contents : Contents) → AreBytes bytes → Splits bytes contents → All AreBytes contents.payloads
payloads_are bytes contents are s = each_payload contents.payloads _ (subst AreBytes s.whole are)

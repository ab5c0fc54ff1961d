-- Texts that are added one after another.
use Rattle.std.proofs.Common.{◌≡◌, ℕ, List, [], ◌∷◌, ◌++◌, arith}
use Rattle.std.proofs.lemmas.Grind.{common_steps}

-- a part, a part of three, and one more
pub all_three : (old one first second third last x y z : List ℕ) → x ≡ old ++ one → y ≡ x ++ (first ++ second ++ third) → z ≡ y ++ last
    → z ≡ old ++ (one ++ first ++ second ++ third ++ last)
all_three old one first second third last x y z is_x is_y is_z = grind (arith, common_steps, is_x, is_y, is_z)

-- the same with a byte after the first part
pub byte_and_three : (old one first second third last w x y z : List ℕ) (byte : ℕ) → w ≡ old ++ one → x ≡ w ++ (byte ∷ []) → y ≡ x ++ (first ++ second ++ third) → z ≡ y ++ last
    → z ≡ old ++ (one ++ (byte ∷ []) ++ first ++ second ++ third ++ last)
byte_and_three old one first second third last w x y z byte is_w is_x is_y is_z = grind (arith, common_steps, is_w, is_x, is_y, is_z)

-- The first references of lives, one message on.
use Rattle.std.proofs.Common.{◌≡◌, ℕ, ◌==◌, Bool, true, false, cond, List, [], ◌∷◌, ◌++◌, Option, Some, refl, ap, ◌∙◌}
use Rattle.std.specs.BTreeMap.{BTreeMap, get}
use Rattle.std.specs.Option.{unwrap_or}
use Rattle.std.specs.Ordering.{nat_cmp}
use Rattle.itch_layouts.specs.declared.message.Replace.{Replace}
use Rattle.itch_readings.specs.OrderHistory.{first_by}
use Rattle.itch_readings.specs.OrderLives.{earlier_by, earlier_reference, first_reference}
use Rattle.itch_readings.specs.OwnMessages.{OwnMessage}

by_test : (b : Bool) (old : BTreeMap ℕ ℕ) (former reference : ℕ)
    → unwrap_or (cond b (Some (first_by old former)) (get nat_cmp old reference)) reference ≡ first_by old (cond b former reference)
by_test true old former reference = refl
by_test false old former reference = refl

pub linked : (old new : BTreeMap ℕ ℕ) (message : Replace)
    → ((reference : ℕ) → get nat_cmp new reference ≡ cond (message.new_reference == reference) (Some (first_by old message.reference)) (get nat_cmp old reference))
    → (reference : ℕ) → first_by new reference ≡ first_by old (earlier_reference (Some message) reference)
linked old new message puts reference =
    ap (λ (o : Option ℕ). unwrap_or o reference) (puts reference) ∙ by_test (message.new_reference == reference) old message.reference reference

-- the last message is the first one back
pub first-last : (messages : List OwnMessage) (message : OwnMessage) (reference : ℕ)
    → first_reference (messages ++ message ∷ []) reference ≡ first_reference messages (earlier_by message reference)
first-last [] message reference = refl
first-last (m ∷ rest) message reference = ap (earlier_by m) (first-last rest message reference)

-- A file that was read so far, and one segment more.
use Rattle.std.proofs.Common.{◌≡◌, ℕ, ◌+◌, ◌-◌, ◌≤◌, Bool, true, false, List, [], ◌++◌, length, ap, sym, subst, ◌∙◌, arith}
use Rattle.std.proofs.lemmas.List.{length-append}
use Rattle.std.specs.Prelude.{MatchOption, Option, Some}
use Rattle.std.specs.List.{flat_map}
use Rattle.binaryfile.specs.Devices.{GaveAll, GaveMore, GaveUpTo}
use Rattle.binaryfile.specs.Entries.{Contents, Splits, entry, marker}
use Rattle.day_segments.specs.Segments.{IsSegment, carry_after, carry_by}
use Rattle.day_segments.specs.Reading.{HasRead, IsReadTo, Reading, followed_by}
use Rattle.binaryfile.proofs.Splitting.{length_payloads}
use Rattle.day_segments.proofs.Following.{gives_more, gives_up_to, reads_on}

-- what is carried over is no longer than an end marker and the tail
carry_within : (marked : Bool) (tail : List ℕ) → length (carry_by marked tail) ≤ length (marker marked) + length tail
carry_within true tail = omega arith
carry_within false tail = omega arith

-- messages, and what is carried over from them, are no more than the bytes
pub counted_on : (carried bytes : List ℕ) (c : Contents) → Splits (carried ++ bytes) c → length c.payloads + length (carry_after c) ≤ length carried + length bytes
counted_on carried bytes c split =
    omega (
      arith,
      length_payloads c.payloads,
      carry_within c.marked c.tail,
      ap length split.whole,
      length-append carried bytes,
      length-append (flat_map entry c.payloads) (marker c.marked ++ c.tail),
      length-append (marker c.marked) c.tail,
    )

-- a segment that was found
pub found : (now next : Option (List ℕ)) (carried : List ℕ) (size room : ℕ) (segment : Option Contents) (c : Contents) → segment ≡ Some c → MatchOption segment (GaveAll now next []) (IsSegment now next carried size room)
    → IsSegment now next carried size room c
found now next carried size room segment c is = subst (λ (segment : Option Contents). MatchOption segment (GaveAll now next []) (IsSegment now next carried size room)) is

-- its bytes
pub segment_long : (carried bytes all : List ℕ) (c : Contents) → Splits all c → Splits (carried ++ bytes) c → length all ≡ length carried + length bytes
segment_long carried bytes all c split more = ap length (split.whole ∙ sym more.whole) ∙ length-append carried bytes

module _ (start now : Option (List ℕ)) (before : Contents) (old : Reading) (has : HasRead start now before old) (next : Option (List ℕ)) (room : ℕ) (left : room ≡ old.most - old.given) where
  pub took_up_to : GaveUpTo now next (room + 1) → GaveUpTo start next (old.most + 1)
  took_up_to took = gives_up_to start now before old.carried old.given has.read old.most has.within next (subst (λ (n : ℕ). GaveUpTo now next (n + 1)) left took)

  pub took_more : GaveMore now next room → GaveMore start next old.most
  took_more took = gives_more start now before old.carried old.given has.read old.most has.within next (subst (GaveMore now next) left took)

  pub has_read_on : (carried : List ℕ) (size : ℕ) (c : Contents) (new : Reading) → carried ≡ old.carried → (segment : IsSegment now next carried size room c) → new.carried ≡ carry_after c
      → new.given ≡ old.given + length segment.bytes → new.messages ≡ old.messages + length c.payloads → new.most ≡ old.most → HasRead start next (followed_by before c) new
  has_read_on carried size c new same segment carry_is given messages most =
      let read = subst (λ (bytes : List ℕ). IsReadTo start now before bytes old.given) (sym same) has.read in
      record {
        read = subst (λ (to : List ℕ × ℕ). IsReadTo start next (followed_by before c) to.0 to.1) (λ i. (sym carry_is i, sym given i)) (reads_on start now next carried size room c segment before old.given read);
        messages_are = omega (arith, messages, has.messages_are, length-append before.payloads c.payloads);
        within = omega (arith, given, most, segment.within, has.within, left);
      }

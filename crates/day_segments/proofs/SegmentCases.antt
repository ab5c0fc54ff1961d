-- What is known after a segment, and at the end of a file, for loops over segments.
use Rattle.std.proofs.Common.{◌≡◌, ◌≢◌, ℕ, ◌+◌, ◌≤◌, List, length, refl, subst, arith}
use Rattle.std.specs.Prelude.{MatchOption, None, Option, Some}
use Rattle.binaryfile.specs.Devices.{GaveMore, GaveUpTo}
use Rattle.binaryfile.specs.Entries.{Contents}
use Rattle.binaryfile.specs.declared.load.LoadFault.{LoadFault}
use Rattle.binaryfile.specs.declared.load.LoadFault.TheVariants.{Memory, Read, TooManyBytes, TooManyMessages}
use Rattle.day_segments.specs.Reading.{HasRead, IsReadTo, IsWholeFile, Reading, Stops, followed_by}
use Rattle.day_segments.proofs.Following.{parts_long}

module _ (start next : Option (List ℕ)) (most : ℕ) (before : Contents) (new : Reading) where
  abbrev pub Found : Option Contents → Type 0
  Found found = MatchOption found (IsWholeFile start next most before) (λ segment. HasRead start next (followed_by before segment) new)

  pub one_more : (found : Option Contents) (segment : Contents) → found ≡ Some segment → Found found → HasRead start next (followed_by before segment) new
  one_more found segment is = subst Found is

  pub none_more : (old : Reading) (Further : Contents → Type 0) (found : Option Contents) → found ≡ None → MatchOption found (new ≡ old) Further → new ≡ old
  none_more old Further found is = subst (λ (found : Option Contents). MatchOption found (new ≡ old) Further) is

  pub all_of_it : (found : Option Contents) → found ≡ None → Found found → IsWholeFile start next most before
  all_of_it found is = subst Found is

pub took_within : (start next : Option (List ℕ)) (most limit : ℕ) → most ≡ limit → GaveUpTo start next (most + 1) → GaveUpTo start next (limit + 1)
took_within start next most limit is = subst (λ (n : ℕ). GaveUpTo start next (n + 1)) is

-- no more bytes come after the last entry than were read
pub tail_within : (start now : Option (List ℕ)) (contents : Contents) (carried : List ℕ) (given : ℕ) → IsReadTo start now contents carried given → length contents.tail ≤ given
tail_within start now contents carried given read = omega (arith, parts_long start now contents carried given read)

-- the fault of a segment is that of its file
pub stops : (start now : Option (List ℕ)) (bytes messages : ℕ) (fault : LoadFault) → (fault ≡ TooManyBytes → GaveMore start now bytes) → fault ≢ TooManyMessages → Stops start now bytes messages fault
stops start now bytes messages Memory more few = tt
stops start now bytes messages Read more few = tt
stops start now bytes messages TooManyBytes more few = more refl
stops start now bytes messages TooManyMessages more few = absurd (few refl)

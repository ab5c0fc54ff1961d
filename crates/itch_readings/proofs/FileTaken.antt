-- A file whose messages are taken segment by segment.
use Rattle.std.proofs.Common.{◌≡◌, ℕ, ◌+◌, ◌<◌, ◌≤◌, ◌^◌, List, ◌++◌, length, arith}
use Rattle.std.proofs.lemmas.List.{length-append}
use Rattle.std.specs.Prelude.{Option}
use Rattle.binaryfile.specs.Entries.{Contents}
use Rattle.day_segments.specs.Reading.{HasRead, Reading, followed_by}

-- a file was read so far, and its messages were taken so far, as long as they are few enough
pub record IsTakenTo (start now : Option (List ℕ)) (reading : Reading) (most : ℕ) (Taken : List (List ℕ) → Type 0) : Type 0 where
  pub contents : Contents
  pub read : HasRead start now contents reading
  pub taken : reading.messages ≤ most → Taken contents.payloads

module _ (start now : Option (List ℕ)) (reading : Reading) (most : ℕ) (Taken : List (List ℕ) → Type 0) (before : IsTakenTo start now reading most Taken) where
  -- those of the next segment may be taken
  pub taken_before : (payloads : List (List ℕ)) (messages : ℕ) → messages ≡ length (before.contents.payloads ++ payloads) → messages ≤ most → most < 2 ^ 32
      → Taken before.contents.payloads × (length before.contents.payloads + length payloads < 2 ^ 32)
  taken_before payloads messages counted few fits = (
    before.taken (omega (arith, few, counted, before.read.messages_are, length-append before.contents.payloads payloads)),
    omega (arith, few, fits, counted, length-append before.contents.payloads payloads),
  )

  pub taken_next : (next : Option (List ℕ)) (segment : Contents) (reading' : Reading) (Then : List (List ℕ) → Type 0)
      → HasRead start next (followed_by before.contents segment) reading'
      → (reading'.messages ≤ most → (day : List (List ℕ)) → Taken day → Then (day ++ segment.payloads))
      → IsTakenTo start next reading' most Then
  taken_next next segment reading' Then read more = record {
    contents = followed_by before.contents segment;
    read = read;
    taken = λ few. more few before.contents.payloads
        (before.taken (omega (arith, few, read.messages_are, before.read.messages_are, length-append before.contents.payloads segment.payloads)));
  }

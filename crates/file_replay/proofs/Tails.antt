-- How a file ends with a segment more.
use Rattle.std.proofs.Common.{◌≡◌, ℕ, ◌+◌, ◌<◌, ◌≤◌, ◌^◌, Bool, true, false, List, length, sym, refl, ap, arith, ◌∙◌}
use Rattle.std.proofs.lemmas.List.{length-append}
use Rattle.std.specs.Prelude.{Option}
use Rattle.binaryfile.specs.Entries.{Contents}
use Rattle.day_segments.specs.Reading.{HasRead, followed_by, tail_after}
use Rattle.day_segments.proofs.SegmentCases.{tail_within}
use Rattle.file_replay.specs.FileEnds.{end_after, tail_length}
use Rattle.file_replay.specs.declared.file_end.FileEnd.{FileEnd}
use Rattle.file_replay.specs.Files.{FileReading, IsSoFar}

longer : (marked : Bool) (tail more : List ℕ) → tail_length marked (length tail) (length more) ≡ length (tail_after marked tail more)
longer true tail more = sym (length-append tail more)
longer false tail more = refl

shorter : (marked : Bool) (tail more : List ℕ) → length more ≤ length (tail_after marked tail more)
shorter true tail more = omega (arith, length-append tail more)
shorter false tail more = omega arith

module _ (start now next : Option (List ℕ)) (before segment : Contents) (old new : FileReading) (at : IsSoFar start now before old) (read : HasRead start next (followed_by before segment) new.reading) where
  -- a tail fits 64 bits
  pub tail_fits : old.reading.most ≤ 2 ^ 40 → new.reading.most ≡ old.reading.most → old.end.tail + length segment.tail < 2 ^ 64
  tail_fits few same =
      omega (
        arith,
        few,
        same,
        at.tail_is,
        at.read.within,
        read.within,
        tail_within start now before old.reading.carried old.reading.given at.read.read,
        tail_within start next (followed_by before segment) new.reading.carried new.reading.given read.read,
        shorter before.marked before.tail segment.tail,
      )

  pub so_far_after : new.end ≡ end_after old.end segment → length (followed_by before segment).payloads ≤ new.limit → IsSoFar start next (followed_by before segment) new
  so_far_after is few = record {
    read = read;
    few = few;
    marked_is = ap (λ (e : FileEnd). e.marked) is;
    tail_is = ap (λ (e : FileEnd). e.tail) is ∙ ap (λ (marked : Bool). tail_length marked old.end.tail (length segment.tail)) at.marked_is
        ∙ ap (λ (n : ℕ). tail_length before.marked n (length segment.tail)) at.tail_is ∙ longer before.marked before.tail segment.tail;
  }

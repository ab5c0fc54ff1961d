-- A file that is replayed so far, of which the next messages are dealt.
use Rattle.std.proofs.Common.{◌≡◌, ℕ, Bool, true, false, List, subst}
use Rattle.std.specs.Prelude.{Option}
use Rattle.binaryfile.specs.Entries.{Contents}
use Rattle.day_segments.specs.Reading.{IsWholeFile}
use Rattle.day_replay.specs.Dealing.{Dealt}
use Rattle.day_replay.specs.Replays.{HasReplayed, ReplayState}
use Rattle.file_replay.specs.Files.{FileReading, IsFurther, IsSoFar, Next}

pub record IsReplaying (start now : Option (List ℕ)) (file : FileReading) (more : Bool) (dealt : Dealt) (replay : ReplayState) : Type 0 where
  pub before : Contents
  pub replayed : HasReplayed before.payloads replay
  pub next : Next start now before file dealt more

-- whether messages are dealt, as a number
abbrev pub is_dealt : Bool → ℕ
is_dealt false = 0
is_dealt true = 1

module _ (start now : Option (List ℕ)) (before : Contents) (file : FileReading) (dealt : Dealt) (more : Bool) where
  pub further_of : more ≡ true → Next start now before file dealt more → IsFurther start now before file dealt
  further_of is = subst (Next start now before file dealt) is

  pub whole_of : more ≡ false → Next start now before file dealt more → IsSoFar start now before file × IsWholeFile start now file.reading.most before
  whole_of is = subst (Next start now before file dealt) is

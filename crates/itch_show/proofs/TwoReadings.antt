-- What two readers gave of a file, by what each gave.
use Rattle.std.proofs.Common.{◌≡◌, ℕ, List, []}
use Rattle.std.specs.Prelude.{Option}
use Rattle.std.proofs.KnownBytes.{Consumes-nil}
use Rattle.binaryfile.specs.Entries.{Contents}
use Rattle.binaryfile.specs.declared.day.Limits.{Limits}
use Rattle.itch_show.specs.Parts.{GavePart, HasReadUpTo}
use Rattle.itch_show.specs.Places.{up_to}
use Rattle.itch_show.specs.Shown.{GaveParts}
use Rattle.itch_show.specs.declared.place.Place.{Place}

module _ (again : Option (List ℕ)) where
  -- a reader that gave nothing says nothing of a file
  pub gave_nothing : (Holds : List ℕ → Contents → Type 0) → ((input : List ℕ) (file : Contents) → Holds input file)
      → GavePart again again Holds
  gave_nothing Holds each = record {
    given = [];
    gave = Consumes-nil again;
    each = λ input file are split begins. each input file;
  }

  pub first_alone : (old new : Option (List ℕ)) (Holds : List ℕ → Contents → Type 0)
      → GavePart old new Holds → GaveParts old new again again Holds
  first_alone old new Holds part = record {
    given = part.given;
    gave = part.gave;
    again = [];
    gave_again = Consumes-nil again;
    each = λ input file are split begins second. part.each input file are split begins;
  }

  -- what holds of a file whose messages before the place are those of the first reading
  pub both_gave : (old new later : Option (List ℕ)) (limits : Limits) (place : Place) (number : ℕ) (payload : List ℕ)
      (Then : List (List ℕ) → Type 0) (read : HasReadUpTo old new limits place number payload Then)
      (Holds : List ℕ → Contents → Type 0)
      → GavePart again later (λ input file. up_to place file.payloads ≡ read.day → Holds input file)
      → GaveParts old new again later Holds
  both_gave old new later limits place number payload Then read Holds part = record {
    given = read.part.given;
    gave = read.part.gave;
    again = part.given;
    gave_again = part.gave;
    each = λ input file are split begins second.
        part.each input file are split second (read.part.each input file are split begins);
  }

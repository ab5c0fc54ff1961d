-- A file of which a segment more is dealt, or which was read whole.
use Rattle.std.proofs.Common.{◌≡◌, ℕ, ◌+◌, ◌<◌, ◌≤◌, ◌++◌, [], Bool, true, Ok, Err, List, length, refl, sym, subst, ap, ◌∙◌, append-nil}
use Rattle.std.proofs.lemmas.List.{append_assoc}
use Rattle.std.specs.Prelude.{MatchOption, Option, Some}
use Rattle.binaryfile.specs.Devices.{Device, GaveUpTo, HasFailed}
use Rattle.binaryfile.specs.Entries.{Contents}
use Rattle.binaryfile.specs.declared.load.LoadFault.{LoadFault}
use Rattle.binaryfile.specs.declared.load.LoadFault.TheVariants.{Read}
use Rattle.day_segments.specs.Reading.{HasRead, Reading, Stops, followed_by}
use Rattle.day_replay.specs.Dealing.{Dealt, IsDealt}
use Rattle.file_replay.specs.FileEnds.{end_after}
use Rattle.file_replay.specs.declared.file_end.FileEnd.{FileEnd}
use Rattle.file_replay.specs.Files.{FileReading, IsFurther, IsSoFar, ReadsOn}
use Rattle.file_replay.proofs.Tails.{so_far_after}

-- nothing is dealt yet
pub none_further : (start now : Option (List ℕ)) (before : Contents) (file : FileReading) (dealt : Dealt) → IsSoFar start now before file → IsDealt (length before.payloads) [] dealt → IsFurther start now before file dealt
none_further start now before file dealt at nothing = record {
  contents = before;
  so_far = at;
  payloads = [];
  follow = sym (append-nil before.payloads);
  dealt_is = nothing;
}

module _ (start now next : Option (List ℕ)) (before : Contents) (old new : FileReading) (had dealt : Dealt) (at : IsFurther start now before old had) where
  -- a segment more
  pub one_further : (segment : Contents) → HasRead start next (followed_by at.contents segment) new.reading → new.end ≡ end_after old.end segment → length (followed_by at.contents segment).payloads ≤ new.limit
      → ((payloads : List (List ℕ)) → IsDealt (length before.payloads) payloads had → IsDealt (length before.payloads) (payloads ++ segment.payloads) dealt) → IsFurther start next before new dealt
  one_further segment read end few deals = record {
    contents = followed_by at.contents segment;
    so_far = so_far_after start now next at.contents segment old new at.so_far read end few;
    payloads = at.payloads ++ segment.payloads;
    follow = ap (λ (ps : List (List ℕ)). ps ++ segment.payloads) at.follow ∙ append_assoc before.payloads at.payloads segment.payloads;
    dealt_is = deals at.payloads at.dealt_is;
  }

-- what is known where there is a segment
pub some_more : (P : Type 0) (Q : Contents → Type 0) (found : Option Contents) (segment : Contents) → found ≡ Some segment → MatchOption found P Q → Q segment
some_more P Q found segment is = subst (λ (found : Option Contents). MatchOption found P Q) is

-- a file as what it is made of
abbrev pub file_of : Reading → FileEnd → ℕ → FileReading
file_of reading end limit = record { reading = reading; end = end; limit = limit }

module _ {R : Type 0} (left : R → Option (List ℕ)) (feed fed : Device R) (old : FileReading) (read next : Reading) (end last : FileEnd) (limit : ℕ) (is : file_of read end limit ≡ old)
    (taken : (start : Option (List ℕ)) (before : Contents) → HasRead start (left feed.device) before read → GaveUpTo start (left fed.device) (read.most + 1)) (most : next.most ≡ read.most)
    (for_good : HasFailed feed → fed ≡ feed) where
  -- no segment more, for a fault
  pub reads_not : (fault : LoadFault) → ((start : Option (List ℕ)) (before : Contents) → HasRead start (left feed.device) before read → Stops start (left fed.device) read.most limit fault)
      → ((fault ≡ Read → HasFailed fed) × (HasFailed fed → fault ≡ Read)) → ReadsOn left feed fed old (file_of next last limit) (Err fault)
  reads_not fault stops failed = subst (λ (old : FileReading). ReadsOn left feed fed old (file_of next last limit) (Err fault)) is (record {
    stops = λ start before at. stops start before at.read;
    taken = λ start before at. taken start before at.read;
    most = most;
    limit = refl;
    not_back = tt;
    further = tt;
    failed = (λ is. let same : fault ≡ Read = cc in failed.0 same, λ f. ap Err (failed.1 f));
    for_good = for_good;
  })

  -- a segment more, or the end
  pub reads_so : (more : Bool) → read.given ≤ next.given → (more ≡ true → read.given < next.given) → ¬ HasFailed fed → ReadsOn left feed fed old (file_of next last limit) (Ok more)
  reads_so more back further works = subst (λ (old : FileReading). ReadsOn left feed fed old (file_of next last limit) (Ok more)) is (record {
    stops = tt;
    taken = λ start before at. taken start before at.read;
    most = most;
    limit = refl;
    not_back = back;
    further = further;
    failed = (λ is. let never : ⊥ = cc in absurd never, λ failed. absurd (works failed));
    for_good = for_good;
  })

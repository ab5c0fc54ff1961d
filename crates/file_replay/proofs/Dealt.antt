-- What is known once messages of a file were dealt, or not.
use Rattle.std.proofs.Common.{◌≡◌, ℕ, ◌+◌, ◌*◌, ◌-◌, ◌<◌, ◌≤◌, ◌++◌, Bool, true, false, Ok, Err, List, length, refl, sym, subst, ◌∙◌, arith}
use Rattle.std.specs.Prelude.{IfErr, IfOk, Option, Result}
use Rattle.binaryfile.specs.Devices.{Device, GaveUpTo, HasFailed}
use Rattle.binaryfile.specs.Entries.{Contents}
use Rattle.binaryfile.specs.declared.load.LoadFault.{LoadFault}
use Rattle.binaryfile.specs.declared.load.LoadFault.TheVariants.{Read}
use Rattle.std.specs.declared.alloc.AllocError.{AllocError}
use Rattle.day_segments.specs.Reading.{Stops}
use Rattle.day_replay.specs.Dealing.{Dealt, IsDealt}
use Rattle.day_replay.specs.Replays.{HasReplayed, ReplayState}
use Rattle.file_replay.specs.Files.{DealsNext, FileReading, IsFurther, IsSoFar, Next, ReadsOn, ReplaysDealt}
use Rattle.file_replay.proofs.Replayed.{is_dealt}

module _ {R : Type 0} (left : R → Option (List ℕ)) (feed fed : Device R) (old new : FileReading) (result : Result Bool LoadFault) (reads : ReadsOn left feed fed old new result) where
  module _ (fault : LoadFault) (is : result ≡ Err fault) where
    pub stopped : (start : Option (List ℕ)) (before : Contents) → IsSoFar start (left feed.device) before old → Stops start (left fed.device) old.reading.most old.limit fault
    stopped = subst (λ (r : Result Bool LoadFault). IfErr r (λ fault. (start : Option (List ℕ)) (before : Contents) → IsSoFar start (left feed.device) before old → Stops start (left fed.device) old.reading.most old.limit fault)) is reads.stops

  module _ (more : Bool) (is : result ≡ Ok more) where
    pub works : ¬ HasFailed fed
    works failed = let never : Ok more ≡ Err Read = sym is ∙ reads.failed.1 failed in cc

    went_on : old.reading.given ≤ new.reading.given
    went_on = subst (λ (r : Result Bool LoadFault). IfOk r (λ _. old.reading.given ≤ new.reading.given)) is reads.not_back

    went_further : more ≡ true → old.reading.given < new.reading.given
    went_further = subst (λ (r : Result Bool LoadFault). IfOk r (λ more. more ≡ true → old.reading.given < new.reading.given)) is reads.further

    less_by : (again : Bool) → (again ≡ true → old.reading.given < new.reading.given) → (again ≡ true → new.reading.given ≤ new.reading.most) → 2 * (new.reading.most - new.reading.given) + is_dealt again < 2 * (old.reading.most - old.reading.given) + 1
    less_by true further within = omega (arith, further refl, within refl, reads.most)
    less_by false further within = omega (arith, went_on, reads.most)

    -- a replay comes nearer to its end
    pub less_left : (before : Bool) → before ≡ true → (more ≡ true → new.reading.given ≤ new.reading.most) → 2 * (new.reading.most - new.reading.given) + is_dealt more < 2 * (old.reading.most - old.reading.given) + is_dealt before
    less_left before dealt within = subst (λ (b : Bool). 2 * (new.reading.most - new.reading.given) + is_dealt more < 2 * (old.reading.most - old.reading.given) + is_dealt b) (sym dealt) (less_by more went_further within)

pub dealt_next : {R : Type 0} (left : R → Option (List ℕ)) (feed fed : Device R) (old new : FileReading) (dealt : Dealt) (result : Result Bool LoadFault) (more : Bool) → result ≡ Ok more → DealsNext left feed fed old new dealt result
    → (start : Option (List ℕ)) (before : Contents) → IsSoFar start (left feed.device) before old → Next start (left fed.device) before new dealt more
dealt_next left feed fed old new dealt result more is deals =
    subst (λ (r : Result Bool LoadFault). IfOk r (λ more. (start : Option (List ℕ)) (before : Contents) → IsSoFar start (left feed.device) before old → Next start (left fed.device) before new dealt more)) is deals.next

-- the messages that were dealt are replayed
pub gone : (old new : ReplayState) (dealt : Dealt) (result : Result (Unit {0}) AllocError) (u : Unit {0}) → result ≡ Ok u → ReplaysDealt old new dealt result → (day payloads : List (List ℕ)) → HasReplayed day old → IsDealt (length day) payloads dealt
    → HasReplayed (day ++ payloads) new
gone old new dealt result u is = subst (ReplaysDealt old new dealt) is

-- a result where a segment was dealt before
abbrev pub still : Result Bool LoadFault → Result Bool LoadFault
still (Ok more) = Ok true
still (Err fault) = Err fault

-- a file of which messages were read and dealt, and that was then read on again
module _ {R : Type 0} (left : R → Option (List ℕ)) (feed fed last : Device R) (old new then : FileReading) (dealt : Dealt) (first : ReadsOn left feed fed old new (Ok true))
    (further : (start : Option (List ℕ)) (before : Contents) → IsSoFar start (left feed.device) before old → IsFurther start (left fed.device) before new dealt) where
  stops_then : (fault : LoadFault) → ((start : Option (List ℕ)) (before : Contents) → IsSoFar start (left fed.device) before new → Stops start (left last.device) new.reading.most new.limit fault)
      → (start : Option (List ℕ)) (before : Contents) → IsSoFar start (left feed.device) before old → Stops start (left last.device) old.reading.most old.limit fault
  stops_then fault second start before at =
      let now = further start before at in
      subst (λ (most : ℕ). Stops start (left last.device) most old.limit fault) first.most (subst (λ (limit : ℕ). Stops start (left last.device) new.reading.most limit fault) first.limit (second start now.contents now.so_far))

  taken_then : ((start : Option (List ℕ)) (before : Contents) → IsSoFar start (left fed.device) before new → GaveUpTo start (left last.device) (new.reading.most + 1))
      → (start : Option (List ℕ)) (before : Contents) → IsSoFar start (left feed.device) before old → GaveUpTo start (left last.device) (old.reading.most + 1)
  taken_then second start before at =
      let now = further start before at in
      subst (λ (most : ℕ). GaveUpTo start (left last.device) (most + 1)) first.most (second start now.contents now.so_far)

  for_good_then : (HasFailed fed → last ≡ fed) → HasFailed feed → last ≡ feed
  for_good_then second failed =
      let stays = first.for_good failed in
      second (subst HasFailed (sym stays) failed) ∙ stays

  pub reads_then : (result : Result Bool LoadFault) → ReadsOn left fed last new then result → ReadsOn left feed last old then (still result)
  reads_then (Ok more) second = record {
    stops = tt;
    taken = taken_then second.taken;
    most = second.most ∙ first.most;
    limit = second.limit ∙ first.limit;
    not_back = omega (arith, first.not_back, second.not_back);
    further = λ is. omega (arith, first.further refl, second.not_back);
    failed = (λ never. let never : ⊥ = cc in absurd never, λ failed. let never : Ok more ≡ Err Read = second.failed.1 failed in cc);
    for_good = for_good_then second.for_good;
  }
  reads_then (Err fault) second = record {
    stops = stops_then fault second.stops;
    taken = taken_then second.taken;
    most = second.most ∙ first.most;
    limit = second.limit ∙ first.limit;
    not_back = tt;
    further = tt;
    failed = second.failed;
    for_good = for_good_then second.for_good;
  }

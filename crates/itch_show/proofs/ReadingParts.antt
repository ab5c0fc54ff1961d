-- A file that is read up to a place, along its segments.
use Rattle.std.proofs.Common.{◌≡◌, ℕ, ◌+◌, ◌-◌, ◌<◌, ◌≤◌, Bool, List, [], ◌++◌, length, take, inl, inr, refl, sym, ap, subst, ◌∙◌, arith, append-nil}
use Rattle.std.proofs.lemmas.List.{append_assoc, length-append, length-take-le, take-append-le, take_all}
use Rattle.std.proofs.Math.Seq.{take-append-add}
use Rattle.std.proofs.KnownBytes.{Consumes-nil}
use Rattle.std.specs.Prelude.{IsTrue, Option}
use Rattle.byte_strings.specs.Bytes.{AreBytes}
use Rattle.binaryfile.specs.Devices.{GaveMore, GaveUpTo}
use Rattle.binaryfile.specs.Entries.{Contents, Splits}
use Rattle.binaryfile.specs.declared.day.Limits.{Limits}
use Rattle.binaryfile.specs.declared.load.LoadFault.{LoadFault}
use Rattle.binaryfile.specs.declared.load.LoadFault.TheVariants.{Memory, Read, TooManyBytes, TooManyMessages}
use Rattle.binaryfile.proofs.Splitting.{splits_contents}
use Rattle.day_segments.specs.Reading.{HasRead, IsWholeFile, Reading, followed_by, nothing_read}
use Rattle.day_segments.specs.Segments.{IsSegment}
use Rattle.day_segments.proofs.Following.{every_file_goes_on}
use Rattle.itch_table.specs.Projection.{payload_at}
use Rattle.engine_rules.specs.FaultOrigins.{fault_of_load}
use Rattle.itch_show.specs.Parts.{Exceeds, GavePart, HasReadUpTo, StopsAt}
use Rattle.itch_show.specs.Places.{ComesUpTo, TakesUpTo, is_reached, up_to}
use Rattle.itch_show.specs.declared.place.Place.{Place}
use Rattle.itch_show.proofs.PlacesOfDays.{comes_first, stops_after, up_to_all}

-- so far as a file was read its messages before the place were taken: the place was reached, whatever follows, or it lies
-- after all of them
pub record IsReadAlong (start now : Option (List ℕ)) (reading : Reading) (limits : Limits) (place : Place) (reached : Bool)
    (number : ℕ) (payload : List ℕ) (Taken : List (List ℕ) → Type 0) : Type 0 where
  pub contents : Contents
  pub read : HasRead start now contents reading
  pub few : reading.messages ≤ limits.messages
  pub day : List (List ℕ)
  pub number_is : number ≡ length day
  pub payload_is : payload ≡ payload_at day (length day)
  pub taken : Taken day
  pub comes_up : ComesUpTo place day
  pub within : length day ≤ length contents.payloads
  pub closed : IsTrue reached → (more : List (List ℕ)) → up_to place (contents.payloads ++ more) ≡ day
  pub goes_on : ¬ IsTrue reached → (contents.payloads ≡ day) × ComesUpTo place day × ¬ IsTrue (is_reached place (length day))

module _ (start now : Option (List ℕ)) (reading : Reading) (limits : Limits) (place : Place) (reached : Bool)
    (number : ℕ) (payload : List ℕ) (Taken : List (List ℕ) → Type 0)
    (along : IsReadAlong start now reading limits place reached number payload Taken) where
  -- where the place was reached it is that of each file that begins so
  pub enough : IsTrue reached → HasReadUpTo start now limits place number payload Taken
  enough on = record {
    day = along.day;
    part = record {
      given = along.read.read.bytes;
      gave = along.read.read.gave;
      each = λ input file are split begins.
          let whole : along.read.read.bytes ++ begins.rest ≡ input = begins.whole in
          let goes = every_file_goes_on along.read.read.bytes begins.rest along.contents file
          (subst AreBytes (sym whole) are) along.read.read.split (subst (λ (bytes : List ℕ). Splits bytes file) (sym whole) split) in
          ap (λ (c : Contents). up_to place c.payloads) goes.is ∙ along.closed on goes.next.payloads;
    };
    few = omega (arith, along.few, along.within, along.read.messages_are);
    comes_up = along.comes_up;
    number_is = along.number_is;
    payload_is = along.payload_is;
    holds = along.taken;
  }

  -- where the file was read whole its messages before the place are all
  pub whole : ¬ IsTrue reached → (next : Option (List ℕ)) → IsWholeFile start next reading.most along.contents → HasReadUpTo start next limits place number payload Taken
  whole off next file_is =
      let all = along.goes_on off in
      record {
        day = along.day;
        part = record {
          given = file_is.input;
          gave = file_is.gave.gave;
          each = λ input file are split begins.
              let same : input ≡ file_is.input =
              sym begins.whole ∙ ap (λ (rest : List ℕ). file_is.input ++ rest) (begins.ended file_is.gave.ended) ∙ append-nil file_is.input in
              let one : file ≡ along.contents = splits_contents input file split
              ∙ sym (splits_contents input along.contents (subst (λ (bytes : List ℕ). Splits bytes along.contents) (sym same) file_is.split)) in
              ap (λ (c : Contents). up_to place c.payloads) one ∙ ap (up_to place) all.0 ∙ up_to_all place along.day all.1;
        };
        few = omega (arith, along.few, along.within, along.read.messages_are);
        comes_up = along.comes_up;
        number_is = along.number_is;
        payload_is = along.payload_is;
        holds = along.taken;
      }

  -- what the next segment takes of the reader
  pub needs_last : ¬ IsTrue reached → (next : Option (List ℕ)) (segment : Contents) → IsSegment now next reading.carried reading.size (reading.most - reading.given) segment
      → (size : ℕ) → reading.size ≡ size → StopsAt place size start next
  needs_last off next segment is_segment size same =
      let all = along.goes_on off in
      inr (inr (record {
        between = now;
        first = along.read.read.bytes;
        gave_first = along.read.read.gave;
        last = is_segment.bytes;
        gave_last = is_segment.gave;
        fits = omega (arith, is_segment.fits, same);
        contents = along.contents;
        split = along.read.read.split;
        comes_up = subst (ComesUpTo place) (sym all.0) all.1;
        unreached = λ on. all.2 (subst (λ (day : List (List ℕ)). IsTrue (is_reached place (length day))) all.0 on);
      }))

  -- a segment more, of which so many messages were taken
  pub along_segment : ¬ IsTrue reached → (next : Option (List ℕ)) (segment : Contents) (reading' : Reading) (messages : ℕ) (reached' : Bool)
      (number' : ℕ) (payload' : List ℕ) (Then : List (List ℕ) → Type 0)
      → HasRead start next (followed_by along.contents segment) reading' → reading'.messages ≤ limits.messages
      → TakesUpTo place along.day segment.payloads messages reached' Then → number' ≡ number + messages
      → (let taken = along.day ++ take messages segment.payloads in payload' ≡ payload_at taken (length taken))
      → IsReadAlong start next reading' limits place reached' number' payload' Then
  along_segment off next segment reading' messages reached' number' payload' Then read few takes moved last =
      let all = along.goes_on off in
      let day = along.day ++ take messages segment.payloads in
      let long : length day ≡ length along.day + messages =
      omega (arith, length-append along.day (take messages segment.payloads), length-take-le messages segment.payloads takes.few) in
      let payloads : along.contents.payloads ++ segment.payloads ≡ along.day ++ segment.payloads = ap (λ (l : List (List ℕ)). l ++ segment.payloads) all.0 in
      record {
        contents = followed_by along.contents segment;
        read = read;
        few = few;
        day = day;
        number_is = omega (arith, moved, along.number_is, long);
        payload_is = last;
        taken = takes.holds;
        comes_up = takes.comes_up;
        within = omega (arith, long, takes.few, ap length all.0, length-append along.contents.payloads segment.payloads);
        closed = λ on more.
            let cut : take messages (segment.payloads ++ more) ≡ take messages segment.payloads = take-append-le messages segment.payloads more takes.few in
            ap (λ (l : List (List ℕ)). up_to place (l ++ more)) payloads
            ∙ ap (λ (n : ℕ). take n ((along.day ++ segment.payloads) ++ more)) (takes.closed on more)
            ∙ ap (take (length along.day + messages)) (append_assoc along.day segment.payloads more)
            ∙ take-append-add along.day (segment.payloads ++ more) messages
            ∙ ap (λ (l : List (List ℕ)). along.day ++ l) cut;
        goes_on = λ off'.
            let rest = takes.goes_on off' in
            let whole : take messages segment.payloads ≡ segment.payloads = take_all messages segment.payloads (omega (arith, rest.0)) in
            let same : along.day ++ segment.payloads ≡ day = ap (λ (l : List (List ℕ)). along.day ++ l) (sym whole) in
            (payloads ∙ same, subst (ComesUpTo place) same rest.1, λ on. rest.2 (subst (λ (n : ℕ). IsTrue (is_reached place n)) long on));
      }

-- before the first segment
pub along_first : (start : Option (List ℕ)) (reading : Reading) (limits : Limits) (place : Place) (reached : Bool) (payload : List ℕ) (Taken : List (List ℕ) → Type 0)
    → HasRead start start nothing_read reading → reached ≡ is_reached place 0 → payload ≡ [] → Taken []
    → IsReadAlong start start reading limits place reached 0 payload Taken
along_first start reading limits place reached payload Taken read first empty none = record {
  contents = nothing_read;
  read = read;
  few = omega (arith, read.messages_are);
  day = [];
  number_is = refl;
  payload_is = empty;
  taken = none;
  comes_up = comes_first place;
  within = omega arith;
  closed = λ on more. ap (λ (n : ℕ). take n more) (stops_after place [] more (comes_first place) (sym first ∙ on));
  goes_on = λ off. (refl, comes_first place, λ on. off (first ∙ on));
}

-- a device that had failed gives nothing
pub had_failed : (start : Option (List ℕ)) (limits : Limits) → GavePart start start (Exceeds limits (fault_of_load Read))
had_failed start limits = record { given = []; gave = Consumes-nil start; each = λ input file are split begins. tt }

-- out of memory and a failed device say nothing of a file
pub says_nothing : (start now : Option (List ℕ)) (limits : Limits) (most : ℕ) → GaveUpTo start now most → GavePart start now (Exceeds limits (fault_of_load Memory))
says_nothing start now limits most gave = record { given = gave.bytes; gave = gave.gave; each = λ input file are split begins. tt }

-- why a segment isn't read
pub stopped : (start now : Option (List ℕ)) (limits : Limits) (most : ℕ) (fault : LoadFault) → GaveUpTo start now most
    → (fault ≡ TooManyBytes → GaveMore start now limits.bytes) → ¬ (fault ≡ TooManyMessages) → GavePart start now (Exceeds limits (fault_of_load fault))
stopped start now limits most Memory gave more few = says_nothing start now limits most gave
stopped start now limits most Read gave more few = record { given = gave.bytes; gave = gave.gave; each = λ input file are split begins. tt }
stopped start now limits most TooManyMessages gave more few = absurd (few refl)
stopped start now limits most TooManyBytes gave more few =
    let too_many = more refl in
    record {
      given = too_many.bytes;
      gave = too_many.gave;
      each = λ input file are split begins. omega (arith, too_many.more, ap length begins.whole, length-append too_many.bytes begins.rest);
    }

-- a file has more messages than the limit where its beginning has
pub too_many : (start now : Option (List ℕ)) (limits : Limits) (reading : Reading) (contents : Contents) → HasRead start now contents reading
    → limits.messages < reading.messages → GavePart start now (Exceeds limits (fault_of_load TooManyMessages))
too_many start now limits reading contents read more = record {
  given = read.read.bytes;
  gave = read.read.gave;
  each = λ input file are split begins.
      let goes = every_file_goes_on read.read.bytes begins.rest contents file
      (subst AreBytes (sym begins.whole) are) read.read.split (subst (λ (bytes : List ℕ). Splits bytes file) (sym begins.whole) split) in
      omega (arith, more, read.messages_are, ap (λ (c : Contents). length c.payloads) goes.is, length-append contents.payloads goes.next.payloads);
}

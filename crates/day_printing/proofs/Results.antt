-- How a run ends, by its result.
use Rattle.std.proofs.Common.{◌≡◌, ◌≢◌, ◌^◌, ◌+◌, ◌∙◌, Bool, true, false, List, ℕ, Ok, Err, [], refl, sym, subst, ap, arith}
use Rattle.std.proofs.KnownBytes.{Appends-nil, Consumes-nil}
use Rattle.std.proofs.lemmas.Bool.{false≢true}
use Rattle.std.specs.Prelude.{IsTrue, Option, Result}
use Rattle.binaryfile.specs.Devices.{Device, GaveUpTo, HasFailed}
use Rattle.binaryfile.specs.declared.load.LoadFault.{LoadFault}
use Rattle.binaryfile.specs.declared.load.LoadFault.TheVariants.{Memory as LoadMemory, Read as LoadRead, TooManyBytes as LoadBytes, TooManyMessages as LoadMessages}
use Rattle.engine_rules.specs.FaultOrigins.{fault_of_load}
use Rattle.engine_rules.specs.Runs.{traffic_of}
use Rattle.engine_rules.specs.declared.fault.ProgFault.{ProgFault}
use Rattle.engine_rules.specs.declared.fault.ProgFault.TheVariants.{Memory, Read, TooManyBytes, TooManyMessages, Write, BadHex, Asm}
use Rattle.binaryfile.specs.Entries.{Contents}
use Rattle.day_printing.specs.Printers.{Ends, Printer, Prints, StopsPrinting}

is_read : ProgFault → Bool
is_read Read = true
is_read Memory = false
is_read TooManyBytes = false
is_read TooManyMessages = false
is_read BadHex = false
is_read Write = false
is_read (Asm line) = false

is_write : ProgFault → Bool
is_write Write = true
is_write Memory = false
is_write TooManyBytes = false
is_write TooManyMessages = false
is_write BadHex = false
is_write Read = false
is_write (Asm line) = false

pub memory_no_read : Memory ≢ Read
unfolding is_read
memory_no_read e = false≢true (ap is_read e)

pub memory_no_write : Memory ≢ Write
unfolding is_write
memory_no_write e = false≢true (ap is_write e)

pub many_no_read : TooManyMessages ≢ Read
unfolding is_read
many_no_read e = false≢true (ap is_read e)

pub many_no_write : TooManyMessages ≢ Write
unfolding is_write
many_no_write e = false≢true (ap is_write e)

pub write_no_read : Write ≢ Read
unfolding is_read
write_no_read e = false≢true (ap is_read e)

pub read_no_write : Read ≢ Write
unfolding is_write
read_no_write e = false≢true (ap is_write e)

-- a fault of reading is Read exactly where the feed has failed, and no fault of a write
pub read_of_load : {T : Type 0} (fault : LoadFault) (F : Type 0) (r : Result T LoadFault) → r ≡ Err fault → ((r ≡ Err LoadRead → F) × (F → r ≡ Err LoadRead)) → (fault_of_load fault ≡ Read → F) × (F → fault_of_load fault ≡ Read)
unfolding is_read
read_of_load LoadMemory F r is was = (λ e. absurd (false≢true (ap is_read e)), λ f. let e = sym is ∙ was.1 f in absurd cc)
read_of_load LoadRead F r is was = (λ e. was.0 is, λ f. refl)
read_of_load LoadBytes F r is was = (λ e. absurd (false≢true (ap is_read e)), λ f. let e = sym is ∙ was.1 f in absurd cc)
read_of_load LoadMessages F r is was = (λ e. absurd (false≢true (ap is_read e)), λ f. let e = sym is ∙ was.1 f in absurd cc)

pub load_no_write : (fault : LoadFault) → fault_of_load fault ≢ Write
unfolding is_write
load_no_write LoadMemory e = false≢true (ap is_write e)
load_no_write LoadRead e = false≢true (ap is_write e)
load_no_write LoadBytes e = false≢true (ap is_write e)
load_no_write LoadMessages e = false≢true (ap is_write e)

pub works_after : {T : Type 0} (made : T) (F : Type 0) → ((Ok made ≡ Err LoadRead → F) × (F → Ok made ≡ Err LoadRead)) → ¬ F
works_after made F was = λ f. let e = was.1 f in absurd cc

pub worked : (failed : Bool) → false ≡ failed → ¬ IsTrue failed
worked failed is has = false≢true (is ∙ has)

module _ {R W : Type 0} (printer : Printer) (Printed Ended : Contents → List ℕ → Type 0) (segment : ℕ) (left : R → Option (List ℕ)) (taken : W → Option (List ℕ)) (feed fed : Device R) (sink sent : Device W) where
  pub faulted : (result : Result (Unit {0}) ProgFault) (fault : ProgFault) → result ≡ Err fault → StopsPrinting printer (traffic_of left taken feed fed sink sent) fault
      → GaveUpTo (left feed.device) (left fed.device) (2 ^ 40 + 1) → (fault ≡ Read → HasFailed fed) → (HasFailed fed → fault ≡ Read) → (fault ≡ Write → HasFailed sent)
      → (HasFailed feed → fed ≡ feed) → (HasFailed sink → sent ≡ sink) → Prints printer Printed Ended segment left taken feed fed sink sent result
  faulted result fault is stops took read failed write feed_stays sink_stays =
      subst (Prints printer Printed Ended segment left taken feed fed sink sent) (sym is) (record {
        ends = stops;
        takes_at_most = took;
        read = (λ e. read cc, λ f. ap Err (failed f));
        write = λ e. write cc;
        feed_for_good = feed_stays;
        sink_for_good = sink_stays;
      })

  pub finished : Ends printer Printed Ended segment (traffic_of left taken feed fed sink sent) (Ok tt) → GaveUpTo (left feed.device) (left fed.device) (2 ^ 40 + 1) → ¬ HasFailed fed
      → (HasFailed feed → fed ≡ feed) → (HasFailed sink → sent ≡ sink) → Prints printer Printed Ended segment left taken feed fed sink sent (Ok tt)
  finished ends took works feed_stays sink_stays = record {
    ends = ends;
    takes_at_most = took;
    read = (λ e. absurd cc, λ f. absurd (works f));
    write = λ e. absurd cc;
    feed_for_good = feed_stays;
    sink_for_good = sink_stays;
  }

  -- where the feed had failed before
  pub refused : fed ≡ feed → sent ≡ sink → HasFailed fed → Prints printer Printed Ended segment left taken feed fed sink sent (Err Read)
  refused same_feed same_sink failed = faulted (Err Read) Read refl
      (subst (λ (fed : Device R). StopsPrinting printer (traffic_of left taken feed fed sink sent) Read) (sym same_feed)
      (subst (λ (sent : Device W). StopsPrinting printer (traffic_of left taken feed feed sink sent) Read) (sym same_sink) (record {
        given = [];
        gave = Consumes-nil (left feed.device);
        shows = tt;
        written = [];
        wrote = Appends-nil (taken sink.device);
        begins = λ rest contents text are split is_text. refl;
      })))
      (subst (λ (fed : Device R). GaveUpTo (left feed.device) (left fed.device) (2 ^ 40 + 1)) (sym same_feed) (record { bytes = []; gave = Consumes-nil (left feed.device); within = omega arith }))
      (λ _. failed) (λ _. refl) (λ e. absurd (read_no_write e)) (λ _. same_feed) (λ _. same_sink)

-- where memory is refused before anything is read
pub without_memory : {R W : Type 0} (printer : Printer) (Printed Ended : Contents → List ℕ → Type 0) (segment : ℕ) (left : R → Option (List ℕ)) (taken : W → Option (List ℕ)) (feed : Device R) (sink : Device W)
    → ¬ HasFailed feed → Prints printer Printed Ended segment left taken feed feed sink sink (Err Memory)
without_memory printer Printed Ended segment left taken feed sink works = faulted printer Printed Ended segment left taken feed feed sink sink (Err Memory) Memory refl
    (record {
      given = [];
      gave = Consumes-nil (left feed.device);
      shows = tt;
      written = [];
      wrote = Appends-nil (taken sink.device);
      begins = λ rest contents text are split is_text. refl;
    })
    (record { bytes = []; gave = Consumes-nil (left feed.device); within = omega arith })
    (λ e. absurd (memory_no_read e)) (λ failed. absurd (works failed)) (λ e. absurd (memory_no_write e)) (λ _. refl) (λ _. refl)

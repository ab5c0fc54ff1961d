-- What the engines that replay make of an input, and the faults that they find in one.
use Rattle.std.specs.Prelude.{◌≡◌, ◌⊎◌, ◌^◌, ◌-◌, ◌≤◌, ℕ, List, Some, None, false, length}
use Rattle.binaryfile.specs.Entries.{Contents, Splits}
use Rattle.itch_engine.specs.Report.{report_of_file, refused_count}
use Rattle.itch_engine.specs.HexInput.{are_pairs, denoted, digits_of}
use Rattle.engine_rules.specs.Limits.{HasTooManyMessages}
use Rattle.engine_rules.specs.Runs.{Engine}
use Rattle.engine_rules.specs.declared.fault.ProgFault.{ProgFault}
use Rattle.engine_rules.specs.declared.fault.ProgFault.TheVariants.{BadHex}

-- The input is a file, the text is its report, and this many of its messages are refused.
pub record Replays (input text : List ℕ) (refused : ℕ) : Type 0 where
  pub contents : Contents
  pub split : Splits input contents
  pub few : length contents.payloads ≤ 2 ^ 32 - 1
  pub report : text ≡ report_of_file contents
  pub counted : refused ≡ refused_count contents.payloads

-- The digits denote a file, and the text is its report.
pub record ReplaysDigits (digits text : List ℕ) (refused : ℕ) : Type 0 where
  pub input : List ℕ
  pub denoted : denoted digits ≡ Some input
  pub replays : Replays input text refused

-- Without its spaces and line feeds the input has an odd number of bytes, or a byte that is no hexadecimal digit, and
-- so it denotes nothing.
pub record HasBadDigits (input : List ℕ) (fault : ProgFault) : Type 0 where
  pub is : fault ≡ BadHex
  pub unpaired : are_pairs (digits_of input) ≡ false
  pub nothing : denoted input ≡ None

-- The digits denote a file that has too many messages.
pub record DenotesTooManyMessages (digits : List ℕ) (fault : ProgFault) : Type 0 where
  pub input : List ℕ
  pub denoted : denoted digits ≡ Some input
  pub many : HasTooManyMessages input fault

-- the engine that reads a day file and writes its report
abbrev pub replayer : Engine ℕ
replayer = record { most = 2 ^ 40; Makes = Replays; Finds = HasTooManyMessages }

-- the engine that reads a day file in hexadecimal digits and writes its report
abbrev pub digits_replayer : Engine ℕ
digits_replayer = record {
  most = 2 ^ 30;
  Makes = ReplaysDigits;
  Finds = λ input fault. HasBadDigits input fault ⊎ DenotesTooManyMessages input fault;
}

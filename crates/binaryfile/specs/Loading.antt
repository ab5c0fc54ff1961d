-- What the loading of a file gives, and when it is refused.
use Rattle.std.specs.Prelude.{◌≡◌, ℕ, ◌+◌, ◌≤◌, ◌<◌, ◌++◌, Bool, List, length, Option, Result, OnOk}
use Rattle.std.specs.Io.KnownBytes.{Consumes}
use Rattle.byte_strings.specs.Bytes.{AreBytes}
use Rattle.binaryfile.specs.Entries.{Contents, bytes_of, Splits}
use Rattle.binaryfile.specs.Devices.{GaveAll}
use Rattle.binaryfile.specs.declared.day.Limits.{Limits}
use Rattle.binaryfile.specs.declared.load.LoadFault.{LoadFault}

-- All that the reader gave splits into the contents, and neither limit is exceeded.
pub record Loads (old new : Option (List ℕ)) (limits : Limits) (contents : Contents) : Type 0 where
  pub gave : GaveAll old new (bytes_of contents)
  pub split : Splits (bytes_of contents) contents
  pub bytes : length (bytes_of contents) ≤ limits.bytes
  pub messages : length contents.payloads ≤ limits.messages

-- The bytes, each of them a byte, split into more payloads than `messages`.
pub record HasMoreMessages (bytes : List ℕ) (messages : ℕ) : Type 0 where
  pub are : AreBytes bytes
  pub contents : Contents
  pub split : Splits bytes contents
  pub more : messages < length contents.payloads

-- All that the reader gave is within the limit of bytes, and splits into more payloads than the limit of messages.
pub record ExceedsMessages (old new : Option (List ℕ)) (limits : Limits) : Type 0 where
  pub bytes : List ℕ
  pub gave : GaveAll old new bytes
  pub within : length bytes ≤ limits.bytes
  pub more : HasMoreMessages bytes limits.messages

-- One read gave some bytes. Where all went well they were added to those that came before.
pub record TookPiece (old new : Option (List ℕ)) (before after : List ℕ) (most : ℕ)
    (result : Result Bool LoadFault) : Type 0 where
  pub bytes : List ℕ
  pub gave : Consumes old new bytes
  pub within : length before + length bytes ≤ most
  pub added : OnOk result (after ≡ before ++ bytes)

-- What the program takes in one file.
use Rattle.std.specs.Prelude.{◌≡◌, ◌^◌, ◌-◌, ℕ, List}
use Rattle.binaryfile.specs.Loading.{HasMoreMessages}
use Rattle.engine_rules.specs.declared.fault.ProgFault.{ProgFault}
use Rattle.engine_rules.specs.declared.fault.ProgFault.TheVariants.{TooManyMessages}

-- The file has more messages than a message number counts.
pub record HasTooManyMessages (input : List ℕ) (fault : ProgFault) : Type 0 where
  pub is : fault ≡ TooManyMessages
  pub more : HasMoreMessages input (2 ^ 32 - 1)

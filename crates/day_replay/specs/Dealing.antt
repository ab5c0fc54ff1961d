-- Messages of a day in a row, dealt to the batches of its stocks. All is of this project.
use Rattle.std.specs.Prelude.{◌≡◌, ◌+◌, ◌<◌, ◌^◌, ℕ, List, length, slice_index_or}
use Rattle.day_replay.specs.declared.TheConstants.{BATCHES}
use Rattle.day_replay.specs.Messages.{numbered_after, of_batch}
use Rattle.day_replay.specs.NoStock.{NoStockFacts, no_stock_of}

-- the messages of each batch, what is known of those of no stock, and how many messages there are
pub record Dealt : Type 0 where
  pub batches : List (List (ℕ × List ℕ))
  pub no_stock : NoStockFacts
  pub messages : ℕ

-- these payloads, which follow so many of their day, are dealt
pub record IsDealt (before : ℕ) (payloads : List (List ℕ)) (dealt : Dealt) : Type 0 where
  pub few : before + length payloads < 2 ^ 32
  pub own : (batch : ℕ) (d : List (ℕ × List ℕ)) → batch < BATCHES
      → slice_index_or dealt.batches batch d ≡ of_batch batch (numbered_after before payloads)
  pub no_stock_is : dealt.no_stock ≡ no_stock_of (numbered_after before payloads)
  pub messages_are : dealt.messages ≡ length payloads

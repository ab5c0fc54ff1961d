-- A day in parts, one for each worker. Of this project.
use Rattle.std.specs.Prelude.{◌≡◌, ◌<◌, ◌^◌, ℕ, List, Option, length, map}
use Rattle.std.specs.List.{range_with_len}
use Rattle.itch_table.specs.After.{after}
use Rattle.itch_table.specs.Shows.{locates_of_day}
use Rattle.day_core.specs.Owners.{fixed_pieces, own_of}
use Rattle.day_core.specs.declared.merging.Piece.{Piece}

-- what the parts of a day hold: for how many workers it is split, the locate codes of its stocks, the messages of each
-- worker, those of no stock with their outcomes, and the last event
pub record DayParts : Type 0 where
  pub workers : ℕ
  pub locates : List ℕ
  pub own : List (List ℕ)
  pub fixed : List Piece
  pub event : Option ℕ

-- they are the parts of this day
pub record ArePartsOf (day : List (List ℕ)) (parts : DayParts) : Type 0 where
  pub some : 0 < parts.workers
  pub few : length day < 2 ^ 32
  pub locates_are : parts.locates ≡ locates_of_day day
  pub own_are : parts.own ≡ map (λ worker. own_of parts.workers worker day) (range_with_len 0 parts.workers)
  pub fixed_are : parts.fixed ≡ fixed_pieces day
  pub event_is : parts.event ≡ (after day (length day)).event

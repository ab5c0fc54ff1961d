-- A stock's message on this stock's rows alone.
use Rattle.std.proofs.Common.{◌≡◌, ℕ, Option, Some, None, refl}
use Rattle.itch_layouts.specs.Shapes.{shape_of}
use Rattle.itch_layouts.specs.declared.message.Msg.{Msg}
use Rattle.itch_layouts.specs.declared.message.Msg.TheVariants.{System, Directory, Trading, Regsho, Participant, Decline, Breach, Ipo, Collar, Operational, Add, AddMpid, Execute, ExecutePrice, Cancel, Delete, Replace, Trade, Cross, Broken, Imbalance, Retail}
use Rattle.itch_layouts.specs.declared.shape.Shape.{Shape}
use Rattle.itch_layouts.specs.declared.shape.Shape.TheVariants.{Known, Unknown, BadLength}
use Rattle.itch_table.specs.declared.outcome.Fault.{Fault}
use Rattle.itch_table.specs.declared.outcome.Part.TheVariants.{Locate}
use Rattle.itch_table.specs.Parts.{part_of_message, part_of_shape}
use Rattle.itch_table.specs.Projection.{only, StepsAreOwn}
use Rattle.itch_table.specs.Table.{step_shape, checks, effect, first_fault, result_of}
use Rattle.itch_table.specs.World.{World}
use Rattle.itch_table.proofs.OneStock.{live-only, spent-only, stock_row-only, unbroken-only}
use Rattle.itch_table.proofs.OwnEffects.{effect-only}

-- the checks find the same
checks-only : (m : Msg) (w : World) (l : ℕ) → part_of_message m ≡ Locate l → checks m (only l w) ≡ checks m w
checks-only (System head m) w l e = refl
checks-only (Decline head m) w l e = refl
checks-only (Breach head m) w l e = refl
checks-only (Ipo head m) w l e = refl
checks-only (Directory head m) w l e = let same : head.locate ≡ l = cc in rw (same, stock_row-only w l)
checks-only (Trading head m) w l e = let same : head.locate ≡ l = cc in rw (same, stock_row-only w l)
checks-only (Regsho head m) w l e = let same : head.locate ≡ l = cc in rw (same, stock_row-only w l)
checks-only (Participant head m) w l e = let same : head.locate ≡ l = cc in rw (same, stock_row-only w l)
checks-only (Collar head m) w l e = let same : head.locate ≡ l = cc in rw (same, stock_row-only w l)
checks-only (Operational head m) w l e = let same : head.locate ≡ l = cc in rw (same, stock_row-only w l)
checks-only (Add head m) w l e = let same : head.locate ≡ l = cc in rw (same, stock_row-only w l, live-only w l m.reference, spent-only w l m.reference)
checks-only (AddMpid head m) w l e = let same : head.locate ≡ l = cc in rw (same, stock_row-only w l, live-only w l m.reference, spent-only w l m.reference)
checks-only (Execute head m) w l e = let same : head.locate ≡ l = cc in rw (same, stock_row-only w l, live-only w l m.reference)
checks-only (ExecutePrice head m) w l e = let same : head.locate ≡ l = cc in rw (same, stock_row-only w l, live-only w l m.reference)
checks-only (Cancel head m) w l e = let same : head.locate ≡ l = cc in rw (same, stock_row-only w l, live-only w l m.reference)
checks-only (Delete head m) w l e = let same : head.locate ≡ l = cc in rw (same, stock_row-only w l, live-only w l m.reference)
checks-only (Replace head m) w l e = let same : head.locate ≡ l = cc in rw (same, stock_row-only w l, live-only w l m.reference, live-only w l m.new_reference, spent-only w l m.new_reference)
checks-only (Trade head m) w l e = let same : head.locate ≡ l = cc in rw (same, stock_row-only w l)
checks-only (Cross head m) w l e = let same : head.locate ≡ l = cc in rw (same, stock_row-only w l)
checks-only (Broken head m) w l e = let same : head.locate ≡ l = cc in rw (same, stock_row-only w l, unbroken-only w l m.match_no)
checks-only (Imbalance head m) w l e = let same : head.locate ≡ l = cc in rw (same, stock_row-only w l)
checks-only (Retail head m) w l e = let same : head.locate ≡ l = cc in rw (same, stock_row-only w l)

result-only : (f : Option Fault) (v w : World) (l : ℕ) → result_of f (only l v) (only l w) ≡ ((result_of f v w).0, only l (result_of f v w).1)
result-only None v w l = refl
result-only (Some fault) v w l = refl

shape-only : (s : Shape) (w : World) (l : ℕ) → part_of_shape s ≡ Locate l → step_shape (only l w) s ≡ ((step_shape w s).0, only l (step_shape w s).1)
shape-only Unknown w l e = refl
shape-only BadLength w l e = refl
shape-only (Known m) w l e = rw (checks-only m w l e, effect-only m w l e) (result-only (first_fault (checks m w)) w (effect m w) l)

pub steps_are_own : StepsAreOwn
steps_are_own w payload l e = shape-only (shape_of payload) w l e

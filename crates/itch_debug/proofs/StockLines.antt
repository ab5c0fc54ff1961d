-- The lines of breakpoints and of stocks.
use Rattle.std.proofs.Common.{◌≡◌, ℕ, suc, ◌+◌, ◌<◌, ◌++◌, ◌∷◌, List, length, drop, get_or, sym, ap, ◌∙◌, add-one, drop-cons, append_assoc, Some}
use Rattle.std.specs.Prelude.{slice_get}
use Rattle.std.proofs.lemmas.Option.{get_or_from_slice_get, slice_get_within}
use Rattle.debugger.specs.declared.breakpoint.Break.{Break}
use Rattle.itch_table.specs.Projection.{only}
use Rattle.itch_table.specs.World.{World}
use Rattle.stock_machine.specs.StockRows.{StockMachine}
use Rattle.stock_text.specs.Sessions.{stock_text}
use Rattle.stock_text.proofs.OwnRows.{stock_text-only}
use Rattle.itch_debug.specs.Answering.{break_lines, numbered_break}

-- one breakpoint more
pub break_more : (bs : List Break) (i : ℕ) (b : Break) (text whole : List ℕ) → slice_get bs i ≡ Some b → text ++ break_lines (i + 1) (drop i bs) ≡ whole → (text ++ numbered_break (i + 1) b) ++ break_lines (i + 1 + 1) (drop (i + 1) bs) ≡ whole
break_more bs i b text whole at h =
    let within : i < length bs = slice_get_within bs i b at in
    let first : get_or bs i b ≡ b = get_or_from_slice_get bs i b b at in
    let cut : drop i bs ≡ b ∷ drop (i + 1) bs = rw add-one (drop-cons bs i b within ∙ ap (λ x. x ∷ drop (suc i) bs) first) in
    append_assoc text (numbered_break (i + 1) b) (break_lines (i + 1 + 1) (drop (i + 1) bs))
    ∙ ap (λ (xs : List Break). text ++ break_lines (i + 1) xs) (sym cut) ∙ h

-- a stock's lines, by the machine that has its rows
pub shown : (m : StockMachine) (w : World) (locate steps : ℕ) → (let machine : StockMachine = record { locate = locate; world = only locate w; steps = steps } in m ≡ machine) → stock_text m.world m.locate ≡ stock_text w locate
shown m w locate steps h = ap (λ (n : StockMachine). stock_text n.world n.locate) h ∙ stock_text-only w locate

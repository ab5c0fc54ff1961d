use Rattle.std.proofs.Common.{◌≡◌, ◌∙◌, ℕ, Bool, true, false, List, sym, ap}
use Rattle.std.proofs.lemmas.Result.{on_ok_weaker}
use Rattle.itch_table.specs.Parts.{part}
use Rattle.itch_table.specs.Projection.{is_of_stock}
use Rattle.itch_table.proofs.StockDays.{own_part}
use Rattle.itch_readings.proofs.TakenNext.{others_next, own_next}
use Rattle.itch_readings.proofs.noting.Noted.note_own.Goals as goal

is_own : (locate code : ℕ) (payload : List ℕ) {own : Bool} → code ≡ locate → own ≡ is_of_stock code payload → own ≡ true → is_of_stock locate payload ≡ true
is_own locate code payload same is on = ap (λ (l : ℕ). is_of_stock l payload) (sym same) ∙ sym is ∙ on

pub returns-then-not-is_of_stock : goal.returns-then-not-is_of_stock
returns-then-not-is_of_stock g c = λ first day name takes.
    let off : is_of_stock c.in-Some.stock.locate c.args.payload.now ≡ false =
    ap (λ (l : ℕ). is_of_stock l c.args.payload.now) (sym c.locate.ensures) ∙ sym c.is_of_stock.ensures ∙ c.if-not-is_of_stock.true in
    others_next g.N.Notes.noted first day c.args.payload.now name _ _ _ c.args.self.now.stock c.in-Some.stock c.in-Some.is c.stocks_are_independent.ensures.others off takes

pub note_next-requires-clause-own : goal.note_next-requires-clause-own
note_next-requires-clause-own g c = own_part c.in-Some.stock.locate (part c.args.payload.now) (is_own _ _ _ c.locate.ensures c.is_of_stock.ensures c.if-not-is_of_stock.false)

pub returns : goal.returns
returns g c =
    on_ok_weaker c.note_next.result
    (λ took first day name takes.
    own_next g.N.Notes.noted first day c.args.payload.now name _ _ _ c.args.self.now.stock c.in-Some.stock c.in-Some.is c.stocks_are_independent.ensures.own c.own_rows_suffice.ensures.order
    (is_own _ _ _ c.locate.ensures c.is_of_stock.ensures c.if-not-is_of_stock.false) c.note_next.new.stock c.note_next.new.notes took takes)
    c.note_next.ensures

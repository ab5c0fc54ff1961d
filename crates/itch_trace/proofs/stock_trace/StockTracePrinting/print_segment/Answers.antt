use Rattle.std.proofs.Common.{◌∙◌, ◌++◌, List, ℕ, refl, subst, sym, arith}
use Rattle.day_segments.specs.Reading.{followed_by}
use Rattle.itch_trace.specs.Made.{AreMade, IsStockTraced, MadeLines}
use Rattle.itch_trace.proofs.StockWritten.{by_search, none_printed, some_printed}
use Rattle.itch_trace.proofs.stock_trace.StockTracePrinting.print_segment.Goals as goal

pub take_segment-requires : goal.take_segment-requires
take_segment-requires g c =
    let asked = c.requires in
    let first : MadeLines = record { extent = asked.0.noted.notes.extent; text = asked.3.sent } in
    let noted = c.args.self.now.noted in (
      record { search = noted.search; messages = noted.messages; stock = noted.stock; notes = first },
      asked.1.payloads,
      by_search AreMade first asked.1.payloads asked.0.noted.search.name noted.search.name noted.search noted.messages noted.stock noted.notes refl asked.3.took,
      omega (arith, asked.5),
    )

pub returns-then-is_none : goal.returns-then-is_none
returns-then-is_none g c = λ first read text given before counted split.
    let extent = first.noted.notes.extent in
    let name = first.noted.search.name in
    let sent : MadeLines = record { extent = extent; text = before.sent } in
    let noted = c.args.self.now.noted in
    let then = c.take_segment.new.self in
    let all = read.payloads ++ c.args.segment.now.payloads in
    let took = (c.in_ok-take_segment.ensures {u = tt}) (record { search = noted.search; messages = noted.messages; stock = noted.stock; notes = sent }) read.payloads
    (by_search AreMade sent read.payloads name noted.search.name noted.search noted.messages noted.stock noted.notes refl before.took) in
    subst (λ (l : List ℕ). IsStockTraced extent name then.search then.messages then.stock then.notes c.args.self.now.begun (followed_by read c.args.segment.now) (text ++ l)) (sym c.new.ensures.items)
    (none_printed extent name c.args.self.now.begun read text noted.search then.search noted.messages then.messages noted.notes then.notes c.args.segment.now noted.stock then.stock before (c.if-is_none.ensures {u = tt})
    (by_search AreMade sent all noted.search.name name then.search then.messages then.stock then.notes (took.name_is ∙ before.took.name_is) took))

pub returns : goal.returns
returns g c = λ first read text given before counted split.
    let extent = first.noted.notes.extent in
    let name = first.noted.search.name in
    let sent : MadeLines = record { extent = extent; text = before.sent } in
    let noted = c.args.self.now.noted in
    let then = c.take_segment.new.self in
    let all = read.payloads ++ c.args.segment.now.payloads in
    let took = (c.in_ok-take_segment.ensures {u = tt}) (record { search = noted.search; messages = noted.messages; stock = noted.stock; notes = sent }) read.payloads
    (by_search AreMade sent read.payloads name noted.search.name noted.search noted.messages noted.stock noted.notes refl before.took) in
    let made = c.in_ok-text.ensures {u = tt} in
    some_printed extent name then.search then.messages then.notes c.args.self.now.begun (followed_by read c.args.segment.now) before.sent text before.written then.stock (c.if-is_none.ensures {u = tt})
    (by_search AreMade sent all noted.search.name name then.search then.messages then.stock then.notes (took.name_is ∙ before.took.name_is) took)
    c.take.new.self c.take.new.begun c.in_ok-text.text.items made.text made.left made.begun

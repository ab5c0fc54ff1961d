-- What is written of a stock's trace, one segment on.
use Rattle.std.proofs.Common.{◌≡◌, ℕ, ◌+◌, ◌<◌, ◌≤◌, Bool, true, false, cond, List, [], ◌∷◌, ◌++◌, length, Option, Some, None, refl, sym, ap, subst, ◌∙◌, arith, append_assoc, append-nil, inl, inr}
use Rattle.std.proofs.lemmas.Bool.{false≢true}
use Rattle.std.specs.Prelude.{is_some}
use Rattle.itch_table.specs.declared.outcome.Part.TheVariants.{Locate as OfStock}
use Rattle.itch_table.specs.Parts.{part}
use Rattle.itch_table.specs.Projection.{is_of_stock, payload_at}
use Rattle.binaryfile.specs.Entries.{Contents}
use Rattle.day_segments.specs.Reading.{followed_by}
use Rattle.stock_machine.specs.StockRows.{StockMachine}
use Rattle.text_fields.specs.Prefixes.{IsPrefix}
use Rattle.text_fields.proofs.Prefixes.{prefix_append}
use Rattle.itch_readings.specs.Naming.{NamesNone, NamesStock}
use Rattle.itch_readings.specs.Noting.{HasTaken, Noting}
use Rattle.itch_readings.specs.OwnMessages.{OwnMessage, own_at, own_from}
use Rattle.itch_readings.specs.Searching.{Search}
use Rattle.itch_readings.specs.declared.naming.StockName.{StockName}
use Rattle.itch_readings.proofs.LongerDays.{longer, names_more}
use Rattle.itch_readings.proofs.OwnMore.{own_next}
use Rattle.itch_trace.specs.Lines.{lines_of, trace_text}
use Rattle.itch_trace.specs.Made.{AreMade, AreSent, IsBegun, IsStockTraced, MadeLines, head_left}
use Rattle.itch_trace.specs.Printers.{EndsStockTrace, IsTraceIfAny, ReachesStock}
use Rattle.itch_trace.specs.declared.extent.Extent.{Extent}
use Rattle.itch_trace.proofs.Written.{begins_trace, is_all, sent_all, unwanted, written_more, written_whole}

-- a name is that of one stock, which begins with one message
pub names_one : (day : List (List ℕ)) (name : StockName) (n m locate other : ℕ) → NamesStock day name n locate → NamesStock day name m other → (n ≡ m) × (locate ≡ other)
names_one day name n m locate other one two =
    let not_less : ¬ (n < m) = λ less. two.first n one.some less one.begins in
    let not_more : ¬ (m < n) = λ less. one.first m two.some less two.begins in
    let same : n ≡ m = omega (arith, not_less, not_more) in
    (same, let is : OfStock locate ≡ OfStock other = sym one.own ∙ ap (λ (k : ℕ). part (payload_at day k)) same ∙ two.own in cc)

-- ---- the messages of a stock, as a day goes on

-- none that is wanted comes after the last one
pub record GoesOn (extent : Extent) (day more : List (List ℕ)) (locate n : ℕ) : Type 0 where
  pub rest : List OwnMessage
  pub are : own_from (day ++ more) locate n ≡ own_from day locate n ++ rest
  pub none : extent.last ≤ length day → lines_of extent rest ≡ []

pub goes_on : (extent : Extent) (day more : List (List ℕ)) (locate n : ℕ) → 0 < n → n ≤ length day + 1 → GoesOn extent day more locate n
goes_on extent day [] locate n some within = record {
  rest = [];
  are = ap (λ (d : List (List ℕ)). own_from d locate n) (append-nil day) ∙ sym (append-nil (own_from day locate n));
  none = λ last. refl;
}
goes_on extent day (payload ∷ more) locate n some within =
    let all = day ++ payload ∷ [] in
    let own = is_of_stock locate payload in
    let one : List OwnMessage = cond own (own_at all locate (length day + 1) ∷ []) [] in
    let on = goes_on extent all more locate n some (omega (arith, within, longer day payload)) in
    record {
      rest = one ++ on.rest;
      are = ap (λ (d : List (List ℕ)). own_from d locate n) (sym (append_assoc day (payload ∷ []) more)) ∙ on.are
          ∙ ap (λ (l : List OwnMessage). l ++ on.rest) (own_next day payload locate n some within own refl) ∙ append_assoc (own_from day locate n) one on.rest;
      none = λ last. by own last on.rest (on.none (omega (arith, last, longer day payload)));
    }
  where
    by : (own : Bool) → extent.last ≤ length day → (rest : List OwnMessage) → lines_of extent rest ≡ []
        → lines_of extent (cond own (own_at (day ++ payload ∷ []) locate (length day + 1) ∷ []) [] ++ rest) ≡ []
    by false last rest none = none
    by true last rest none = λ i. unwanted extent (own_at (day ++ payload ∷ []) locate (length day + 1)) (length day + 1) refl (omega (arith, last)) i ++ none i

-- ---- what was written

nothing : (extent : Extent) (begun : Bool) (sent text : List ℕ) → begun ≡ false → IsBegun extent begun sent text → text ≡ []
nothing extent false sent text is written = written.is ∙ written.none refl
nothing extent true sent text is written = absurd (false≢true (sym is))

module _ (extent : Extent) (name : StockName) (search : Search) (count : ℕ) (made : MadeLines) (begun : Bool) (read : Contents) (text : List ℕ) where
  -- it begins each right text
  pub stock_begins : (stock : Option StockMachine) → IsStockTraced extent name search count stock made begun read text
      → (next : Contents) (whole : List ℕ) → IsTraceIfAny extent name (followed_by read next) whole → IsPrefix text whole
  stock_begins None before next whole right =
      subst (λ (t : List ℕ). IsPrefix t whole) (sym (nothing extent begun before.sent text before.all_sent before.written)) (prefix_append [] whole whole refl)
  stock_begins (Some stock) before next whole (inl right) =
      let found = before.took.so_far in
      let names : NamesStock read.payloads name found.0 stock.locate = subst (λ (s : StockName). NamesStock read.payloads s found.0 stock.locate) before.took.name_is found.1 in
      let all = read.payloads ++ next.payloads in
      let same = names_one all name found.0 right.begins stock.locate right.locate (names_more read.payloads next.payloads name found.0 stock.locate names) right.names in
      let on = goes_on extent read.payloads next.payloads stock.locate found.0 names.some (omega (arith, names.within)) in
      begins_trace extent begun before.sent text made (own_from read.payloads stock.locate found.0) found.2.noted before.written on.rest whole
      (right.is ∙ (λ i. trace_text extent (own_from all (sym same.1 i) (sym same.0 i))) ∙ ap (trace_text extent) on.are)
  stock_begins (Some stock) before next whole (inr right) =
      let found = before.took.so_far in
      let names = names_more read.payloads next.payloads name found.0 stock.locate (subst (λ (s : StockName). NamesStock read.payloads s found.0 stock.locate) before.took.name_is found.1) in
      absurd (right.0 found.0 names.some names.within names.begins)

  -- and is all of it where the last message that is wanted has come
  pub stock_is_all : (stock : Option StockMachine) → IsStockTraced extent name search count stock made begun read text → ReachesStock extent name read
      → (next : Contents) (whole : List ℕ) → IsTraceIfAny extent name (followed_by read next) whole → text ≡ whole
  stock_is_all None before reaches next whole right =
      absurd ((subst (NamesNone read.payloads) before.took.name_is before.took.so_far.0.none) reaches.begins reaches.names.some reaches.names.within reaches.names.begins)
  stock_is_all (Some stock) before reaches next whole (inl right) =
      let found = before.took.so_far in
      let names : NamesStock read.payloads name found.0 stock.locate = subst (λ (s : StockName). NamesStock read.payloads s found.0 stock.locate) before.took.name_is found.1 in
      let all = read.payloads ++ next.payloads in
      let same = names_one all name found.0 right.begins stock.locate right.locate (names_more read.payloads next.payloads name found.0 stock.locate names) right.names in
      let on = goes_on extent read.payloads next.payloads stock.locate found.0 names.some (omega (arith, names.within)) in
      is_all extent begun before.sent text made (own_from read.payloads stock.locate found.0) found.2.noted before.written on.rest whole before.all_sent.0 before.all_sent.1 (on.none reaches.last)
      (right.is ∙ (λ i. trace_text extent (own_from all (sym same.1 i) (sym same.0 i))) ∙ ap (trace_text extent) on.are)
  stock_is_all (Some stock) before reaches next whole (inr right) =
      let names = names_more read.payloads next.payloads name reaches.begins reaches.locate reaches.names in
      absurd (right.0 reaches.begins names.some names.within names.begins)

-- at the end it is a right text
pub stock_ended : (extent : Extent) (name : StockName) (stock : Option StockMachine) (read : Contents) (text : List ℕ) → EndsStockTrace extent name stock read text → IsTraceIfAny extent name read text
stock_ended extent name None read text ended = inr ended
stock_ended extent name (Some stock) read text ended = inl ended

-- ---- a segment more, and the end

-- what was taken by a name is taken by the name of the search, and the other way round
pub by_search : {N : Type 0} (AreOf : Noting N) (first : N) (day : List (List ℕ)) (name other : StockName) (search : Search) (count : ℕ) (stock : Option StockMachine) (notes : N)
    → search.name ≡ other → HasTaken AreOf first day name search count stock notes → HasTaken AreOf first day other search count stock notes
by_search AreOf first day name other search count stock notes same took = record { name_is = same; counted = took.counted; so_far = took.so_far }

-- nothing is written before the stock begins
module _ (extent : Extent) (name : StockName) (begun : Bool) (read : Contents) (text : List ℕ) (search search' : Search) (count count' : ℕ) (made made' : MadeLines) (segment : Contents) where
  pub none_printed : (old stock : Option StockMachine) (before : IsStockTraced extent name search count old made begun read text) → is_some stock ≡ false
      → HasTaken AreMade (record { extent = extent; text = before.sent }) (read.payloads ++ segment.payloads) name search' count' stock made'
      → IsStockTraced extent name search' count' stock made' begun (followed_by read segment) (text ++ [])
  none_printed None None before is took = record {
    sent = before.sent;
    took = took;
    written = subst (IsBegun extent begun before.sent) (sym (append-nil text)) before.written;
    all_sent = before.all_sent;
  }
  none_printed (Some old) None before is took =
      let found = before.took.so_far in
      let names = names_more read.payloads segment.payloads name found.0 old.locate (subst (λ (s : StockName). NamesStock read.payloads s found.0 old.locate) before.took.name_is found.1) in
      absurd ((subst (NamesNone (read.payloads ++ segment.payloads)) took.name_is took.so_far.0.none) found.0 names.some names.within names.begins)
  none_printed old (Some stock) before is took = absurd (false≢true (sym is))

module _ (extent : Extent) (name : StockName) (search : Search) (count : ℕ) (made : MadeLines) (begun : Bool) (read : Contents) (sent text : List ℕ) (written : IsBegun extent begun sent text) where
  abbrev first : MadeLines
  first = record { extent = extent; text = sent }

  pub some_printed : (stock : Option StockMachine) → is_some stock ≡ true → HasTaken AreMade first read.payloads name search count stock made
      → (then : MadeLines) (begun' : Bool) (more : List ℕ) → more ≡ head_left begun made.extent.depth ++ made.text → then ≡ record { extent = made.extent; text = [] } → begun' ≡ true
      → IsStockTraced extent name search count stock then begun' read (text ++ more)
  some_printed None is took then begun' more made_is left has_begun = absurd (false≢true is)
  some_printed (Some stock) is took then begun' more made_is left has_begun =
      let found = took.so_far in
      let messages = own_from read.payloads stock.locate found.0 in
      record {
        sent = sent ++ made.text;
        took = record {
          name_is = took.name_is;
          counted = took.counted;
          so_far = (
            found.0,
            found.1,
            record {
              world = found.2.world;
              steps = found.2.steps;
              noted = subst (λ (m : MadeLines). AreMade (record { extent = extent; text = sent ++ made.text }) m messages) (sym left) (sent_all extent begun sent text made messages found.2.noted written);
            },
          );
        };
        written = subst (λ (b : Bool). IsBegun extent b (sent ++ made.text) (text ++ more)) (sym has_begun) (written_more extent begun sent text made messages found.2.noted written more made_is);
        all_sent = (has_begun, ap (λ (m : MadeLines). m.text) left);
      }

  pub none_ended : (stock : Option StockMachine) → AreSent stock begun made → is_some stock ≡ false → HasTaken AreMade first read.payloads name search count stock made → EndsStockTrace extent name stock read (text ++ [])
  none_ended None waits is took = (subst (NamesNone read.payloads) took.name_is took.so_far.0.none, append-nil text ∙ nothing extent begun sent text waits written)
  none_ended (Some stock) waits is took = absurd (false≢true (sym is))

  pub some_ended : (stock : Option StockMachine) → is_some stock ≡ true → HasTaken AreMade first read.payloads name search count stock made
      → (more : List ℕ) → more ≡ head_left begun made.extent.depth ++ made.text → EndsStockTrace extent name stock read (text ++ more)
  some_ended None is took more made_is = absurd (false≢true is)
  some_ended (Some stock) is took more made_is =
      let found = took.so_far in
      record {
        begins = found.0;
        locate = stock.locate;
        names = subst (λ (s : StockName). NamesStock read.payloads s found.0 stock.locate) took.name_is found.1;
        is = written_whole extent begun sent text made (own_from read.payloads stock.locate found.0) found.2.noted written more made_is;
      }

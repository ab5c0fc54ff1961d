-- What is known of messages of no stock: one message more, and further messages.
use Rattle.std.proofs.Common.{◌≡◌, ℕ, ◌+◌, ◌≤◌, List, [], ◌∷◌, ◌++◌, length, Bool, cond, Option, Some, None, refl, sym, ap, ◌∙◌, arith, append-nil}
use Rattle.std.specs.List.{count_by, flat_map}
use Rattle.std.specs.Option.{option_or}
use Rattle.std.proofs.lemmas.Grind.{flat_map-append}
use Rattle.std.proofs.lemmas.List.Sums.{count_by-le-length, sum_by-append, sum_by-cons}
use Rattle.itch_layouts.specs.Shapes.{shape_of}
use Rattle.itch_layouts.specs.declared.message.Msg.TheVariants.{System}
use Rattle.itch_layouts.specs.declared.shape.Shape.{Shape}
use Rattle.itch_layouts.specs.declared.shape.Shape.TheVariants.{Known}
use Rattle.itch_table.specs.declared.outcome.Outcome.{Outcome}
use Rattle.itch_table.specs.declared.outcome.Part.{Part}
use Rattle.itch_table.specs.declared.outcome.Part.TheVariants.{Locate, Nowhere}
use Rattle.itch_table.specs.Parts.{part}
use Rattle.itch_table.specs.Projection.{event_with}
use Rattle.day_replay.specs.declared.refusals.RefusedMessage.{RefusedMessage}
use Rattle.day_replay.specs.Summaries.{is_passed}
use Rattle.day_core.proofs.DealtDay.{event_stays}
use Rattle.day_replay.specs.NoStock.{NoStockFacts, if_nowhere_refused, if_refused, is_nowhere_passed, last_event, no_stock_of}

abbrev pub facts : List RefusedMessage → ℕ → Option ℕ → NoStockFacts
facts refused passed event = record { refused = refused; passed = passed; event = event }

pub same_facts : (r s : List RefusedMessage) (p q : ℕ) (e f : Option ℕ) → r ≡ s → p ≡ q → e ≡ f → facts r p e ≡ facts s q f
same_facts r s p q e f refused passed event =
    ap (λ (x : List RefusedMessage). facts x p e) refused ∙ ap (λ (x : ℕ). facts s x e) passed ∙ ap (λ (x : Option ℕ). facts s q x) event

-- ---- the last event

pub event_or : (shape : Shape) (event : Option ℕ) → option_or (event_with shape None) event ≡ event_with shape event
event_or (Known (System head m)) event = refl
event_or shape event = refl

pub option_or-assoc : (a b c : Option ℕ) → option_or (option_or a b) c ≡ option_or a (option_or b c)
option_or-assoc None b c = refl
option_or-assoc (Some x) b c = refl

pub option_or-none : (a : Option ℕ) → option_or a None ≡ a
option_or-none None = refl
option_or-none (Some x) = refl

last_event-append : (xs ys : List (ℕ × List ℕ)) → last_event (xs ++ ys) ≡ option_or (last_event ys) (last_event xs)
last_event-append [] ys = sym (option_or-none (last_event ys))
last_event-append (x ∷ xs) ys =
    ap (λ (e : Option ℕ). option_or e (event_with (shape_of x.1) None)) (last_event-append xs ys)
    ∙ option_or-assoc (last_event ys) (last_event xs) (event_with (shape_of x.1) None)

-- ---- further messages

abbrev refusals : List (ℕ × List ℕ) → List RefusedMessage
refusals messages = flat_map (λ m. if_nowhere_refused m.0 (part m.1)) messages

abbrev passes : ℕ × List ℕ → Bool
passes message = is_nowhere_passed (part message.1)

pub facts_more : (messages further : List (ℕ × List ℕ)) (old more : NoStockFacts) → old ≡ no_stock_of messages → more ≡ no_stock_of further
    → facts (old.refused ++ more.refused) (old.passed + more.passed) (option_or more.event old.event) ≡ no_stock_of (messages ++ further)
facts_more messages further old more was is =
    ap (λ (f : NoStockFacts). facts (f.refused ++ more.refused) (f.passed + more.passed) (option_or more.event f.event)) was
    ∙ ap (λ (f : NoStockFacts). facts (refusals messages ++ f.refused) (count_by passes messages + f.passed) (option_or f.event (last_event messages))) is
    ∙ sym (same_facts (refusals (messages ++ further)) (refusals messages ++ refusals further)
    (count_by passes (messages ++ further)) (count_by passes messages + count_by passes further)
    (last_event (messages ++ further)) (option_or (last_event further) (last_event messages))
    (flat_map-append (λ (m : ℕ × List ℕ). if_nowhere_refused m.0 (part m.1)) messages further)
    (sum_by-append (λ (m : ℕ × List ℕ). cond (passes m) 1 0) messages further)
    (last_event-append messages further))

pub passed_few : (messages : List (ℕ × List ℕ)) (old : NoStockFacts) → old ≡ no_stock_of messages → old.passed ≤ length messages
passed_few messages old is = omega (arith, ap (λ (f : NoStockFacts). f.passed) is, count_by-le-length passes messages)

-- ---- one message more

one_passed : (n : ℕ) (payload : List ℕ) → count_by passes ((n, payload) ∷ []) ≡ cond (is_nowhere_passed (part payload)) 1 0
one_passed n payload =
    let none : count_by passes [] ≡ 0 = refl in
    omega (arith, none, sum_by-cons (λ (m : ℕ × List ℕ). cond (passes m) 1 0) (n, payload) [])

-- of no stock
pub fact_more : (messages : List (ℕ × List ℕ)) (n : ℕ) (payload : List ℕ) (o : Outcome) → part payload ≡ Nowhere o → (old : NoStockFacts) → old ≡ no_stock_of messages
    → (refused : List RefusedMessage) (passed : ℕ) (event : Option ℕ) → refused ≡ old.refused ++ if_refused n None o → passed ≡ old.passed + cond (is_passed o) 1 0 → event ≡ event_with (shape_of payload) old.event
    → facts refused passed event ≡ no_stock_of (messages ++ (n, payload) ∷ [])
fact_more messages n payload o none old was refused passed event refuses counts follows =
    let one = no_stock_of ((n, payload) ∷ []) in
    let whole : one.refused ≡ if_refused n None o = append-nil (if_nowhere_refused n (part payload)) ∙ ap (if_nowhere_refused n) none in
    let tested : one.passed ≡ cond (is_passed o) 1 0 = one_passed n payload ∙ ap (λ (p : Part). cond {A = ℕ} (is_nowhere_passed p) 1 0) none in
    same_facts refused (old.refused ++ one.refused) passed (old.passed + one.passed) event (option_or one.event old.event)
    (refuses ∙ ap (λ (ps : List RefusedMessage). old.refused ++ ps) (sym whole))
    (counts ∙ ap (λ (k : ℕ). old.passed + k) (sym tested))
    (follows ∙ sym (event_or (shape_of payload) old.event))
    ∙ facts_more messages ((n, payload) ∷ []) old one was refl

-- of a stock
pub fact_stays : (messages : List (ℕ × List ℕ)) (n : ℕ) (payload : List ℕ) (locate : ℕ) → part payload ≡ Locate locate → (old : NoStockFacts) → old ≡ no_stock_of messages
    → old ≡ no_stock_of (messages ++ (n, payload) ∷ [])
fact_stays messages n payload locate own old was =
    let one = no_stock_of ((n, payload) ∷ []) in
    let whole : one.refused ≡ [] = append-nil (if_nowhere_refused n (part payload)) ∙ ap (if_nowhere_refused n) own in
    let tested : one.passed ≡ 0 = one_passed n payload ∙ ap (λ (p : Part). cond {A = ℕ} (is_nowhere_passed p) 1 0) own in
    let stays : one.event ≡ None = event_stays (shape_of payload) locate None own in
    same_facts old.refused (old.refused ++ one.refused) old.passed (old.passed + one.passed) old.event (option_or one.event old.event)
    (sym (append-nil old.refused) ∙ ap (λ (ps : List RefusedMessage). old.refused ++ ps) (sym whole))
    (omega (arith, tested))
    (ap (λ (e : Option ℕ). option_or e old.event) (sym stays))
    ∙ facts_more messages ((n, payload) ∷ []) old one was refl

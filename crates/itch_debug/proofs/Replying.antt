-- Which replies the searches have, and a breakpoint that is added.
use Rattle.std.proofs.Common.{◌≡◌, ◌≢◌, ◌⊎◌, inl, inr, ℕ, zero, suc, ◌+◌, ◌<◌, ◌≤◌, ◌==◌, ◌++◌, ◌∷◌, [], List, Bool, true, false, length, Option, Some, None, refl, sym, ap, subst, ◌∙◌, arith, ne_eqb, get_or, eqb-true, eq-eqb, length-append, lt-ltb, ltb, ◌&&◌}
use Rattle.std.specs.List.{position, position_or_len}
use Rattle.std.proofs.lemmas.List.Sums.{fails_before_first}
use Rattle.itch_table.specs.declared.order.Side.{Side}
use Rattle.itch_table.specs.declared.order.Side.TheVariants.{Buy, Sell}
use Rattle.itch_table.specs.Levels.{same_side}
use Rattle.debugger.specs.declared.breakpoint.Break.TheVariants.{Price, Reference, Time}
use Rattle.std.specs.Prelude.{Contains, slice_get, Result, Ok, Err, OnErr, OnOk}
use Rattle.std.proofs.Math.ListN.{get_or-append}
use Rattle.std.proofs.lemmas.Bool.{cases_lt, false≢true}
use Rattle.std.proofs.lemmas.Option.{get_or_from_slice_get, slice_get_within, slice_get-get_or}
use Rattle.std.proofs.lemmas.List.Quantifiers.{position-Some}
use Rattle.debugger.specs.Sessions.{Session, moved_to, next_stop, previous_stop, with_break}
use Rattle.debugger.specs.Stops.{hit}
use Rattle.debugger.specs.declared.breakpoint.Break.{Break}
use Rattle.itch_debug.specs.Answering.{Reply, add_reply, added_at, break_line, hit_at, onward_reply, index_of, rearward_reply, same_break, stop_text}

-- ---- searches

hit_some : (s : Session) (at : ℕ) → 0 < at → hit_at s at ≡ hit s.breaks s.day at
hit_some s zero h = absurd (omega arith)
hit_some s (suc n) h = refl

pub onward_done : (s t : Session) (at : ℕ) (index : Option ℕ) → at ≡ next_stop s → s.position < at → at ≤ length s.day → index ≡ hit s.breaks s.day at → t ≡ moved_to s at → (let reply : Reply = record { text = stop_text t index; next = Some t } in onward_reply s ≡ reply)
onward_done s t at index found later within is moved =
    let apart : s.position ≢ length s.day = λ same. omega arith in
    rw (ne_eqb s.position (length s.day) apart, sym found, moved, is, hit_some s at (omega arith)) refl

rearward_hit : (s : Session) (at : ℕ) (index : Option ℕ) → (0 < at → index ≡ hit s.breaks s.day at) → (at ≡ 0 → index ≡ None) → hit_at s at ≡ index
rearward_hit s zero index is none = sym (none refl)
rearward_hit s (suc n) index is none = sym (is (omega arith))

pub rearward_done : (s t : Session) (at : ℕ) (index : Option ℕ) → at ≡ previous_stop s → at < s.position → (0 < at → index ≡ hit s.breaks s.day at) → (at ≡ 0 → index ≡ None) → t ≡ moved_to s at → (let reply : Reply = record { text = stop_text t index; next = Some t } in rearward_reply s ≡ reply)
rearward_done s t at index found earlier is none moved =
    let apart : s.position ≢ 0 = λ same. omega arith in
    rw (ne_eqb s.position 0 apart, sym found, moved, rearward_hit s at index is none) refl

-- ---- a breakpoint that is added

and_both : (a b : Bool) → (a && b) ≡ true → (a ≡ true) × (b ≡ true)
and_both true b h = (refl, h)
and_both false b h = absurd (false≢true h)

side_is : (a b : Side) → same_side a b ≡ true → a ≡ b
side_is Buy Buy h = refl
side_is Sell Sell h = refl
side_is Buy Sell h = absurd (false≢true h)
side_is Sell Buy h = absurd (false≢true h)

side_same : (a : Side) → same_side a a ≡ true
side_same Buy = refl
side_same Sell = refl

break_is : (a b : Break) → same_break a b ≡ true → a ≡ b
break_is (Price l s p) (Price l' s' p') h =
    let one = and_both (l == l') (same_side s s' && (p == p')) h in
    let two = and_both (same_side s s') (p == p') one.1 in
    let locates : l ≡ l' = eqb-true l l' one.0 in
    let sides : s ≡ s' = side_is s s' two.0 in
    let prices : p ≡ p' = eqb-true p p' two.1 in
    cc
break_is (Reference l r) (Reference l' r') h =
    let both = and_both (l == l') (r == r') h in
    let locates : l ≡ l' = eqb-true l l' both.0 in
    let references : r ≡ r' = eqb-true r r' both.1 in
    cc
break_is (Time t) (Time t') h = let times : t ≡ t' = eqb-true t t' h in cc
break_is (Price l s p) (Reference l' r') h = absurd (false≢true h)
break_is (Price l s p) (Time t') h = absurd (false≢true h)
break_is (Reference l r) (Price l' s' p') h = absurd (false≢true h)
break_is (Reference l r) (Time t') h = absurd (false≢true h)
break_is (Time t) (Price l' s' p') h = absurd (false≢true h)
break_is (Time t) (Reference l' r') h = absurd (false≢true h)

break_same : (a : Break) → same_break a a ≡ true
break_same (Price l s p) = rw (eq-eqb l l refl, side_same s, eq-eqb p p refl) refl
break_same (Reference l r) = rw (eq-eqb l l refl, eq-eqb r r refl) refl
break_same (Time t) = eq-eqb t t refl

none_past : (p : Break → Bool) (xs : List Break) → position p xs ≡ None → length xs ≤ position_or_len p xs
none_past p xs h = elim (cases_lt (position_or_len p xs) (length xs)) [
  | inl less ↦ let e : ltb (position_or_len p xs) (length xs) ≡ true = lt-ltb (position_or_len p xs) (length xs) less in let found = rw e at h in cc
  | inr past ↦ past
]

-- a breakpoint without an index isn't there
not_there : (bs : List Break) (b : Break) → index_of bs b ≡ None → ¬ Contains bs b
not_there bs b h there =
    let fails : same_break b (get_or bs there.0 b) ≡ false = fails_before_first (same_break b) bs there.0 b (omega (arith, none_past (same_break b) bs h, there.1)) in
    false≢true (sym fails ∙ ap (λ (x : Break). same_break b x) there.2 ∙ break_same b)

-- the first index of a breakpoint is its index
first_index : (bs : List Break) (b : Break) (index found : ℕ) → slice_get bs index ≡ Some b → ((earlier : ℕ) → earlier < index → slice_get bs earlier ≢ Some b) → index_of bs b ≡ Some found → found ≡ index
first_index bs b index found at first is =
    let facts = position-Some (same_break b) bs found b is in
    let here : b ≡ get_or bs found b = break_is b (get_or bs found b) facts.1 in
    elim (cases_lt found index) [
      | inl before ↦ absurd (first found before (slice_get-get_or bs found b facts.0 ∙ ap (λ (x : Break). let o : Option Break = Some x in o) (sym here)))
      | inr not_before ↦ elim (cases_lt index found) [
        | inl before ↦ absurd (false≢true (sym (facts.2 index before) ∙ ap (λ (x : Break). same_break b x) (get_or_from_slice_get bs index b b at) ∙ break_same b))
        | inr not_after ↦ omega arith
      ]
    ]

last_index : (bs : List Break) (b : Break) (index : ℕ) → ¬ Contains bs b → slice_get (bs ++ b ∷ []) index ≡ Some b → index ≡ length bs
last_index bs b index absent at =
    let within : index < length (bs ++ b ∷ []) = slice_get_within (bs ++ b ∷ []) index b at in
    elim (cases_lt index (length bs)) [
      | inl before ↦ absurd (absent (index, before, sym (get_or-append bs (b ∷ []) b index before) ∙ get_or_from_slice_get (bs ++ b ∷ []) index b b at))
      | inr not_before ↦ omega (arith, within, length-append bs (b ∷ []))
    ]

added_by : (s t : Session) (b : Break) (index : ℕ) (found : Option ℕ) → index_of s.breaks b ≡ found → slice_get t.breaks index ≡ Some b → ((earlier : ℕ) → earlier < index → slice_get t.breaks earlier ≢ Some b) → (Contains s.breaks b → t ≡ s) → (¬ Contains s.breaks b → t ≡ with_break s b) → (let reply : Reply = record { text = break_line (index + 1); next = Some t } in added_at s b found ≡ reply)
added_by s t b index (Some old) is at first there new =
    let facts = position-Some (same_break b) s.breaks old b is in
    let here : b ≡ get_or s.breaks old b = break_is b (get_or s.breaks old b) facts.1 in
    let same : t ≡ s = there (old, facts.0, sym here) in
    let found : old ≡ index = first_index s.breaks b index old (subst (λ (u : Session). slice_get u.breaks index ≡ Some b) same at) (subst (λ (u : Session). (earlier : ℕ) → earlier < index → slice_get u.breaks earlier ≢ Some b) same first) is in
    rw (same, found) refl
added_by s t b index None is at first there new =
    let absent : ¬ Contains s.breaks b = not_there s.breaks b is in
    let next : t ≡ with_break s b = new absent in
    let found : index ≡ length s.breaks = last_index s.breaks b index absent (subst (λ (u : Session). slice_get u.breaks index ≡ Some b) next at) in
    rw (next, found) refl

pub added : (s t : Session) (b : Break) (index : ℕ) → slice_get t.breaks index ≡ Some b → ((earlier : ℕ) → earlier < index → slice_get t.breaks earlier ≢ Some b) → (Contains s.breaks b → t ≡ s) → (¬ Contains s.breaks b → t ≡ with_break s b) → (let reply : Reply = record { text = break_line (index + 1); next = Some t } in add_reply s b ≡ reply)
added s t b index at first there new = added_by s t b index (index_of s.breaks b) refl at first there new

-- a text that was added is the answer of the reply that has it
pub replied : {A E : Type 0} (result : Result A E) (old new text : List ℕ) (reply : Reply) (t : Session) → (let other : Reply = record { text = text; next = Some t } in reply ≡ other) → OnOk result (new ≡ old ++ text) → OnOk result ((new ≡ old ++ reply.text) × (reply.next ≡ Some t))
replied (Ok x) old new text reply t is added = (added ∙ ap (λ (r : Reply). old ++ r.text) (sym is), ap (λ (r : Reply). r.next) is)
replied (Err e) old new text reply t is added = tt

-- and the session is the one after the command, also where an error comes then
pub came : {A E : Type 0} (result : Result A E) (old : Session) (text : List ℕ) (reply : Reply) (t : Session) → (let other : Reply = record { text = text; next = Some t } in reply ≡ other) → OnErr result ((t ≡ old) ⊎ (reply.next ≡ Some t))
came (Ok x) old text reply t is = tt
came (Err e) old text reply t is = inr (ap (λ (r : Reply). r.next) is)

use Rattle.std.proofs.Common.{◌≡◌, ◌<◌, ◌++◌, ◌∷◌, [], ℕ, List, true, length, ap, arith, map, subst, sym, ◌∙◌, rules, length-append}
use Rattle.std.specs.Prelude.{Contains, Some, if◌then◌else◌, is_ok, slice_get}
use Rattle.std.proofs.Math.ListN.{get_or-append}
use Rattle.std.proofs.lemmas.Option.{get_or_from_slice_get, slice_get_within}
use Rattle.std.proofs.lemmas.Bool.{cases_Bool}
use Rattle.std.proofs.Common.{inl, inr}
use Rattle.std.specs.List.{list_any}
use Rattle.indexmap.proofs.CallerLemmas.{Contains-list_any}
use Rattle.debugger.specs.declared.breakpoint.Break.{Break}
use Rattle.debugger.specs.contracts.breakpoint.BreakPartialEq.TheImpl.{eq-value}
use Rattle.debugger.specs.Sessions.{Marked}
use Rattle.debugger.specs.Stops.{stops_of}
use Rattle.debugger.proofs.Nearest.{list_added}
use Rattle.debugger.proofs.breakpoints.Breakpoints.add_new.Goals as goal

same : (x y : Break) → eq-value.it x y ≡ true → x ≡ y
same x y e = search rules

-- a breakpoint that isn't there goes last
goes_last : (keys breaks new : List Break) (k : Break) → keys ≡ breaks → ¬ Contains breaks k → new ≡ (if list_any (eq-value.it k) keys then keys else keys ++ k ∷ []) → new ≡ keys ++ k ∷ []
goes_last keys breaks new k are absent is = elim (cases_Bool (list_any (eq-value.it k) keys)) [
  | inl on ↦ absurd (absent (subst (λ (ks : List Break). Contains ks k) are (Contains-list_any eq-value.it same keys k on)))
  | inr off ↦ is ∙ ap (λ b. if b then keys else keys ++ k ∷ []) off
]

pub invariant_of-self-2 : goal.invariant_of-self-2
invariant_of-self-2 g c =
    let inside = c.self.inside in
    let day = inside.day.now.payloads in
    let list = c.in_ok-list.list in
    let room = c.reserve.new.self.items in
    let added = goes_last inside.breaks.keys _ _ c.args.breakpoint (ap (λ (m : Marked). m.breaks) c.self.view_is) c.requires c.in_ok-index.ensures.keys in
    let pushed =
    c.push.ensures.items ∙ ap (λ r. if is_ok r then room ++ list ∷ [] else room) c.unwrap.ensures
    ∙ ap (λ l. l ++ list ∷ []) c.in_ok-reserve.ensures.items
    in
    ap (map (λ v. v.items)) pushed
    ∙ list_added (λ v. v.items) inside.breaks.keys day inside.stops.items c.self.invariant list c.args.breakpoint c.in_ok-list.ensures
    ∙ ap (map (stops_of day)) (sym added)

pub returns-clause-added : goal.returns-clause-added
returns-clause-added g c =
    let breaks = ap (λ (m : Marked). m.breaks) c.self.view_is in
    goes_last c.self.inside.breaks.keys _ _ c.args.breakpoint breaks c.requires c.in_ok-index.ensures.keys
    ∙ ap (λ ks. ks ++ c.args.breakpoint ∷ []) breaks

-- where a breakpoint that isn't there goes last, no earlier index has it
no_earlier : (breaks new : List Break) (k : Break) → ¬ Contains breaks k → new ≡ breaks ++ k ∷ [] → (index : ℕ) → slice_get new index ≡ Some k → (earlier : ℕ) → earlier < index → slice_get new earlier ≡ Some k → ⊥
no_earlier breaks new k absent is index at earlier less there =
    let last : index < length (breaks ++ k ∷ []) = slice_get_within (breaks ++ k ∷ []) index k (subst (λ (ks : List Break). slice_get ks index ≡ Some k) is at) in
    let within : earlier < length breaks = omega (arith, last, less, length-append breaks (k ∷ [])) in
    absent (earlier, within, sym (get_or-append breaks (k ∷ []) k earlier within) ∙ get_or_from_slice_get (breaks ++ k ∷ []) earlier k k (subst (λ (ks : List Break). slice_get ks earlier ≡ Some k) is there))

pub returns-clause-first : goal.returns-clause-first
returns-clause-first g c =
    let breaks = ap (λ (m : Marked). m.breaks) c.self.view_is in
    let added = goes_last c.self.inside.breaks.keys _ _ c.args.breakpoint breaks c.requires c.in_ok-index.ensures.keys in
    let absent : ¬ Contains c.self.inside.breaks.keys c.args.breakpoint = λ there. c.requires (subst (λ (ks : List Break). Contains ks c.args.breakpoint) breaks there) in
    no_earlier c.self.inside.breaks.keys c.insert_full.new.self.keys c.args.breakpoint absent added c.in_ok-index.index (search rules)

-- How far a stock is once its worker has done some of its messages.
use Rattle.std.proofs.Common.{◌≡◌, ℕ, zero, suc, ◌+◌, ◌-◌, ◌<◌, ◌≤◌, List, [], ◌∷◌, ◌++◌, length, Bool, true, false, cond, get_or, filter, take, refl, sym, ap, subst, ◌∙◌, arith, append-nil, inl, inr}
use Rattle.std.specs.List.{range_with_len}
use Rattle.std.proofs.lemmas.Bool.{cases_lt, eq-eqb, ne_eqb}
use Rattle.std.proofs.lemmas.List.{take_all}
use Rattle.std.proofs.lemmas.List.Elements.{filter_more, filter_passes}
use Rattle.std.proofs.lemmas.List.FromFn.{length-range_with_len}
use Rattle.std.proofs.lemmas.List.Sums.{count_by-le-length, length-filter}
use Rattle.std.proofs.lemmas.Nat.{mod_below}
use Rattle.itch_table.specs.declared.outcome.Part.{Part}
use Rattle.itch_table.specs.declared.outcome.Part.TheVariants.{Locate, Nowhere}
use Rattle.itch_table.specs.After.{after}
use Rattle.itch_table.specs.Projection.{is_locate, is_of_stock, only, steps_of}
use Rattle.itch_table.proofs.StockDays.{other_next, other_part, own_part, steps-next}
use Rattle.day_core.specs.Owners.{is_own, last_message, last_or, last_until, machine_of, of_stock, own_of, owner, part_at, progress}
use Rattle.day_core.proofs.FilteredRanges.{kept_before, kept_more, kept_narrower, kept_none, kept_within}

-- a number of a worker's list is that of a message of one of its stocks
pub own_within : (workers worker : ℕ) (day : List (List ℕ)) (i d : ℕ) → i < length (own_of workers worker day)
    → (1 ≤ get_or (own_of workers worker day) i d) × (get_or (own_of workers worker day) i d ≤ length day)
unfolding own_of
own_within workers worker day i d lt =
    let within = kept_within (λ n. is_own workers worker (part_at day n)) 1 (length day) i d lt in
    (omega (arith, within), omega (arith, within))

pub own_passes : (workers worker : ℕ) (day : List (List ℕ)) (i d : ℕ) → i < length (own_of workers worker day)
    → is_own workers worker (part_at day (get_or (own_of workers worker day) i d)) ≡ true
unfolding own_of
own_passes workers worker day i d lt = filter_passes (λ n. is_own workers worker (part_at day n)) (range_with_len 1 (length day)) i d lt

-- no worker has more messages than the day
pub own_few : (workers worker : ℕ) (day : List (List ℕ)) → length (own_of workers worker day) ≤ length day
unfolding own_of
own_few workers worker day =
    let p = λ (n : ℕ). is_own workers worker (part_at day n) in
    let all = range_with_len 1 (length day) in
    omega (arith, length-filter p all, count_by-le-length p all, length-range_with_len 1 (length day))

-- a number that is no worker's owns nothing
is_own-none : (workers worker : ℕ) (of : Part) → 0 < workers → workers ≤ worker → is_own workers worker of ≡ false
is_own-none workers worker (Locate locate) some past = ne_eqb _ _ (λ same. omega (arith, same, mod_below locate workers some))
is_own-none workers worker (Nowhere fixed) some past = refl

pub own_none : (workers worker : ℕ) (day : List (List ℕ)) → 0 < workers → workers ≤ worker → own_of workers worker day ≡ []
unfolding own_of
own_none workers worker day some past =
    kept_none (λ n. is_own workers worker (part_at day n)) (range_with_len 1 (length day)) (λ n. is_own-none workers worker (part_at day n) some past)

-- a stock's machine stays as it is while another's message comes
pub machine_stays : (day : List (List ℕ)) (locate n : ℕ) → is_of_stock locate (get_or day n []) ≡ false → machine_of day locate (n + 1) ≡ machine_of day locate n
machine_stays day locate n off =
    let world : only locate (after day (n + 1)) ≡ only locate (after day n) = other_next day locate n (other_part locate _ off) in
    let steps : steps_of day locate (n + 1) ≡ steps_of day locate n = steps-next day locate n ∙ ap (λ (b : Bool). steps_of day locate n + cond b 1 0) off ∙ omega arith in
    λ i. record { locate = locate; world = world i; steps = steps i }

pub last_push : (d : ℕ) (xs : List ℕ) (x : ℕ) → last_or d (xs ++ x ∷ []) ≡ x
last_push d [] x = refl
last_push d (y ∷ ys) x = last_push y ys x

last_more : (b : Bool) (x : ℕ) (xs : List ℕ) → last_or 0 (xs ++ cond b (x ∷ []) []) ≡ cond b x (last_or 0 xs)
last_more true x xs = last_push 0 xs x
last_more false x xs = ap (last_or 0) (append-nil xs)

-- what holds of the last message of a stock before the first message, and after each, holds of it throughout
pub until_last : (day : List (List ℕ)) (locate : ℕ) (P : ℕ → ℕ → Type 0) → P 0 0 → ((n : ℕ) → P (n + 1) (n + 1)) → ((n last : ℕ) → is_of_stock locate (get_or day n []) ≡ false → P n last → P (n + 1) last)
    → (n : ℕ) → P n (last_until day locate n)
until_last day locate P none own other zero = none
until_last day locate P none own other (suc n) =
    let q = λ (m : ℕ). is_locate locate (part_at day m) in
    let next : last_until day locate (n + 1) ≡ cond (q (n + 1)) (n + 1) (last_until day locate n) =
    ap (last_or 0) (kept_more q 1 n (n + 1) (omega arith)) ∙ last_more (q (n + 1)) (n + 1) (filter q (range_with_len 1 n))
    in
    subst (λ (k : ℕ). P k (last_until day locate k)) (omega arith) (subst (P (n + 1)) (sym next) (by (until_last day locate P none own other n) (q (n + 1)) refl))
  where
    by : P n (last_until day locate n) → (b : Bool) → is_locate locate (part_at day (n + 1)) ≡ b → P (n + 1) (cond b (n + 1) (last_until day locate n))
    by before true on = own n
    by before false off = other n (last_until day locate n) (let here : n + 1 - 1 ≡ n = omega arith in rw here at off) before

last_within : (day : List (List ℕ)) (locate n : ℕ) → last_until day locate n ≤ n
last_within day locate = until_last day locate (λ n last. last ≤ n) (omega arith) (λ n. omega arith) (λ n last off le. omega (arith, le))

-- a stock's machine is as its last message left it
pub machine_until : (day : List (List ℕ)) (locate n : ℕ) → machine_of day locate (last_until day locate n) ≡ machine_of day locate n
machine_until day locate =
    until_last day locate (λ n last. machine_of day locate last ≡ machine_of day locate n) refl (λ n. refl)
    (λ n last off before. before ∙ sym (machine_stays day locate n off))

module _ (day : List (List ℕ)) (workers locate : ℕ) where
  abbrev own : List ℕ
  own = own_of workers (owner workers locate) day

  abbrev of_this : ℕ → Bool
  of_this n = is_locate locate (part_at day n)

  pub progress_first : progress day workers locate 0 ≡ 0
  unfolding progress
  progress_first = refl

  -- one message more of its worker
  pub progress_next : (done d : ℕ) → done < length own → progress day workers locate (done + 1) ≡ cond (of_this (get_or own done d)) (get_or own done d) (progress day workers locate done)
  unfolding progress
  progress_next done d lt = ap (last_or 0) (filter_more of_this own done d lt) ∙ last_more (of_this (get_or own done d)) (get_or own done d) (filter of_this (take done own))

  narrower : (n : ℕ) → of_this n ≡ true → is_own workers (owner workers locate) (part_at day n) ≡ true
  narrower n on = rw (own_part locate (part_at day n) on) (eq-eqb _ _ refl)

  -- before the next message of its worker a stock's last message is the last of the day's that is the stock's
  progress_before : (done d : ℕ) → done < length own → progress day workers locate done ≡ last_until day locate (get_or own done d - 1)
  unfolding progress own_of
  progress_before done d lt =
      ap (λ (xs : List ℕ). last_or 0 (filter of_this xs)) (kept_before (λ n. is_own workers (owner workers locate) (part_at day n)) 1 (length day) done d lt)
      ∙ ap (last_or 0) (kept_narrower (λ n. is_own workers (owner workers locate) (part_at day n)) of_this (range_with_len 1 (get_or own done d - 1)) narrower)

  -- and where its worker has done all of its messages, the last of all
  pub progress_last : progress day workers locate (length own) ≡ last_message day locate
  unfolding progress own_of
  progress_last =
      ap (λ (xs : List ℕ). last_or 0 (filter of_this xs)) (take_all (length own) own (omega arith))
      ∙ ap (last_or 0) (kept_narrower (λ n. is_own workers (owner workers locate) (part_at day n)) of_this (range_with_len 1 (length day)) narrower)

  -- past the last of its worker's messages a stock stays where it is
  past_all : (done : ℕ) → length own ≤ done → progress day workers locate done ≡ progress day workers locate (length own)
  unfolding progress
  past_all done past = ap (λ (l : List ℕ). last_or 0 (of_stock day locate l)) (take_all done own past ∙ sym (take_all (length own) own (omega arith)))

  pub past_end : (done : ℕ) → length own ≤ done → progress day workers locate (done + 1) ≡ progress day workers locate done
  past_end done past = past_all (done + 1) (omega (arith, past)) ∙ sym (past_all done past)

  -- the machine is as its last message left it
  pub machine_next : (done d : ℕ) → done < length own → machine_of day locate (progress day workers locate done) ≡ machine_of day locate (get_or own done d - 1)
  machine_next done d lt = ap (machine_of day locate) (progress_before done d lt) ∙ machine_until day locate (get_or own done d - 1)

  pub machine_last : machine_of day locate (progress day workers locate (length own)) ≡ machine_of day locate (length day)
  machine_last = ap (machine_of day locate) progress_last ∙ machine_until day locate (length day)

  -- ---- a stock goes through the day's messages, and never back

  pub progress_within : (done : ℕ) → progress day workers locate done ≤ length day
  progress_within done = elim (cases_lt done (length own)) [
    | inl lt ↦ omega (arith, progress_before done 0 lt, last_within day locate (get_or own done 0 - 1), own_within workers (owner workers locate) day done 0 lt)
    | inr past ↦ omega (arith, past_all done past, progress_last, last_within day locate (length day))
  ]

  progress_step : (done : ℕ) → progress day workers locate done ≤ progress day workers locate (done + 1)
  progress_step done = elim (cases_lt done (length own)) [
    | inl lt ↦
        let before : progress day workers locate done ≤ get_or own done 0 = omega (arith, progress_before done 0 lt, last_within day locate (get_or own done 0 - 1)) in
        subst (λ (k : ℕ). progress day workers locate done ≤ k) (sym (progress_next done 0 lt)) (higher (of_this (get_or own done 0)) _ _ before)
    | inr past ↦ omega (arith, past_end done past)
  ]
    where
      higher : (b : Bool) (x p : ℕ) → p ≤ x → p ≤ cond b x p
      higher true x p le = le
      higher false x p le = omega arith

  progress_more : (done more : ℕ) → progress day workers locate done ≤ progress day workers locate (done + more)
  progress_more done zero = omega (arith, ap (progress day workers locate) (let none : done + 0 ≡ done = omega arith in none))
  progress_more done (suc more) =
      let next : done + suc more ≡ done + more + 1 = omega arith in
      omega (arith, progress_more done more, progress_step (done + more), ap (progress day workers locate) next)

  pub progress_rises : (done later : ℕ) → done ≤ later → progress day workers locate done ≤ progress day workers locate later
  progress_rises done later le =
      let all : done + (later - done) ≡ later = omega (arith, le) in
      omega (arith, progress_more done (later - done), ap (progress day workers locate) all)

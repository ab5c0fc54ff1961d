-- The values of a day's stocks, by their workers.
use Rattle.std.proofs.Common.{◌≡◌, ◌≢◌, ℕ, ◌+◌, ◌<◌, List, [], ◌∷◌, ◌++◌, length, Bool, true, false, append-nil, cond, eqb, filter, get_or, set, map, drop, replicate, Option, Some, None, IsSome, refl, sym, ap, ap₂, ◌∙◌, arith, rules}
use Rattle.std.specs.List.{range_with_len, zip}
use Rattle.std.specs.Option.{option_to_list}
use Rattle.std.proofs.lemmas.Bool.{eq-eqb, ne_eqb}
use Rattle.std.proofs.lemmas.List.{drop_more, get_or-map, length-drop, length-map, map-append, map-set}
use Rattle.std.proofs.lemmas.List.Elements.{filter-append}
use Rattle.std.proofs.lemmas.List.FromFn.{get_or-map-range_with_len, get_or-range_with_len, length-map-range_with_len, length-range_with_len, map-range_with_len_more}
use Rattle.std.proofs.lemmas.Nat.{mod_below}
use Rattle.day_core.specs.Owners.{locates_by, owner}
use Rattle.day_core.specs.Replaying.{each_worker, values_by}
use Rattle.day_core.proofs.FilteredRanges.{all_same, map_set}

-- one worker's more
pub one_more : {V X : Type 0} (items : V → X) (f : ℕ → X) (before after : List V) (v : V) (count : ℕ) → map items before ≡ map f (range_with_len 0 count) → after ≡ before ++ v ∷ [] → items v ≡ f count
    → map items after ≡ map f (range_with_len 0 (count + 1))
one_more items f before after v count are pushed is =
    ap (map items) pushed ∙ map-append items before (v ∷ []) ∙ ap₂ (λ xs x. xs ++ x ∷ []) are is ∙ sym (map-range_with_len_more f 0 count count (omega arith))

-- the list of one worker is another, and those of the others stay
pub one_set : {X : Type 0} (f g : ℕ → X) (workers k : ℕ) (new : X) (lists : List X) → k < workers → lists ≡ each_worker f workers → new ≡ g k → ((w : ℕ) → w ≢ k → g w ≡ f w) → set lists k new ≡ each_worker g workers
one_set f g workers k new lists below are is others =
    let all = range_with_len 0 workers in
    let here : get_or all k 0 ≡ k = omega (arith, get_or-range_with_len 0 workers k 0 below) in
    map_set f g all lists k new (omega (arith, below, length-range_with_len 0 workers)) are (is ∙ ap g (sym here)) (λ j lt differ.
    others (get_or all j 0) (λ e. differ (omega (arith, e, get_or-range_with_len 0 workers j 0 (omega (arith, lt, length-range_with_len 0 workers))))))

-- none has any
pub none_yet : {T : Type 0} (workers : ℕ) (lists : List (List T)) → lists ≡ replicate workers [] → lists ≡ each_worker (λ _. []) workers
none_yet workers lists empty =
    empty ∙ ap (λ (n : ℕ). replicate n []) (sym (length-range_with_len 0 workers)) ∙ all_same (λ _. []) [] (λ _. refl) (range_with_len 0 workers)

abbrev kept_if : {T : Type 0} → Bool → T × ℕ → List (T × ℕ) → List T
kept_if b value kept = map (λ v. v.0) (cond b (value ∷ kept) kept)

-- a value at the front is its worker's alone
module _ {T : Type 0} (workers : ℕ) (value : T) (locate : ℕ) (rest : List (T × ℕ)) where
  abbrev kept : ℕ → List (T × ℕ)
  kept w = filter (λ v. eqb (owner workers v.1) w) rest

  own_first : values_by workers ((value, locate) ∷ rest) (owner workers locate) ≡ value ∷ values_by workers rest (owner workers locate)
  own_first = ap (λ (b : Bool). kept_if b (value, locate) (kept (owner workers locate))) (eq-eqb (owner workers locate) (owner workers locate) refl)

  others_first : (w : ℕ) → w ≢ owner workers locate → values_by workers ((value, locate) ∷ rest) w ≡ values_by workers rest w
  others_first w differ = ap (λ (b : Bool). kept_if b (value, locate) (kept w)) (ne_eqb (owner workers locate) w (λ e. differ (sym e)))

both : {T : Type 0} (workers : ℕ) (before after : List (T × ℕ)) (w : ℕ) → values_by workers (before ++ after) w ≡ values_by workers before w ++ values_by workers after w
both {T} workers before after w = ap (map (λ (v : T × ℕ). v.0)) (filter-append _ before after) ∙ map-append (λ (v : T × ℕ). v.0) _ _

-- a value more
pub value_more : {T : Type 0} (workers : ℕ) (before : List (T × ℕ)) (value : T) (locate : ℕ) (lists : List (List T)) → 0 < workers → lists ≡ each_worker (values_by workers before) workers
    → set lists (owner workers locate) (get_or lists (owner workers locate) [] ++ value ∷ []) ≡ each_worker (values_by workers (before ++ (value, locate) ∷ [])) workers
value_more workers before value locate lists some are =
    let k = owner workers locate in
    let below : k < workers = mod_below locate workers some in
    let here : get_or lists k [] ≡ values_by workers before k = ap (λ ls. get_or ls k []) are ∙ get_or-map-range_with_len (values_by workers before) 0 workers k k [] below (omega arith) in
    one_set (values_by workers before) (values_by workers (before ++ (value, locate) ∷ [])) workers k _ lists below are
    (ap (λ vs. vs ++ value ∷ []) here ∙ ap (λ vs. values_by workers before k ++ vs) (sym (own_first workers value locate [])) ∙ sym (both workers before _ k))
    (λ w differ. both workers before _ w ∙ ap (λ vs. values_by workers before w ++ vs) (others_first workers value locate [] w differ) ∙ append-nil _)

-- the values of all workers, from an index on, in lists that are kept in other values
module _ {T V : Type 0} (items : V → List T) (workers : ℕ) (locates : List ℕ) (values : List T) (i : ℕ) (queues : List V) (some : 0 < workers) (lt : i < length locates) (long : length values ≡ length locates)
    (are : map items queues ≡ each_worker (values_by workers (zip (drop i values) (drop i locates))) workers) where
  abbrev k : ℕ
  k = owner workers (get_or locates i 0)

  below : k < workers
  below = mod_below (get_or locates i 0) workers some

  abbrev rest : List (T × ℕ)
  rest = zip (drop (i + 1) values) (drop (i + 1) locates)

  opened : (d : T) → zip (drop i values) (drop i locates) ≡ (get_or values i d, get_or locates i 0) ∷ rest
  opened d = ap₂ zip (drop_more values i d (omega (arith, lt, long))) (drop_more locates i 0 lt)

  pub room : k < length queues
  room = omega (arith, below, sym (length-map queues items), ap length are, length-map-range_with_len (values_by workers (zip (drop i values) (drop i locates))) 0 workers)

  -- the owner's first is that of the next stock
  pub first_of : (old : V) (d : T) → old ≡ get_or queues k old → items old ≡ get_or values i d ∷ values_by workers rest k
  first_of old d is =
      ap items is ∙ sym (get_or-map items queues k old (items old) room) ∙ ap (λ ls. get_or ls k (items old)) are
      ∙ get_or-map-range_with_len (values_by workers (zip (drop i values) (drop i locates))) 0 workers k k (items old) below (omega arith)
      ∙ ap (λ vs. values_by workers vs k) (opened d) ∙ own_first workers (get_or values i d) (get_or locates i 0) rest

  pub some_left : (old : V) → old ≡ get_or queues k old → 0 < length (items old)
  some_left old is = by values (omega (arith, lt, long))
    where
      by : (vs : List T) → 0 < length vs → 0 < length (items old)
      by [] none = absurd (omega arith)
      by (d ∷ ds) one = omega (arith, ap length (first_of old d is))

  -- and where it is taken the others are left
  pub rest_of : (new : V) (d : T) → items new ≡ values_by workers rest k → map items (set queues k new) ≡ each_worker (values_by workers rest) workers
  rest_of new d is =
      map-set items queues k new
      ∙ one_set (values_by workers (zip (drop i values) (drop i locates))) (values_by workers rest) workers k (items new) (map items queues) below are is
      (λ w differ. sym (ap (λ vs. values_by workers vs w) (opened d) ∙ others_first workers (get_or values i d) (get_or locates i 0) rest w differ))

-- a queue that has values gives one
pub gives_one : {T : Type 0} (old new : List T) (r : Option T) → 0 < length old → old ≡ option_to_list r ++ new → new ≡ drop 1 old → IsSome r
gives_one old new (Some x) some same left = search rules
gives_one old new None some same left = absurd (omega (arith, some, ap length same, ap length left, length-drop 1 old))

-- ---- values that are made of others, or of locate codes

pub own_values_map : {T X : Type 0} (g : T → X) (workers : ℕ) (values : List T) (locates : List ℕ) (w : ℕ) → map g (values_by workers (zip values locates) w) ≡ values_by workers (zip (map g values) locates) w
own_values_map g workers [] locates w = refl
own_values_map g workers (v ∷ values) [] w = refl
own_values_map {T} {X} g workers (v ∷ values) (l ∷ locates) w = by (eqb (owner workers l) w) (own_values_map g workers values locates w)
  where
    by : (b : Bool) → map g (values_by workers (zip values locates) w) ≡ values_by workers (zip (map g values) locates) w
        → map g (kept_if b (v, l) (kept workers v l (zip values locates) w)) ≡ kept_if b (g v, l) (kept workers (g v) l (zip (map g values) locates) w)
    by true same = ap (λ xs. g v ∷ xs) same
    by false same = same

pub own_values_of : {X : Type 0} (f : ℕ → X) (workers : ℕ) (locates : List ℕ) (w : ℕ) → values_by workers (zip (map f locates) locates) w ≡ map f (locates_by workers w locates)
own_values_of f workers [] w = refl
own_values_of {X} f workers (l ∷ locates) w = by (eqb (owner workers l) w) (own_values_of f workers locates w)
  where
    by : (b : Bool) → values_by workers (zip (map f locates) locates) w ≡ map f (locates_by workers w locates)
        → kept_if b (f l, l) (kept workers (f l) l (zip (map f locates) locates) w) ≡ map f (cond b (l ∷ locates_by workers w locates) (locates_by workers w locates))
    by true same = ap (λ xs. f l ∷ xs) same
    by false same = same

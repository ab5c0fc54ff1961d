-- What a test keeps of a range of numbers, and lists with a value for each number of another.
use Rattle.std.proofs.Common.{◌≡◌, ℕ, zero, suc, ◌+◌, ◌-◌, ◌<◌, ◌≤◌, List, [], ◌∷◌, ◌++◌, length, Bool, true, false, cond, eqb, get_or, filter, take, refl, ap, sym, ◌∙◌, map-id, arith, inl, inr, ◌≢◌, set, map, replicate}
use Rattle.std.specs.List.{Contains, range_with_len}
use Rattle.std.proofs.lemmas.Bool.{cases_Bool, eq-eqb, eqb-true, cases_eq}
use Rattle.std.proofs.lemmas.List.Elements.{All-filter, All-from_get_or}
use Rattle.std.proofs.lemmas.List.Folds.{list_any_at}
use Rattle.std.proofs.lemmas.Map.Views.{Contains-from_any}
use Rattle.std.proofs.lemmas.List.FromFn.{filter_of_map_range_with_len_more, get_or-range_with_len, length-range_with_len}
use Rattle.std.proofs.lemmas.List.{get_or-map, get_or-set_same, get_or-set_other, length-map, length-set}
use Rattle.itch_table.proofs.DayLocates.{any_picked}
pub use Rattle.rayon.proofs.ToStd.{filter-map}

-- one number more
pub kept_more : (p : ℕ → Bool) (a n last : ℕ) → a + n ≡ last
    → filter p (range_with_len a (n + 1)) ≡ filter p (range_with_len a n) ++ cond (p last) (last ∷ []) []
kept_more p a n last is =
    ap (filter p) (sym (map-id _)) ∙ filter_of_map_range_with_len_more p (λ (i : ℕ). i) a n last is
    ∙ ap (λ (l : List ℕ). filter p l ++ cond (p last) (last ∷ []) []) (map-id _)

-- each number kept is in the range
pub kept_within : (p : ℕ → Bool) (a n i d : ℕ) → i < length (filter p (range_with_len a n))
    → (a ≤ get_or (filter p (range_with_len a n)) i d) × (get_or (filter p (range_with_len a n)) i d < a + n)
kept_within p a n i d lt =
    All-filter p (λ m. (a ≤ m) × (m < a + n)) (range_with_len a n) (All-from_get_or (λ m. (a ≤ m) × (m < a + n)) (range_with_len a n) 0 (λ k below.
    let here = get_or-range_with_len a n k 0 (omega (arith, length-range_with_len a n)) in
    (omega (arith, here), omega (arith, here, below, length-range_with_len a n)))) i d lt

-- a number that passes the test is kept
pub kept_member : (p : ℕ → Bool) (xs : List ℕ) (m : ℕ) → Contains xs m → p m ≡ true → Contains (filter p xs) m
kept_member p xs m has on = Contains-from_any eqb-true m _ (any_picked p m xs on (list_any_at (eqb m) xs has.0 m has.1 (eq-eqb m _ (sym has.2))))

pub kept_there : (p : ℕ → Bool) (a n m : ℕ) → a ≤ m → m < a + n → p m ≡ true → Contains (filter p (range_with_len a n)) m
kept_there p a n m low high on =
    kept_member p (range_with_len a n) m (m - a, omega (arith, low, high, length-range_with_len a n), omega (arith, low, get_or-range_with_len a n (m - a) m (omega (arith, low, high)))) on

-- a test that gives true nowhere keeps nothing
pub kept_none : (p : ℕ → Bool) (xs : List ℕ) → ((x : ℕ) → p x ≡ false) → filter p xs ≡ []
kept_none p [] never = refl
kept_none p (x ∷ xs) never = rw (never x) (kept_none p xs never)

-- those before one of the numbers kept are all that are kept below it
pub kept_before : (p : ℕ → Bool) (a n i d : ℕ) → i < length (filter p (range_with_len a n))
    → take i (filter p (range_with_len a n)) ≡ filter p (range_with_len a (get_or (filter p (range_with_len a n)) i d - a))
kept_before p a zero i d lt = absurd (omega arith)
kept_before p a (suc n) i d lt =
    let rest = filter p (range_with_len (a + 1) n) in
    (elim (p a) as (λ (b : Bool). p a ≡ b → i < length (cond b (a ∷ rest) rest)
    → take i (cond b (a ∷ rest) rest) ≡ filter p (range_with_len a (get_or (cond b (a ∷ rest) rest) i d - a))) [
      | true ↦ λ on. elim i as (λ (k : ℕ). k < length (a ∷ rest) → take k (a ∷ rest) ≡ filter p (range_with_len a (get_or (a ∷ rest) k d - a))) [
        | zero ↦ λ within. let none : a - a ≡ 0 = omega arith in rw none refl
        | suc k ↦ λ within.
            let low = kept_within p (a + 1) n k d (omega arith) in
            let more : get_or rest k d - a ≡ suc (get_or rest k d - (a + 1)) = omega (arith, low) in
            rw (more, on) (ap (λ (xs : List ℕ). a ∷ xs) (kept_before p (a + 1) n k d (omega arith)))
      ]
      | false ↦ λ off within.
          let low = kept_within p (a + 1) n i d within in
          let more : get_or rest i d - a ≡ suc (get_or rest i d - (a + 1)) = omega (arith, low) in
          rw (more, off) (kept_before p (a + 1) n i d within)
    ]) refl lt

-- a narrower test keeps of what a wider one kept all that it keeps
pub kept_narrower : (p q : ℕ → Bool) (xs : List ℕ) → ((x : ℕ) → q x ≡ true → p x ≡ true) → filter q (filter p xs) ≡ filter q xs
kept_narrower p q [] narrower = refl
kept_narrower p q (x ∷ xs) narrower =
    let rest = kept_narrower p q xs narrower in
    elim (cases_Bool (q x)) [
      | inl on ↦ rw (narrower x on) (ap (λ (l : List ℕ). cond (q x) (x ∷ l) l) rest)
      | inr off ↦ rw off (dropped (p x) off rest)
    ]
  where
    dropped : (b : Bool) → q x ≡ false → filter q (filter p xs) ≡ filter q xs → filter q (cond b (x ∷ filter p xs) (filter p xs)) ≡ filter q xs
    dropped true off rest = rw off rest
    dropped false off rest = rest

-- ---- lists with a value for each number of another

pub map_by_all : {X : Type 0} (f : ℕ → X) (ls : List ℕ) (xs : List X) → length xs ≡ length ls → ((k : ℕ) (d : X) → k < length ls → get_or xs k d ≡ f (get_or ls k 0)) → xs ≡ map f ls
map_by_all f [] [] long each = refl
map_by_all f [] (x ∷ xs) long each = absurd (omega arith)
map_by_all f (l ∷ ls) [] long each = absurd (omega arith)
map_by_all f (l ∷ ls) (x ∷ xs) long each =
    let head : x ≡ f l = each 0 x (omega arith) in
    let rest = map_by_all f ls xs (omega arith) (λ k d lt. each (suc k) d (omega arith)) in
    cc

pub map_same : {X : Type 0} (f g : ℕ → X) (ls : List ℕ) → ((k : ℕ) → k < length ls → f (get_or ls k 0) ≡ g (get_or ls k 0)) → map f ls ≡ map g ls
map_same f g [] each = refl
map_same f g (l ∷ ls) each =
    let head : f l ≡ g l = each 0 (omega arith) in
    let rest = map_same f g ls (λ k lt. each (suc k) (omega arith)) in
    cc

-- one value is set, and the others stay
pub map_set : {X : Type 0} (f g : ℕ → X) (ls : List ℕ) (values : List X) (place : ℕ) (v : X) → place < length ls → values ≡ map f ls → v ≡ g (get_or ls place 0)
    → ((k : ℕ) → k < length ls → k ≢ place → g (get_or ls k 0) ≡ f (get_or ls k 0)) → set values place v ≡ map g ls
map_set f g ls values place v listed are is others =
    let long : length values ≡ length ls = ap length are ∙ length-map ls f in
    map_by_all g ls (set values place v) (length-set values place v ∙ long) (λ k d below.
    elim (cases_eq k place) [
      | inl same ↦ ap (λ (j : ℕ). get_or (set values place v) j d) same ∙ get_or-set_same values place v d (omega (arith, listed, long)) ∙ is ∙ ap (λ (j : ℕ). g (get_or ls j 0)) (sym same)
      | inr differ ↦ get_or-set_other values place k v d differ ∙ ap (λ xs. get_or xs k d) are ∙ get_or-map f ls k 0 d below ∙ sym (others k below differ)
    ])

pub all_same : {X Y : Type 0} (f : X → Y) (y : Y) → ((x : X) → f x ≡ y) → (xs : List X) → replicate (length xs) y ≡ map f xs
all_same f y same [] = refl
all_same f y same (x ∷ xs) = λ i. sym (same x) i ∷ all_same f y same xs i

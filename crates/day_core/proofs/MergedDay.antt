-- Pieces put together, and those of a day: each message has one.
use Rattle.std.proofs.Common.{◌≡◌, ◌≢◌, ℕ, zero, suc, ◌+◌, ◌<◌, ◌≤◌, List, [], ◌∷◌, ◌++◌, length, Bool, true, false, cond, eqb, get_or, filter, map, take, drop, refl, sym, ap, ap₂, subst, ◌∙◌, arith, inl, inr, ◌-◌, set, Option, Some, None, MatchOption}
use Rattle.std.specs.List.{All, Contains, range_with_len, sum_by}
use Rattle.std.proofs.lemmas.Bool.{cases_eq, eq-eqb, ne_eqb, cases_lt}
use Rattle.std.proofs.lemmas.Grind.{flat_map-append}
use Rattle.std.proofs.lemmas.Iterator.{YieldsList}
use Rattle.std.proofs.lemmas.Iterator.Consumers.{YieldsList-end, YieldsList-so_far, YieldsList-turn}
use Rattle.std.proofs.lemmas.List.{append-nil, take-append-drop, take_more, get_or-set_same, get_or-set_other, get_or_append_left, get_or_default, get_or_push, length-append, length-set, map-id, take-append-le, take_at}
use Rattle.std.proofs.lemmas.List.Elements.{All-append, All-map, Contains-append_left, Contains-push}
use Rattle.std.proofs.lemmas.List.FromFn.{get_or-range_with_len, length-range_with_len}
use Rattle.std.proofs.lemmas.List.Sums.{sum_by-cons, sum_by-append}
use Rattle.std.proofs.lemmas.Nat.{mod_below}
use Rattle.std.specs.Iterator.{Yields}
use Rattle.std.specs.Prelude.{IsSome, is_some}
use Rattle.itch_table.specs.declared.outcome.Outcome.{Outcome}
use Rattle.itch_table.specs.declared.outcome.Outcome.TheVariants.{Passed}
use Rattle.itch_table.specs.declared.outcome.Part.{Part}
use Rattle.itch_table.specs.declared.outcome.Part.TheVariants.{Locate, Nowhere}
use Rattle.itch_table.specs.After.{outcome, outcomes}
use Rattle.day_core.specs.declared.merging.MergeFault.{MergeFault}
use Rattle.day_core.specs.declared.merging.MergeFault.TheVariants.{Double, Memory, Missing, Stranger}
use Rattle.day_core.specs.declared.merging.Piece.{Piece}
use Rattle.day_core.specs.Merging.{IsMerged, IsMergeFault, joined, named, AreFilled, AreSound, HasMessage, Holds, IsEmptyAt, IsFaulty, IsFirstFault}
use Rattle.day_core.specs.Owners.{fixed_pieces, is_nowhere, is_own, own_of, owner, part_at, piece_of}
use Rattle.day_core.specs.Replaying.{each_worker, pieces_by}
use Rattle.day_core.proofs.FilteredRanges.{kept_within, map_by_all}

-- a piece is a message of a day with its outcome
pub record IsPieceOf (day : List (List ℕ)) (piece : Piece) : Type 0 where
  pub some : 1 ≤ piece.message
  pub within : piece.message ≤ length day
  pub has : piece.outcome ≡ outcome day piece.message

-- ---- one piece more

pub named-append : (n : ℕ) (xs ys : List Piece) → named n (xs ++ ys) ≡ named n xs + named n ys
named-append n xs ys = sum_by-append (λ (p : Piece). cond (eqb p.message n) 1 0) xs ys

pub named_push_same : (n : ℕ) (xs : List Piece) (p : Piece) → p.message ≡ n → named n (xs ++ p ∷ []) ≡ named n xs + 1
named_push_same n xs p same = named-append n xs (p ∷ []) ∙ rw (eq-eqb _ _ same) refl

named_push_other : (n : ℕ) (xs : List Piece) (p : Piece) → p.message ≢ n → named n (xs ++ p ∷ []) ≡ named n xs
named_push_other n xs p differ = named-append n xs (p ∷ []) ∙ rw (ne_eqb _ _ differ) (omega arith)

sound_push : (count : ℕ) (before : List Piece) (p : Piece) → AreSound count before → HasMessage count p.message → named p.message before ≡ 0
    → AreSound count (before ++ p ∷ [])
sound_push count before p sound inside fresh i d lt = elim (cases_lt i (length before)) [
  | inl lower ↦
      let le : i ≤ length before = omega arith in
      rw (get_or_append_left before (p ∷ []) d i lower, take-append-le i before (p ∷ []) le) (sound i d lower)
  | inr last ↦
      let long = length-append before (p ∷ []) in
      let e : length before ≡ i = omega arith in
      rw (get_or_push before p d i e, take_at before (p ∷ []) i e) (inside, fresh)
]

-- what a slot says of the pieces
abbrev Says : Option Outcome → ℕ → List Piece → Type 0
Says slot n pieces = MatchOption slot (named n pieces ≡ 0) (λ outcome. (named n pieces ≡ 1) × Contains pieces (record { message = n; outcome = outcome }))

slot_push : (slot : Option Outcome) (n : ℕ) (before : List Piece) (p : Piece) → p.message ≢ n → Says slot n before → Says slot n (before ++ p ∷ [])
slot_push None n before p differ h = named_push_other n before p differ ∙ h
slot_push (Some x) n before p differ h = (named_push_other n before p differ ∙ h.0, Contains-append_left before (p ∷ []) _ h.1)

pub placed : (before : List Piece) (slots : List (Option Outcome)) (p : Piece) → Holds before slots → 0 < p.message → p.message ≤ length slots
    → get_or slots (p.message - 1) None ≡ None → Holds (before ++ p ∷ []) (set slots (p.message - 1) (Some p.outcome))
placed before slots p holds low high empty =
    let long = length-set slots (p.message - 1) (Some p.outcome) in
    let room : p.message - 1 < length slots = omega arith in
    let up : p.message ≡ p.message - 1 + 1 = omega arith in
    let none = rw empty at (holds.slot (p.message - 1) None room) in
    let fresh : named p.message before ≡ 0 = ap (λ n. named n before) up ∙ none in
    record {
      sound = rw long (sound_push (length slots) before p holds.sound (low, high) fresh);
      slot = λ k d lt. elim (cases_eq k (p.message - 1)) [
        | inl same ↦
            let one : named (p.message - 1 + 1) (before ++ p ∷ []) ≡ 1 = named_push_same (p.message - 1 + 1) before p up ∙ ap (λ n. n + 1) none in
            rw (same, get_or-set_same slots (p.message - 1) (Some p.outcome) d room) (one, subst (λ n. Contains (before ++ p ∷ []) (record { message = n; outcome = p.outcome })) up (Contains-push before p))
        | inr differ ↦
            let apart : p.message ≢ k + 1 = λ e. differ (omega arith) in
            rw (get_or-set_other slots (p.message - 1) k (Some p.outcome) d differ) (slot_push (get_or slots k d) (k + 1) before p apart (holds.slot k d (omega arith)))
      ];
    }

none_from : (slot : Option Outcome) → false ≡ is_some slot → slot ≡ None
none_from None e = refl
none_from (Some x) e = cc

-- an empty slot, by the result of a test
pub empty_from : (slots : List (Option Outcome)) (i : ℕ) (d : Option Outcome) → i < length slots → false ≡ is_some (get_or slots i d) → get_or slots i None ≡ None
empty_from slots i d lt tested = none_from (get_or slots i None) (tested ∙ ap is_some (get_or_default slots i d None lt))

-- ---- all pieces

-- in the order in which an iterator gives them
module _ {S : Type 0} {steps : S → Option Piece → S → Type 0} {s : S} {pieces : List Piece} (gives : YieldsList steps (λ p. p) s pieces) (before : List Piece) (t : S) (so_far : Yields steps s before t)
    (slots : List (Option Outcome)) (holds : Holds before slots) (r : Option Piece) (u : S) (next : steps t r u) where
  -- a fault is that of the piece that comes next
  pub next_fault : (piece : Piece) (fault : MergeFault) → r ≡ Some piece → IsFaulty (length slots) before piece fault → IsMergeFault (length slots) pieces fault
  next_fault piece fault is faulty = by fault faulty
    where
      first : (one : MergeFault) → IsFaulty (length slots) before piece one → IsFirstFault (length slots) pieces one
      first one so =
          let here = YieldsList-turn gives before t so_far r u piece is next in
          let prefix : before ≡ take (length before) pieces = sym (map-id before) ∙ YieldsList-so_far gives before t so_far in
          record {
            index = length before;
            within = here.0;
            sound = subst (AreSound (length slots)) prefix holds.sound;
            faulty = λ d. subst (λ (p : Piece). IsFaulty (length slots) (take (length before) pieces) p one) (here.1 ∙ get_or_default pieces (length before) piece d here.0) (subst (λ (ps : List Piece). IsFaulty (length slots) ps piece one) prefix so);
          }

      by : (one : MergeFault) → IsFaulty (length slots) before piece one → IsMergeFault (length slots) pieces one
      by Memory so = tt
      by (Missing message) so = absurd so
      by (Double message) so = first (Double message) so
      by (Stranger message) so = first (Stranger message) so

  pub all_held : r ≡ None → Holds pieces slots
  all_held is = subst (λ (ps : List Piece). Holds ps slots) (sym (map-id before) ∙ (YieldsList-end gives before t so_far r u is next).0) holds

pub is_some-some : (slot : Option Outcome) (x : Outcome) → slot ≡ Some x → IsSome slot
is_some-some slot x e = rw e refl

-- all slots have an outcome
pub merged_all : (pieces : List Piece) (slots : List (Option Outcome)) (outcomes : List Outcome) → Holds pieces slots → AreFilled slots outcomes
    → IsMerged (length slots) pieces outcomes
merged_all pieces slots outcomes holds filled = record {
  sound = holds.sound;
  long = filled.0;
  each = λ k d lt. rw (filled.1 k d None lt) at (holds.slot k None lt);
}

one_named : (slot : Option Outcome) (n : ℕ) (pieces : List Piece) → IsSome slot → Says slot n pieces → named n pieces ≡ 1
one_named None n pieces some h = let never : ⊥ = cc in absurd never
one_named (Some x) n pieces some h = h.0

-- one is empty
pub least_missing : (pieces : List Piece) (slots : List (Option Outcome)) (fault : MergeFault) → Holds pieces slots → IsEmptyAt slots fault → IsMergeFault (length slots) pieces fault
least_missing pieces slots Memory holds empty = tt
least_missing pieces slots (Double message) holds empty = absurd empty
least_missing pieces slots (Stranger message) holds empty = absurd empty
least_missing pieces slots (Missing message) holds empty =
    let here : named (empty.0 + 1) pieces ≡ 0 = rw (empty.3 None) at (holds.slot empty.0 None empty.2) in
    record {
      sound = holds.sound;
      inside = (omega (arith, empty.1), omega (arith, empty.1, empty.2));
      none = rw empty.1 here;
      least = λ n low high.
          let e : n - 1 + 1 ≡ n = omega arith in
          ap (λ (k : ℕ). named k pieces) (sym e) ∙ one_named (get_or slots (n - 1) None) (n - 1 + 1) pieces (empty.4 (n - 1) None (omega (arith, empty.1))) (holds.slot (n - 1) None (omega (arith, empty.1, empty.2)));
    }

-- ---- sums that have one term

sum_before : (g : ℕ → ℕ) (n a count : ℕ) → ((m : ℕ) → m ≢ n → g m ≡ 0) → n < a → sum_by g (range_with_len a count) ≡ 0
sum_before g n a zero none lt = refl
sum_before g n a (suc count) none lt =
    omega (arith, sum_by-cons g a (range_with_len (a + 1) count), none a (λ e. omega (arith, e, lt)), sum_before g n (a + 1) count none (omega (arith, lt)))

sum_of_one : (g : ℕ → ℕ) (n a count : ℕ) → ((m : ℕ) → m ≢ n → g m ≡ 0) → a ≤ n → n < a + count → sum_by g (range_with_len a count) ≡ g n
sum_of_one g n a zero none le lt = absurd (omega (arith, le, lt))
sum_of_one g n a (suc count) none le lt =
    let first = sum_by-cons g a (range_with_len (a + 1) count) in
    elim (cases_eq a n) [
      | inl same ↦ omega (arith, first, sum_before g n (a + 1) count none (omega (arith, same)), ap g same)
      | inr differ ↦ omega (arith, first, none a differ, sum_of_one g n (a + 1) count none (omega (arith, le, differ)) (omega (arith, lt)))
    ]

-- ---- how often a message is named

named_among : (day : List (List ℕ)) (p : ℕ → Bool) (n : ℕ) (xs : List ℕ) → named n (map (piece_of day) (filter p xs)) ≡ sum_by (λ m. cond (p m) (cond (eqb m n) 1 0) 0) xs
named_among day p n [] = refl
named_among day p n (x ∷ xs) =
    one (p x) ∙ ap (λ (k : ℕ). cond (p x) (cond (eqb x n) 1 0) 0 + k) (named_among day p n xs) ∙ sym (sum_by-cons (λ m. cond (p m) (cond (eqb m n) 1 0) 0) x xs)
  where
    one : (b : Bool) → named n (map (piece_of day) (cond b (x ∷ filter p xs) (filter p xs))) ≡ cond b (cond (eqb x n) 1 0) 0 + named n (map (piece_of day) (filter p xs))
    one true = sum_by-cons (λ (p : Piece). cond (eqb p.message n) 1 0) (piece_of day x) (map (piece_of day) (filter p xs))
    one false = omega arith

named_kept : (day : List (List ℕ)) (p : ℕ → Bool) (n : ℕ) → 1 ≤ n → n ≤ length day → ◌≡◌ {A = ℕ} (named n (map (piece_of day) (filter p (range_with_len 1 (length day))))) (cond (p n) 1 0)
named_kept day p n some within =
    named_among day p n (range_with_len 1 (length day))
    ∙ sum_of_one (λ m. cond (p m) (cond (eqb m n) 1 0) 0) n 1 (length day) (λ m differ. rw (ne_eqb m n differ) (nothing (p m))) some (omega (arith, within))
    ∙ ap {B = ℕ} (λ (b : Bool). cond (p n) (cond b 1 0) 0) (eq-eqb n n refl)
  where
    nothing : (b : Bool) → cond {A = ℕ} b 0 0 ≡ 0
    nothing true = refl
    nothing false = refl

named_by_all : (f : ℕ → List Piece) (g : ℕ → ℕ) (n : ℕ) → ((k : ℕ) → named n (f k) ≡ g k) → (a count : ℕ) → named n (joined (map f (range_with_len a count))) ≡ sum_by g (range_with_len a count)
named_by_all f g n are a zero = refl
named_by_all f g n are a (suc count) =
    named-append n (f a) (joined (map f (range_with_len (a + 1) count)))
    ∙ ap₂ (λ (j k : ℕ). j + k) (are a) (named_by_all f g n are (a + 1) count) ∙ sym (sum_by-cons g a (range_with_len (a + 1) count))

-- ---- the pieces of a day

module _ (day : List (List ℕ)) (workers : ℕ) (some : 0 < workers) where
  abbrev pub all_pieces : List (List Piece)
  all_pieces = each_worker (pieces_by day workers) workers ++ fixed_pieces day ∷ []

  own_named : (n : ℕ) → 1 ≤ n → n ≤ length day → (worker : ℕ) → named n (pieces_by day workers worker) ≡ cond (is_own workers worker (part_at day n)) 1 0
  unfolding own_of
  own_named n low high worker = named_kept day (λ m. is_own workers worker (part_at day m)) n low high

  fixed_named : (n : ℕ) → 1 ≤ n → n ≤ length day → named n (fixed_pieces day) ≡ cond (is_nowhere (part_at day n)) 1 0
  unfolding fixed_pieces
  fixed_named n low high = named_kept day (λ m. is_nowhere (part_at day m)) n low high

  one_owner : (p : Part) → sum_by (λ worker. cond (is_own workers worker p) 1 0) (range_with_len 0 workers) + cond (is_nowhere p) 1 0 ≡ 1
  one_owner (Locate locate) =
      let one = sum_of_one (λ worker. cond (eqb (owner workers locate) worker) 1 0) (owner workers locate) 0 workers
      (λ m differ. ap {B = ℕ} (λ (b : Bool). cond b 1 0) (ne_eqb (owner workers locate) m (λ e. differ (sym e)))) (omega arith) (omega (arith, mod_below locate workers some)) in
      omega (arith, one, ap {B = ℕ} (λ (b : Bool). cond b 1 0) (eq-eqb (owner workers locate) (owner workers locate) refl))
  one_owner (Nowhere o) = omega (arith, sum_of_one (λ worker. 0) 0 0 workers (λ m differ. refl) (omega arith) (omega (arith, some)))

  pub named_once : (n : ℕ) → 1 ≤ n → n ≤ length day → named n (joined all_pieces) ≡ 1
  named_once n low high =
      ap (named n) (flat_map-append (λ list. list) (each_worker (pieces_by day workers) workers) (fixed_pieces day ∷ []) ∙ ap (λ (ps : List Piece). joined (each_worker (pieces_by day workers) workers) ++ ps) (append-nil (fixed_pieces day)))
      ∙ named-append n (joined (each_worker (pieces_by day workers) workers)) (fixed_pieces day)
      ∙ ap₂ (λ (j k : ℕ). j + k)
      (named_by_all (pieces_by day workers) (λ worker. cond (is_own workers worker (part_at day n)) 1 0) n (own_named n low high) 0 workers)
      (fixed_named n low high)
      ∙ one_owner (part_at day n)

  -- each is of the day
  of_day : (p : ℕ → Bool) → All (IsPieceOf day) (map (piece_of day) (filter p (range_with_len 1 (length day))))
  of_day p = All-map (IsPieceOf day) (piece_of day) _ (λ i d lt. let within = kept_within p 1 (length day) i d lt in record { some = within.0; within = omega (arith, within); has = refl })

  by_workers : (a count : ℕ) → All (IsPieceOf day) (joined (map (pieces_by day workers) (range_with_len a count)))
  unfolding own_of
  by_workers a zero = λ i d lt. absurd (omega (arith, lt))
  by_workers a (suc count) = All-append (IsPieceOf day) (pieces_by day workers a) _ (of_day (λ n. is_own workers a (part_at day n))) (by_workers (a + 1) count)

  all_of_day : All (IsPieceOf day) (joined all_pieces)
  unfolding fixed_pieces
  all_of_day =
      subst (All (IsPieceOf day)) (sym (flat_map-append (λ list. list) (each_worker (pieces_by day workers) workers) (fixed_pieces day ∷ [])))
      (All-append (IsPieceOf day) _ _ (by_workers 0 workers) (subst (All (IsPieceOf day)) (sym (append-nil (fixed_pieces day))) (of_day (λ n. is_nowhere (part_at day n)))))

  contained : (p : Piece) → Contains (joined all_pieces) p → IsPieceOf day p
  contained p has = subst (IsPieceOf day) has.2 (all_of_day has.0 p has.1)

  -- ---- put together

  pub merged_is : (found : List Outcome) → IsMerged (length day) (joined all_pieces) found → found ≡ outcomes day
  merged_is found merged =
      map_by_all (outcome day) (range_with_len 1 (length day)) found (merged.long ∙ sym (length-range_with_len 1 (length day)))
      (λ k d lt.
      let below : k < length day = omega (arith, lt, length-range_with_len 1 (length day)) in
      let here : k + 1 ≡ get_or (range_with_len 1 (length day)) k 0 = omega (arith, get_or-range_with_len 1 (length day) k 0 below) in
      (contained _ (merged.each k d below).1).has ∙ ap (outcome day) here)

  pub only_memory : (fault : MergeFault) → IsMergeFault (length day) (joined all_pieces) fault → fault ≡ Memory
  only_memory Memory is = refl
  only_memory (Missing n) is = absurd (omega (arith, is.none, named_once n is.inside.0 is.inside.1))
  only_memory (Double n) is =
      let ps = joined all_pieces in
      let none : Piece = record { message = 0; outcome = Passed } in
      let faulty = is.faulty none in
      let piece = get_or ps is.index none in
      let again : named n (take (is.index + 1) ps) ≡ named n (take is.index ps) + 1 =
      ap (named n) (take_more ps is.index none is.within) ∙ named_push_same n (take is.index ps) piece (sym faulty.0) in
      let whole : named n ps ≡ named n (take (is.index + 1) ps) + named n (drop (is.index + 1) ps) =
      ap (named n) (sym (take-append-drop (is.index + 1) ps)) ∙ named-append n (take (is.index + 1) ps) (drop (is.index + 1) ps) in
      absurd (omega (arith, whole, again, faulty.2, named_once n faulty.1.0 faulty.1.1))
  only_memory (Stranger n) is =
      let none : Piece = record { message = 0; outcome = Passed } in
      let faulty = is.faulty none in
      let piece = all_of_day is.index none is.within in
      absurd (faulty.1 (omega (arith, faulty.0, piece.some), omega (arith, faulty.0, piece.within)))

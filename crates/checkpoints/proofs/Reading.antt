-- A day that is read payload by payload, and the numbers of its messages that a predicate keeps.
use Rattle.std.proofs.Common.{◌≡◌, ℕ, ◌+◌, ◌-◌, ◌<◌, ◌≤◌, List, [], ◌∷◌, ◌++◌, length, drop, get_or, filter, Bool, true, false, cond, ap, sym, ◌∙◌, arith, append-nil}
use Rattle.std.specs.List.{range_with_len}
use Rattle.std.proofs.lemmas.List.{drop_more, length-drop}
use Rattle.itch_table.specs.Projection.{payload_at}
use Rattle.day_core.proofs.FilteredRanges.{kept_more}
use Rattle.checkpoints.specs.Filtering.{numbers_where}

-- the first n payloads were read, and these are left
pub record IsReading (day left : List (List ℕ)) (n : ℕ) : Type 0 where
  pub within : n ≤ length day
  pub rest : left ≡ drop n day

pub read_none : (day left : List (List ℕ)) → left ≡ day → IsReading day left 0
read_none day left is = record { within = omega arith; rest = is }

pub read_all : (day left : List (List ℕ)) (n : ℕ) → IsReading day left n → left ≡ [] → n ≡ length day
read_all day left n before none =
    omega (arith, before.within, ap length (sym before.rest ∙ none), length-drop n day)

module _ (day left rest : List (List ℕ)) (n : ℕ) (before : IsReading day left n) (payload : List ℕ) (goes_on : left ≡ payload ∷ rest) where
  pub read_within : n + 1 ≤ length day
  read_within = omega (arith, ap length (sym before.rest ∙ goes_on), length-drop n day)

  both : get_or day n [] ∷ drop (n + 1) day ≡ payload ∷ rest
  both = let within : n < length day = omega (arith, read_within) in sym (drop_more day n [] within) ∙ sym before.rest ∙ goes_on

  pub read_more : IsReading day rest (n + 1)
  read_more = record { within = read_within; rest = (let e = both in cc) }

  pub read_payload : payload ≡ payload_at day (n + 1)
  read_payload =
      let same : n + 1 - 1 ≡ n = omega arith in
      let here : payload ≡ get_or day n [] = (let e = both in cc) in
      here ∙ ap (λ (k : ℕ). get_or day k []) (sym same)

-- ---- the numbers of the messages whose payloads a predicate keeps

-- the first n payloads were read, these are left, and these numbers are of those that each predicate with this property
-- keeps
pub record IsSifting (Is : (List ℕ → Bool) → Type 0) (day left : List (List ℕ)) (n : ℕ) (numbers : List ℕ) : Type 0 where
  pub reading : IsReading day left n
  pub kept : (q : List ℕ → Bool) → Is q → numbers ≡ filter (λ k. q (payload_at day k)) (range_with_len 1 n)

module _ (Is : (List ℕ → Bool) → Type 0) (day left : List (List ℕ)) where
  pub sift_none : (numbers : List ℕ) → left ≡ day → numbers ≡ [] → IsSifting Is day left 0 numbers
  sift_none numbers is none = record { reading = read_none day left is; kept = λ q known. none }

  pub sift_all : (n : ℕ) (numbers : List ℕ) → IsSifting Is day left n numbers → left ≡ [] → (q : List ℕ → Bool) → Is q → numbers ≡ numbers_where day q
  sift_all n numbers before none q known =
      before.kept q known ∙ ap (λ (m : ℕ). filter (λ k. q (payload_at day k)) (range_with_len 1 m)) (read_all day left n before.reading none)

module _ (Is : (List ℕ → Bool) → Type 0) (day left rest : List (List ℕ)) (n : ℕ) (numbers : List ℕ) (before : IsSifting Is day left n numbers) (payload : List ℕ) (goes_on : left ≡ payload ∷ rest) where
  more : (q : List ℕ → Bool) (b : Bool) → q payload ≡ b
      → filter (λ k. q (payload_at day k)) (range_with_len 1 (n + 1)) ≡ filter (λ k. q (payload_at day k)) (range_with_len 1 n) ++ cond b ((n + 1) ∷ []) []
  more q b is =
      let p = λ (k : ℕ). q (payload_at day k) in
      let here : p (n + 1) ≡ b = ap q (sym (read_payload day left rest n before.reading payload goes_on)) ∙ is in
      kept_more p 1 n (n + 1) (omega arith) ∙ ap (λ (d : Bool). filter p (range_with_len 1 n) ++ cond d ((n + 1) ∷ []) []) here

  -- a message that is kept
  pub sift_on : ((q : List ℕ → Bool) → Is q → q payload ≡ true) → (pushed : List ℕ) → pushed ≡ numbers ++ (n + 1) ∷ [] → IsSifting Is day rest (n + 1) pushed
  sift_on on pushed is = record {
    reading = read_more day left rest n before.reading payload goes_on;
    kept = λ q known. is ∙ ap (λ (l : List ℕ). l ++ (n + 1) ∷ []) (before.kept q known) ∙ sym (more q true (on q known));
  }

  -- one that isn't
  pub sift_off : ((q : List ℕ → Bool) → Is q → q payload ≡ false) → IsSifting Is day rest (n + 1) numbers
  sift_off off = record {
    reading = read_more day left rest n before.reading payload goes_on;
    kept = λ q known. before.kept q known ∙ sym (more q false (off q known) ∙ append-nil _);
  }

-- The count and the words of a cell as one list.
use Rattle.std.proofs.Common.{◌≡◌, ℕ, zero, suc, ◌+◌, ◌<◌, ◌≤◌, List, [], ◌∷◌, ◌++◌, length, get_or, take, drop, set, refl, sym, ap, ◌∙◌, subst, arith, add-one, take_all, drop_of_length-le, append-nil}
use Rattle.std.specs.Prelude.{slice_index}
use Rattle.itch_table.specs.Shows.{words_of, top_after}
use Rattle.itch_table.specs.declared.order.Top.{Top}
use Rattle.top_cell.specs.Rule.{ShowsOf, number_in}
use Rattle.top_cell.specs.declared.rule.DayStock.{DayStock}

pub count_is : (words : List ℕ) (count : ℕ) (shown : List ℕ) → words ≡ count ∷ shown → slice_index words 0 ≡ count
count_is words count shown are = ap (λ ws. slice_index ws 0) are

pub word_is : (words : List ℕ) (count : ℕ) (shown : List ℕ) (i : ℕ) → words ≡ count ∷ shown → slice_index words (i + 1) ≡ slice_index shown i
word_is words count shown i are = ap (λ ws. slice_index ws (i + 1)) are ∙ ap (λ k. slice_index (count ∷ shown) k) (add-one i)

pub set_count : (words : List ℕ) (count : ℕ) (shown : List ℕ) (n : ℕ) → words ≡ count ∷ shown → set words 0 n ≡ n ∷ shown
set_count words count shown n are = ap (λ ws. set ws 0 n) are

pub set_word : (words : List ℕ) (count : ℕ) (shown : List ℕ) (i n : ℕ) → words ≡ count ∷ shown → set words (i + 1) n ≡ count ∷ set shown i n
set_word words count shown i n are = ap (λ ws. set ws (i + 1) n) are ∙ ap (λ k. set (count ∷ shown) k n) (add-one i)

-- one word more is a new one
pub mixed_more : (new old : List ℕ) (j : ℕ) → j < length new → length new ≡ length old → set (take j new ++ drop j old) j (get_or new j 0) ≡ take (suc j) new ++ drop (suc j) old
mixed_more [] old j h e = absurd (omega arith)
mixed_more (x ∷ xs) [] j h e = absurd (omega arith)
mixed_more (x ∷ xs) (y ∷ ys) zero h e = refl
mixed_more (x ∷ xs) (y ∷ ys) (suc j) h e = ap (λ zs. x ∷ zs) (mixed_more xs ys j (omega arith) (omega arith))

pub mixed_all : (new old : List ℕ) (j : ℕ) → j ≡ 4 → length new ≡ 4 → length old ≡ 4 → take j new ++ drop j old ≡ new
mixed_all new old j all n o = ap (λ l. l ++ drop j old) (take_all j new (omega arith)) ∙ (ap (λ l. new ++ l) (drop_of_length-le old (omega arith)) ∙ append-nil new)

pub four_shown : (s : DayStock) (n : ℕ) (words : List ℕ) → ShowsOf s n words → length words ≡ 4
four_shown s n words shows = ap length shows.1

pub first_shown : (s : DayStock) (n : ℕ) (words : List ℕ) → ShowsOf s n words → number_in words ≡ n
first_shown s n words shows = ap (λ ws. slice_index ws 0) shows.1

-- the words of the stock's top after a message
pub shows_words : (s : DayStock) (m : ℕ) (top : Top) (words : List ℕ) → m ≤ length s.day → top ≡ top_after s.day s.locate m → words ≡ words_of m top
    → ShowsOf s (number_in words) words × (number_in words ≡ m)
shows_words s m top words inside right is =
    let first : number_in words ≡ m = ap (λ ws. slice_index ws 0) is in
    (subst (λ k. ShowsOf s k words) (sym first) (inside, is ∙ ap (words_of m) right), first)

-- What the loads of a try show together, and the steps of a change.
use Rattle.std.proofs.Common.{◌≡◌, ◌≢◌, ℕ, ◌+◌, ◌%◌, ◌<◌, ◌≤◌, List, [], Some, None, inl, inr, refl, sym, ap, ◌∙◌, subst, arith}
use Rattle.top_cell.specs.Rule.{ShowsOf, IsIdle, IsScreen, stock_of, number_in, number_of, change_of, sight_of, sight}
use Rattle.top_cell.specs.Kinds.{ReaderBegun, ReaderEnded, WriterBegun, WriterHasPut}
use Rattle.top_cell.specs.Tries.{CountsRise, Got, Lost}
use Rattle.top_cell.specs.declared.rule.DayStock.{DayStock}
use Rattle.top_cell.specs.declared.rule.Sight.{Sight}
use Rattle.top_cell.specs.declared.rule.View.{View}
use Rattle.top_cell.specs.declared.rule.View.TheVariants.{Writing, ScreenOf}
use Rattle.top_cell.proofs.ReaderSteps.{same_words}

-- ---- a try

pub begun : (r : ℕ) (a b : View) → a ≡ ScreenOf (stock_of a) (sight_of a) → ReaderBegun r a b → ReaderBegun r (ScreenOf (stock_of a) (sight_of a)) b
begun r a b is = subst (λ u. ReaderBegun r u b) is

pub is_screen : (b : View) (s : DayStock) (v : Sight) → b ≡ ScreenOf s v → b ≡ ScreenOf (stock_of b) (sight_of b)
is_screen b s v e = e ∙ sym (ap (λ u. ScreenOf (stock_of u) (sight_of u)) e)

-- with four words more
abbrev with_words : Sight → List ℕ → Sight
with_words v words = sight v.number (v.loads + 4) v.looks v.tries v.wins v.last v.began (Some words)

-- after the four words
abbrev pub tried : Sight → ℕ → List ℕ → Sight
tried v r words = sight v.number ((v.loads + 1) + 4) (v.looks + 1) (v.tries + 1) v.wins r r (Some words)

pub taken_at : (b c : View) (s : DayStock) (v : Sight) (r : ℕ) (words : List ℕ)
    → b ≡ ScreenOf s (sight v.number (v.loads + 1) (v.looks + 1) (v.tries + 1) v.wins r r (Some []))
    → c ≡ ScreenOf (stock_of b) (with_words (sight_of b) words)
    → c ≡ ScreenOf s (tried v r words)
taken_at b c s v r words is e = e ∙ ap (λ u. ScreenOf (stock_of u) (with_words (sight_of u) words)) is

abbrev Ends : View → View → (View → Type 0) → Type 0
Ends a d P = (IsScreen d × (stock_of d ≡ stock_of a)) × P d × CountsRise a d

-- nothing was written between
pub won : (a c d : View) (r n : ℕ) (words : List ℕ) → a ≡ ScreenOf (stock_of a) (sight_of a) → c ≡ ScreenOf (stock_of a) (tried (sight_of a) r words) → ReaderEnded n c d → n ≡ r
    → r % 2 ≡ 0 → (sight_of a).last ≤ r → (sight_of a).began ≤ r → Ends a d (Got a words)
won a c d r n words is took ended still even risen up =
    let s = stock_of a in
    let v = sight_of a in
    let e = subst (λ u. ReaderEnded n u d) took ended in
    let t = subst (λ (ws : List ℕ). ShowsOf s (number_in ws) ws × (v.number ≤ number_in ws) × (d ≡ ScreenOf s (sight (number_in ws) (((v.loads + 1) + 4) + 1) ((v.looks + 1) + 1) (v.tries + 1) (v.wins + 1) n r None))) (sym (same_words words e.0 e.1)) (e.5 still) in
    subst (λ u. Ends a u (Got a words)) (sym t.2)
    (((refl, refl), refl), ((t.0, subst (λ k. k ≤ number_in words) (sym (ap number_of is)) t.1, refl), omega arith, (still, omega arith), (omega arith, omega arith)), (omega arith, up, omega arith, omega arith, omega arith))

pub lost : (a c d : View) (r n : ℕ) (words : List ℕ) → a ≡ ScreenOf (stock_of a) (sight_of a) → c ≡ ScreenOf (stock_of a) (tried (sight_of a) r words) → ReaderEnded n c d → n ≢ r
    → (sight_of a).last ≤ r → (sight_of a).began ≤ r → Ends a d (Lost a n)
lost a c d r n words is took ended moved risen up =
    let e = subst (λ u. ReaderEnded n u d) took ended in
    let t = e.6 moved in
    let later : r < n = grind (arith, e.3, moved) in
    subst (λ u. Ends a u (Lost a n)) (sym t)
    (((refl, refl), refl), ((sym (ap number_of is), refl, inr (omega arith, later)), omega arith, omega arith, (omega arith, refl)), (omega arith, up, omega arith, omega arith, omega arith))

-- the writer was at work
pub missed : (a b : View) (r : ℕ) → a ≡ ScreenOf (stock_of a) (sight_of a) → ReaderBegun r a b → r % 2 ≡ 1 → (sight_of a).last ≤ r → Ends a b (Lost a r)
missed a b r is load odd risen =
    let t = (begun r a b is load).4 odd in
    subst (λ u. Ends a u (Lost a r)) (sym t)
    (((refl, refl), refl), ((sym (ap number_of is), refl, inl odd), omega arith, omega arith, (omega arith, refl)), (risen, omega arith, omega arith, omega arith, omega arith))

-- ---- a change

pub writing_now : (new : List ℕ) (a b : View) → IsIdle a → WriterBegun new a b
    → (b ≡ Writing (stock_of b) (change_of b)) × (stock_of b ≡ stock_of a) × ((change_of b).put ≡ 0) × ((change_of b).new ≡ new) × (number_of b ≡ number_of a)
writing_now new a b is load =
    let t = subst (λ u. WriterBegun new u b) is load in
    subst (λ u. (u ≡ Writing (stock_of u) (change_of u)) × (stock_of u ≡ stock_of a) × ((change_of u).put ≡ 0) × ((change_of u).new ≡ new) × (number_of u ≡ number_of a)) (sym t.2) (refl, refl, refl, refl, sym (ap number_of is))

pub put_now : (a b : View) → a ≡ Writing (stock_of a) (change_of a) → WriterHasPut a b
    → (b ≡ Writing (stock_of b) (change_of b)) × (stock_of b ≡ stock_of a) × ((change_of b).put ≡ (change_of a).put + 1) × ((change_of b).new ≡ (change_of a).new) × (number_of b ≡ number_of a)
put_now a b is load =
    let t = subst (λ u. WriterHasPut u b) is load in
    subst (λ u. (u ≡ Writing (stock_of u) (change_of u)) × (stock_of u ≡ stock_of a) × ((change_of u).put ≡ (change_of a).put + 1) × ((change_of u).new ≡ (change_of a).new) × (number_of u ≡ number_of a)) (sym t) (refl, refl, refl, refl, sym (ap number_of is))

-- The lines of a file's messages, where the file is one beginning and then more.
use Rattle.std.proofs.Common.{◌≡◌, ℕ, zero, suc, ◌-◌, ◌^◌, ◌≤◌, List, [], ◌∷◌, ◌++◌, length, map, drop, take, refl, sym, ap, ◌∙◌, arith}
use Rattle.std.proofs.lemmas.Grind.{flat_map-append}
use Rattle.std.proofs.lemmas.List.{map-append, take_all}
use Rattle.std.specs.List.{flat_map}
use Rattle.binaryfile.specs.Entries.{Contents}
use Rattle.day_segments.specs.Reading.{followed_by}
use Rattle.itch_print.specs.Disassembly.{ended, lines_between, payload_line}
use Rattle.itch_dis.specs.Extents.{lines}

pub lines-append : (xs ys : List (List ℕ)) → lines (xs ++ ys) ≡ lines xs ++ lines ys
lines-append xs ys = ap (flat_map ended) (map-append payload_line xs ys) ∙ flat_map-append ended (map payload_line xs) (map payload_line ys)

none : {X : Type 0} (a b : ℕ) → drop {A = X} a (take b []) ≡ []
none zero zero = refl
none zero (suc b) = refl
none (suc a) zero = refl
none (suc a) (suc b) = refl

none_taken : {X : Type 0} (ys : List X) (a b : ℕ) → b ≡ 0 → drop a (take b ys) ≡ []
none_taken ys zero b is = ap (λ (n : ℕ). take n ys) is
none_taken ys (suc a) b is = ap (λ (n : ℕ). drop (suc a) (take n ys)) is

-- items from one number to another, of a list and of one after it
between-append : {X : Type 0} (xs ys : List X) (a b a' b' : ℕ) → a' ≡ a - length xs → b' ≡ b - length xs
    → drop a (take b (xs ++ ys)) ≡ drop a (take b xs) ++ drop a' (take b' ys)
between-append [] ys a b a' b' p q =
    let first : a ≡ a' = omega (arith, p) in
    let last : b ≡ b' = omega (arith, q) in
    ap (λ (n : ℕ). drop n (take b ys)) first ∙ ap (λ (n : ℕ). drop a' (take n ys)) last ∙ ap (λ (front : List _). front ++ drop a' (take b' ys)) (sym (none a b))
between-append (x ∷ xs) ys zero zero a' b' p q = sym (none_taken ys a' b' (omega (arith, q)))
between-append (x ∷ xs) ys (suc a) zero a' b' p q = sym (none_taken ys a' b' (omega (arith, q)))
between-append (x ∷ xs) ys zero (suc b) a' b' p q = ap (λ (rest : List _). x ∷ rest) (between-append xs ys zero b a' b' (omega (arith, p)) (omega (arith, q)))
between-append (x ∷ xs) ys (suc a) (suc b) a' b' p q = between-append xs ys a b a' b' (omega (arith, p)) (omega (arith, q))

-- the lines of a file with a segment more
pub lines_followed : (c next : Contents) (first last : ℕ)
    → lines_between (followed_by c next) first last ≡ lines_between c first last ++ lines_between next (first - length c.payloads) (last - length c.payloads)
unfolding lines_between
lines_followed c next first last =
    let front : List (List ℕ) = drop (first - 1) (take last c.payloads) in
    let back : List (List ℕ) = drop (first - length c.payloads - 1) (take (last - length c.payloads) next.payloads) in
    ap lines (between-append c.payloads next.payloads (first - 1) last (first - length c.payloads - 1) (last - length c.payloads) (omega arith) refl) ∙ lines-append front back

-- no line comes after the last one that is wanted
pub no_more_lines : (c : Contents) (first last : ℕ) → last ≡ 0 → lines_between c first last ≡ []
unfolding lines_between
no_more_lines c first last is = ap lines (none_taken c.payloads (first - 1) last is)

-- the lines of all messages
pub lines_of_all : (c : Contents) → length c.payloads ≤ 2 ^ 32 - 1 → lines_between c 1 (2 ^ 32 - 1) ≡ lines c.payloads
unfolding lines_between
lines_of_all c few = ap lines (take_all (2 ^ 32 - 1) c.payloads few)

pub no_lines_first : (first last : ℕ) → (marked : _) (tail : List ℕ) → lines_between (record { payloads = []; marked = marked; tail = tail }) first last ≡ []
unfolding lines_between
no_lines_first first last marked tail = ap lines (none (first - 1) last)

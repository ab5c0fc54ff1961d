-- A buffer that is filled from its beginning on.
use Rattle.std.proofs.Common.{◌≡◌, ℕ, ◌+◌, ◌-◌, ◌≤◌, List, ◌++◌, length, take, drop, sym, ap, ◌∙◌, arith}
use Rattle.std.proofs.lemmas.List.{length-append, length-drop, length-take-le, take-append-le, take-take, take_all, take_at}
use Rattle.std.proofs.Math.Seq.{take-append-add}
use Rattle.std.specs.Prelude.{Option, Ok}
use Rattle.day_segments.specs.Segments.{Fills, Follows}
use borrow.Rule.Slice.PartMut.{put_mid, post_of}

-- what stood before a place, and the first bytes that were written there
pub filled_more : (at room count : ℕ) (before written : List ℕ) → at ≤ length before → count ≤ length written
    → take (at + count) (put_mid at room before written) ≡ take at before ++ take count written
filled_more at room count before written within fits =
    ap (λ (n : ℕ). take (n + count) (take at before ++ (written ++ post_of at room before))) (sym (length-take-le at before within))
    ∙ take-append-add (take at before) (written ++ post_of at room before) count
    ∙ ap (λ (bytes : List ℕ). take at before ++ bytes) (take-append-le count written (post_of at room before) fits)

-- the buffer stays as long as it was
pub filled_long : (at room : ℕ) (before written : List ℕ) → at + room ≡ length before → length written ≡ room
    → length (put_mid at room before written) ≡ length before
filled_long at room before written whole long =
    omega (arith, whole, long, length-append (take at before) (written ++ post_of at room before), length-append written (post_of at room before), length-take-le at before (omega (arith, whole)), length-drop room (drop at before), length-drop at before)

-- the rest of the buffer, from a place on
pub rest_long : (at : ℕ) (buffer written : List ℕ) → length written ≡ length (take (length buffer - at) (drop at buffer))
    → length written ≡ length buffer - at
rest_long at buffer written same =
    same ∙ length-take-le (length buffer - at) (drop at buffer) (omega (arith, length-drop at buffer))

-- what stood in a vector before it was filled up
pub kept : (at long : ℕ) (old new more : List ℕ) → length old ≡ at → at ≤ long → new ≡ take long old ++ more → take at new ≡ old
kept at long old new more first longer is =
    ap (take at) (is ∙ ap (λ (front : List ℕ). front ++ more) (take_all long old (omega (arith, first, longer)))) ∙ take_at old more at first

-- what stood in a vector up to a place, and after it what the reader gave next, where the vector was cut after them
pub followed : (old new : Option (List ℕ)) (carried whole buffer bytes more : List ℕ) (at room space place most count : ℕ) → Fills old new buffer space (Ok count) → length buffer ≡ space
    → space ≡ room → place ≡ room → most ≡ length whole → length whole ≡ at + room → take at whole ≡ carried
    → bytes ≡ take (at + count) (take most (put_mid at place whole buffer ++ more)) → Follows old new carried room bytes
followed old new carried whole buffer bytes more at room space place most count fills long spacious placed whole_most all first are =
    let some : length (take count buffer) ≡ count = length-take-le count buffer (omega (arith, fills.0, long)) in
    let filled = put_mid at place whole buffer in
    let full : length filled ≡ length whole = filled_long at place whole buffer (omega (arith, placed, all)) (omega (arith, long, spacious, placed)) in
    record {
      given = take count buffer;
      gave = fills.1;
      within = omega (arith, some, fills.0, spacious);
      ended = λ few. fills.2 (omega (arith, some, few, spacious));
      are = are ∙ take-take (at + count) most (filled ++ more) (omega (arith, all, fills.0, spacious, whole_most)) ∙ take-append-le (at + count) filled more (omega (arith, full, all, fills.0, spacious))
          ∙ filled_more at place count whole buffer (omega (arith, all)) (omega (arith, fills.0, long)) ∙ ap (λ (front : List ℕ). front ++ take count buffer) first;
    }

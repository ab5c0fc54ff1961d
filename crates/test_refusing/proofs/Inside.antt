-- A refusing allocator that a reference points to: its type, and where the inner allocator and the numbers lie in it.
use Rattle.std.proofs.Common.{ℕ, ◌+◌, [], ◌∷◌}
use mir.Syntax.{Args, a_type, dnil, dcons}
use prog.Memory.{size, align, up}
use denote.Builtin.{RefOf}
use denote.Param.{bounded, param}
use denote.Signature.{Slot, plain}
use Rattle.std.proofs.alloc.Calls.{Al, α}
use Rattle.test_refusing.specs.contracts.Refusing as refusing

module _ (Z : Al) where
  -- the inner allocator is the one type argument
  abbrev pub inner_alone : Args
  inner_alone = bounded (a_type ∷ []) (Z.row, tt) (dcons Z.d (dcons Z.drops dnil))

  abbrev pub by_reference : Slot 2
  by_reference = RefOf (0 ∷ []) tt (plain (λ _. refusing.the_row (param 0 Z.row))) (λ _. tt)

  abbrev pub inner_at : ℕ × ℕ → ℕ × ℕ
  inner_at place = (place.0, place.1 + up (align (α Z)) 0)

  abbrev pub growths_at : ℕ × ℕ → ℕ × ℕ
  growths_at place = (place.0, place.1 + up 8 (up (align (α Z)) 0 + size (α Z)))

-- `is_refused` at a call: what is passed to it, and what its caller has of it. Assumes `Logic`.
use Rattle.std.proofs.Common.{◌≡◌, ℕ, Bool, List, [], ◌∷◌, refl, ap}
use seplogic.Ra.Ura.{Ura}
use mir.Val.{Val, vbool, vptr}
use base.Logic.{SProp, ent, sep, guard, ex, id⊢}
use base.Fml.{Lft, Share, ftrue, fsep, flft}
use prog.Memory.{Memory}
use prog.Routine.{Routine}
use types.Logic.{Logic, sem}
use contract.Monad.{Fun}
use types.Kit.{‵, ◌⊛◌, some, later, raw, ◌$◌, ◌∵◌, !, qed, move, keep, use1, split, join, pick, fjoin, feq_i, feq_l, check, show, await, updating, now as at_once, done}
use denote.Memory.{hidden_shr}
use denote.Builtin.{bool}
use denote.Steps.{nothing, only}
use denote.Triple.Statement.{Contract}
use denote.Triple.Spec.{triple_of}
use Rattle.test_refusing.specs.contracts.Growths as numbers
use Rattle.test_refusing.specs.contracts.is_refused as called

module _ {M : Type 1} {𝓤 : Ura M} (𝓛 : Logic 𝓤) (at_mem : Memory → SProp 𝓤) (run : Routine → Fun 𝓤) where
  abbrev pub Ask : Contract 𝓤
  Ask = triple_of 𝓛 called.signature (called.spec 𝓛 at_mem run)

  abbrev pub at_ask : Lft → Share → ℕ × ℕ → numbers.the_row.Denot → Ask.Ghost
  at_ask κ q c g = (((κ, tt), (q, tt), tt, (record { ref_ptr = c; now = g }, tt), (vptr c.0 c.1 ∷ [], tt)), tt)

module _ {M : Type 1} {𝓤 : Ura M} (𝓛 : Logic 𝓤) (at_mem : Memory → SProp 𝓤) (run : Routine → Fun 𝓤) (κ : Lft) (q : Share) (c : ℕ × ℕ) (g : numbers.the_row.Denot) where
  open 𝓛 use {H, A}

  pub Ask-goes : ent 𝓤 (sep 𝓤 (sem 𝓛 (hidden_shr numbers.the_row κ g c.0 c.1)) (A.lft κ q)) ((Ask 𝓛 at_mem run).pre (at_ask 𝓛 at_mem run κ q c g))
  Ask-goes =
      qed 𝓛 (‵ (hidden_shr numbers.the_row κ g c.0 c.1) ∷ ‵ (flft κ q) ∷ []) ∵ feq_i ! (List Val) (vptr c.0 c.1 ∷ []) (vptr c.0 c.1 ∷ []) refl $ fjoin ! $
      nothing ! $ move ! (1 ∷ []) $ fjoin ! $ nothing ! $ move ! (2 ∷ []) $ join ! $ join ! $ nothing ! $ move ! (1 ∷ []) $ join ! $ done !

  pub Ask-gives : (v : Val) → ent 𝓤 ((Ask 𝓛 at_mem run).post (at_ask 𝓛 at_mem run κ q c g) v) (H.⇛ (ex 𝓤 (λ (b : Bool). guard 𝓤 (v ≡ vbool b) (A.lft κ q))))
  Ask-gives v =
      qed 𝓛 (raw ((Ask 𝓛 at_mem run).post (at_ask 𝓛 at_mem run κ q c g) v) ∷ []) ∵ updating ! $
      use1 𝓛 (later (some (λ (b : Bool). ((‵ (flft κ q) ⊛ ‵ ftrue) ⊛ ‵ (bool.own_val b (v ∷ []))) ⊛ some (λ (ws : Unit {0} × Unit {0}). ‵ (fsep ftrue ftrue) ⊛ ‵ ftrue)))) (id⊢ 𝓤 _) $ await ! tt $ pick ! (λ b.
      split ! $ split ! $ move ! (1 ∷ []) $ feq_l ! (λ e. split ! $ at_once ! $ show ! (λ (z : Bool). guard 𝓤 (v ≡ vbool z) (A.lft κ q)) b $ check ! (ap only e) $ keep ! (0 ∷ []) $ done !))

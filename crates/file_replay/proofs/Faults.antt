-- Why a file isn't replayed.
use Rattle.std.proofs.Common.{◌≡◌, Err, sym, ap, ◌∙◌}
use Rattle.std.specs.Prelude.{Result}
use Rattle.binaryfile.specs.declared.load.LoadFault.{LoadFault}
use Rattle.binaryfile.specs.declared.load.LoadFault.TheVariants.{Read}

-- a fault that is passed on is Read exactly where the other was
pub failed_as : {T : Type 0} (F : Type 0) (r : Result T LoadFault) (passed fault : LoadFault) → r ≡ Err passed → passed ≡ fault → ((fault ≡ Read → F) × (F → fault ≡ Read))
    → (r ≡ Err Read → F) × (F → r ≡ Err Read)
failed_as F r passed fault is same was = (
  λ e.
      let told = sym is ∙ e in
      let read : passed ≡ Read = cc in
      was.0 (sym same ∙ read),
  λ f. is ∙ ap Err (same ∙ was.1 f),
)

-- whether a fault that is passed on is Read, where this is known of the call that it comes from
pub failed_by : {T : Type 0} (F : Type 0) (r : Result T LoadFault) (was passed : LoadFault) → r ≡ Err was → passed ≡ was → ((r ≡ Err Read → F) × (F → r ≡ Err Read))
    → (passed ≡ Read → F) × (F → passed ≡ Read)
failed_by F r was passed is same failed = (
  λ read. failed.0 (is ∙ ap Err (sym same ∙ read)),
  λ f.
      let told = sym is ∙ failed.1 f in
      let read : was ≡ Read = cc in
      same ∙ read,
)

-- Which growths an allocator refuses, and the allocator that makes the others.
use Rattle.std.specs.Prelude.{◌≡◌, ℕ, ◌≤◌, ◌<◌, ◌^◌, ◌↔◌}
use Rattle.test_refusing.specs.declared.Refusal.{Refusal}
use Rattle.test_refusing.specs.declared.Refusal.TheVariants.{Never, Only, From}
use Rattle.test_refusing.specs.declared.Refusing.{Refusing}

-- the growth with this number is refused
abbrev pub IsRefused : Refusal → ℕ → Type 0
IsRefused Never number = ⊥
IsRefused (Only refused) number = number ≡ refused
IsRefused (From refused) number = refused ≤ number

-- the refused growths are those with a number from first to last
abbrev pub RefusesBetween : Refusal → ℕ → ℕ → Type 0
RefusesBetween refusal first last = (number : ℕ) → number < 2 ^ 64
    → ((first ≤ number) × (number ≤ last)) ↔ IsRefused refusal number

-- the allocator that the growths are passed on to
abbrev pub inner_of : {B : Type 0} → Refusing B → B
inner_of refusing = refusing.inner

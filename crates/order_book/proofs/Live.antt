-- Orders that live, and what becomes of one that shares come off.
use Rattle.std.proofs.Common.{◌≡◌, ℕ, ◌-◌, ◌==◌, Bool, true, false, Option, Some, None, cond, refl, ap, ◌∙◌, arith}
use Rattle.std.specs.Prelude.{if◌then◌else◌}
use Rattle.std.specs.Option.{option_map, IsSome}
use Rattle.std.specs.Ordering.{eq_by_cmp, nat_cmp}
use Rattle.std.specs.Cmp.{nat_cmp_total}
use Rattle.std.specs.FinMap as maps
use Rattle.std.specs.FinMap.{get-insert, nat_cmp-IsAntisymmetric}
use Rattle.std.proofs.lemmas.Bool.Decides.{nat_tests}
use Rattle.itch_table.specs.declared.order.OrderRow.{OrderRow}
use Rattle.itch_table.proofs.MapViews.{apart_by_get}
use Rattle.order_book.specs.Orders.{Orders, reduced_by}

pub some_of : {X Y : Type 0} (f : X → Y) (o : Option X) → IsSome (option_map f o) → IsSome o
some_of f None some = some
some_of f (Some x) some = refl

pub none_of : {X Y : Type 0} (f : X → Y) (o : Option X) → option_map f o ≡ None → o ≡ None
none_of f None none = refl
none_of f (Some x) none = absurd (some_none none)
  where
    some_none : Some (f x) ≡ None → ⊥
    some_none e = cc

module _ (orders : Orders) (reference : ℕ) (row : OrderRow) (shares : ℕ) where
  reduced_if : (b : Bool) → (row.shares == shares) ≡ b → reduced_by orders reference row shares
      ≡ (if b then maps.remove orders reference else maps.insert orders reference (record row { shares = row.shares - shares }))
  reduced_if b is =
      ap (λ (b : Bool). if b then maps.remove orders reference else maps.insert orders reference (record row { shares = row.shares - shares })) is

  pub reduced_part : (row.shares ≡ shares → ⊥)
      → reduced_by orders reference row shares ≡ maps.insert orders reference (record row { shares = row.shares - shares })
  reduced_part apart = reduced_if false (grind (arith, nat_tests))

  pub reduced_whole : row.shares ≡ shares → reduced_by orders reference row shares ≡ maps.remove orders reference
  reduced_whole same = reduced_if true (grind (arith, nat_tests))

-- a reference that is live is another than one that isn't, and stays live where that one comes
module _ (orders : Orders) (old new : ℕ) (row : OrderRow) (there : maps.get orders old ≡ Some row) (free : maps.get orders new ≡ None) where
  pub apart_from_live : eq_by_cmp nat_cmp old new ≡ false
  apart_from_live = apart_by_get nat_cmp_total nat_cmp-IsAntisymmetric orders old new row there free

  pub still_live : (placed : OrderRow) → maps.get (maps.insert orders new placed) old ≡ Some row
  still_live placed =
      get-insert nat_cmp_total orders new placed old ∙ ap (λ b. cond b (Some placed) (maps.get orders old)) apart_from_live ∙ there

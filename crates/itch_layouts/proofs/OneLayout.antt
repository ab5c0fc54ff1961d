-- A message's layout is known by its type, and by its mnemonic.
use Rattle.std.proofs.Common.{◌≡◌, refl, Some}
use Rattle.itch_layouts.specs.Layouts.{layout_of_kind, layout_of_mnemonic}
use Rattle.itch_layouts.specs.Means.{layout_of}
use Rattle.itch_layouts.specs.declared.message.Msg.{Msg}
use Rattle.itch_layouts.specs.declared.message.Msg.TheVariants.{System}

pub by_kind : (m : Msg) → layout_of_kind (layout_of m).kind ≡ Some (layout_of m)
unfolding layout_of_kind
by_kind (System head m) = refl
by_kind m = refl

pub by_mnemonic : (m : Msg) → layout_of_mnemonic (layout_of m).mnemonic ≡ Some (layout_of m)
unfolding layout_of_mnemonic
by_mnemonic (System head m) = refl
by_mnemonic m = refl

pub ruleset layouts = (by_kind, by_mnemonic)

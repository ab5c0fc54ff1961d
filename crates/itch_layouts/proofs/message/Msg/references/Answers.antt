use Rattle.std.proofs.Common.{refl}
use Rattle.itch_layouts.proofs.message.Msg.references.Goals as goal

pub returns-in-Directory : goal.returns-in-Directory
returns-in-Directory c = rw c.in-Directory.is refl

use Rattle.itch_dis.proofs.Extended.{none_suffice, some_suffice}
use Rattle.itch_dis.proofs.extent.Extent.ends_within.Goals as goal

pub returns-in-None : goal.returns-in-None
returns-in-None c = none_suffice c.args.self c.in-Messages.first c.args.messages c.in-Messages.last c.in-Messages.is c.in-None.is

pub returns-in-Some : goal.returns-in-Some
returns-in-Some c = some_suffice c.args.self c.in-Messages.first c.in-Some.last c.from.result c.args.messages c.in-Messages.last c.in-Messages.is c.in-Some.is c.from.ensures

use Rattle.std.proofs.Common.{refl}
use Rattle.itch_layouts.specs.declared.message.Msg.TheVariants as msg
use Rattle.itch_layouts.specs.declared.shape.Shape.TheVariants.{Unknown, BadLength}
use Rattle.itch_table.proofs.Followed.{holds, followed, read_as}
use Rattle.itch_table.proofs.instructions.follow_payload.Goals as goal

pub returns-in-Unknown : goal.returns-in-Unknown
returns-in-Unknown g c = let reads = rw c.in-Unknown.is at c.kind_of.ensures in read_as _ _ _ Unknown _ reads (refl, refl)

pub returns-in-BadLength : goal.returns-in-BadLength
returns-in-BadLength g c = let reads = rw c.in-BadLength.is at c.kind_of.ensures in read_as _ _ _ BadLength _ reads (refl, refl)

pub system-requires : goal.system-requires
system-requires g c = holds _ _ (msg.System c.system_of-head.result.0 c.system_of-head.result.1) c.system_of-head.ensures c.requires.here

pub returns-in-System : goal.returns-in-System
returns-in-System g c = followed _ _ _ (msg.System c.system_of-head.result.0 c.system_of-head.result.1) _ c.system_of-head.ensures c.system.ensures

pub returns-in-Decline : goal.returns-in-Decline
returns-in-Decline g c = followed _ _ _ (msg.Decline c.decline_of-head.result.0 c.decline_of-head.result.1) _ c.decline_of-head.ensures c.decline.ensures

pub returns-in-Breach : goal.returns-in-Breach
returns-in-Breach g c = followed _ _ _ (msg.Breach c.breach_of-head.result.0 c.breach_of-head.result.1) _ c.breach_of-head.ensures c.breach.ensures

pub returns-in-Ipo : goal.returns-in-Ipo
returns-in-Ipo g c = followed _ _ _ (msg.Ipo c.ipo_of-head.result.0 c.ipo_of-head.result.1) _ c.ipo_of-head.ensures c.ipo.ensures

pub directory-requires : goal.directory-requires
directory-requires g c = holds _ _ (msg.Directory c.directory_of-head.result.0 c.directory_of-head.result.1) c.directory_of-head.ensures c.requires.here

pub returns-in-Directory : goal.returns-in-Directory
returns-in-Directory g c = followed _ _ _ (msg.Directory c.directory_of-head.result.0 c.directory_of-head.result.1) _ c.directory_of-head.ensures c.directory.ensures

pub trading-requires : goal.trading-requires
trading-requires g c = holds _ _ (msg.Trading c.trading_of-head.result.0 c.trading_of-head.result.1) c.trading_of-head.ensures c.requires.here

pub returns-in-Trading : goal.returns-in-Trading
returns-in-Trading g c = followed _ _ _ (msg.Trading c.trading_of-head.result.0 c.trading_of-head.result.1) _ c.trading_of-head.ensures c.trading.ensures

pub regsho-requires : goal.regsho-requires
regsho-requires g c = holds _ _ (msg.Regsho c.regsho_of-head.result.0 c.regsho_of-head.result.1) c.regsho_of-head.ensures c.requires.here

pub returns-in-Regsho : goal.returns-in-Regsho
returns-in-Regsho g c = followed _ _ _ (msg.Regsho c.regsho_of-head.result.0 c.regsho_of-head.result.1) _ c.regsho_of-head.ensures c.regsho.ensures

pub check_only-requires : goal.check_only-requires
check_only-requires g c = holds _ _ (msg.Participant c.participant_of-head.result.0 c.participant_of-head.result.1) c.participant_of-head.ensures c.requires.here

pub returns-in-Participant : goal.returns-in-Participant
returns-in-Participant g c = let m = msg.Participant c.participant_of-head.result.0 c.participant_of-head.result.1 in followed _ _ _ m _ c.participant_of-head.ensures (c.check_only.ensures m refl refl)

pub check_only-requires-in-Collar : goal.check_only-requires-in-Collar
check_only-requires-in-Collar g c = holds _ _ (msg.Collar c.collar_of-head.result.0 c.collar_of-head.result.1) c.collar_of-head.ensures c.requires.here

pub returns-in-Collar : goal.returns-in-Collar
returns-in-Collar g c = let m = msg.Collar c.collar_of-head.result.0 c.collar_of-head.result.1 in followed _ _ _ m _ c.collar_of-head.ensures (c.check_only-in-Collar.ensures m refl refl)

pub check_only-requires-in-Operational : goal.check_only-requires-in-Operational
check_only-requires-in-Operational g c = holds _ _ (msg.Operational c.operational_of-head.result.0 c.operational_of-head.result.1) c.operational_of-head.ensures c.requires.here

pub returns-in-Operational : goal.returns-in-Operational
returns-in-Operational g c = let m = msg.Operational c.operational_of-head.result.0 c.operational_of-head.result.1 in followed _ _ _ m _ c.operational_of-head.ensures (c.check_only-in-Operational.ensures m refl refl)

pub add-requires-clause-here : goal.add-requires-clause-here
add-requires-clause-here g c = holds _ _ (msg.Add c.add_of-head.result.0 c.add_of-head.result.1) c.add_of-head.ensures c.requires.here

pub returns-in-Add : goal.returns-in-Add
returns-in-Add g c = followed _ _ _ (msg.Add c.add_of-head.result.0 c.add_of-head.result.1) _ c.add_of-head.ensures c.add.ensures

pub add_mpid-requires-clause-here : goal.add_mpid-requires-clause-here
add_mpid-requires-clause-here g c = holds _ _ (msg.AddMpid c.add_mpid_of-head.result.0 c.add_mpid_of-head.result.1) c.add_mpid_of-head.ensures c.requires.here

pub returns-in-AddMpid : goal.returns-in-AddMpid
returns-in-AddMpid g c = followed _ _ _ (msg.AddMpid c.add_mpid_of-head.result.0 c.add_mpid_of-head.result.1) _ c.add_mpid_of-head.ensures c.add_mpid.ensures

pub execute-requires-clause-here : goal.execute-requires-clause-here
execute-requires-clause-here g c = holds _ _ (msg.Execute c.execute_of-head.result.0 c.execute_of-head.result.1) c.execute_of-head.ensures c.requires.here

pub returns-in-Execute : goal.returns-in-Execute
returns-in-Execute g c = followed _ _ _ (msg.Execute c.execute_of-head.result.0 c.execute_of-head.result.1) _ c.execute_of-head.ensures c.execute.ensures

pub execute_price-requires-clause-here : goal.execute_price-requires-clause-here
execute_price-requires-clause-here g c = holds _ _ (msg.ExecutePrice c.execute_price_of-head.result.0 c.execute_price_of-head.result.1) c.execute_price_of-head.ensures c.requires.here

pub returns-in-ExecutePrice : goal.returns-in-ExecutePrice
returns-in-ExecutePrice g c = followed _ _ _ (msg.ExecutePrice c.execute_price_of-head.result.0 c.execute_price_of-head.result.1) _ c.execute_price_of-head.ensures c.execute_price.ensures

pub cancel-requires : goal.cancel-requires
cancel-requires g c = holds _ _ (msg.Cancel c.cancel_of-head.result.0 c.cancel_of-head.result.1) c.cancel_of-head.ensures c.requires.here

pub returns-in-Cancel : goal.returns-in-Cancel
returns-in-Cancel g c = followed _ _ _ (msg.Cancel c.cancel_of-head.result.0 c.cancel_of-head.result.1) _ c.cancel_of-head.ensures c.cancel.ensures

pub delete-requires : goal.delete-requires
delete-requires g c = holds _ _ (msg.Delete c.delete_of-head.result.0 c.delete_of-head.result.1) c.delete_of-head.ensures c.requires.here

pub returns-in-Delete : goal.returns-in-Delete
returns-in-Delete g c = followed _ _ _ (msg.Delete c.delete_of-head.result.0 c.delete_of-head.result.1) _ c.delete_of-head.ensures c.delete.ensures

pub replace-requires : goal.replace-requires
replace-requires g c = holds _ _ (msg.Replace c.replace_of-head.result.0 c.replace_of-head.result.1) c.replace_of-head.ensures c.requires.here

pub returns-in-Replace : goal.returns-in-Replace
returns-in-Replace g c = followed _ _ _ (msg.Replace c.replace_of-head.result.0 c.replace_of-head.result.1) _ c.replace_of-head.ensures c.replace.ensures

pub non_cross_trade-requires-clause-here : goal.non_cross_trade-requires-clause-here
non_cross_trade-requires-clause-here g c = holds _ _ (msg.Trade c.trade_of-head.result.0 c.trade_of-head.result.1) c.trade_of-head.ensures c.requires.here

pub returns-in-Trade : goal.returns-in-Trade
returns-in-Trade g c = followed _ _ _ (msg.Trade c.trade_of-head.result.0 c.trade_of-head.result.1) _ c.trade_of-head.ensures c.non_cross_trade.ensures

pub cross-requires-clause-here : goal.cross-requires-clause-here
cross-requires-clause-here g c = holds _ _ (msg.Cross c.cross_of-head.result.0 c.cross_of-head.result.1) c.cross_of-head.ensures c.requires.here

pub returns-in-Cross : goal.returns-in-Cross
returns-in-Cross g c = followed _ _ _ (msg.Cross c.cross_of-head.result.0 c.cross_of-head.result.1) _ c.cross_of-head.ensures c.cross.ensures

pub broken-requires : goal.broken-requires
broken-requires g c = holds _ _ (msg.Broken c.broken_of-head.result.0 c.broken_of-head.result.1) c.broken_of-head.ensures c.requires.here

pub returns-in-Broken : goal.returns-in-Broken
returns-in-Broken g c = followed _ _ _ (msg.Broken c.broken_of-head.result.0 c.broken_of-head.result.1) _ c.broken_of-head.ensures c.broken.ensures

pub check_only-requires-in-Imbalance : goal.check_only-requires-in-Imbalance
check_only-requires-in-Imbalance g c = holds _ _ (msg.Imbalance c.imbalance_of-head.result.0 c.imbalance_of-head.result.1) c.imbalance_of-head.ensures c.requires.here

pub returns-in-Imbalance : goal.returns-in-Imbalance
returns-in-Imbalance g c = let m = msg.Imbalance c.imbalance_of-head.result.0 c.imbalance_of-head.result.1 in followed _ _ _ m _ c.imbalance_of-head.ensures (c.check_only-in-Imbalance.ensures m refl refl)

pub check_only-requires-in-Retail : goal.check_only-requires-in-Retail
check_only-requires-in-Retail g c = holds _ _ (msg.Retail c.retail_of-head.result.0 c.retail_of-head.result.1) c.retail_of-head.ensures c.requires.here

pub returns-in-Retail : goal.returns-in-Retail
returns-in-Retail g c = let m = msg.Retail c.retail_of-head.result.0 c.retail_of-head.result.1 in followed _ _ _ m _ c.retail_of-head.ensures (c.check_only-in-Retail.ensures m refl refl)

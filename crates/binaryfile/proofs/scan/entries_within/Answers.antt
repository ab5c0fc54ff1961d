use Rattle.std.proofs.Common.{arith}
use Rattle.binaryfile.proofs.ByteRanges.{bytes_are}
use Rattle.binaryfile.proofs.Offsets.{few_entries}
use Rattle.binaryfile.proofs.scan.entries_within.Goals as goal
use Rattle.binaryfile.proofs.scan.entries_within.Goals.{else-may_have_more-via-then-may_have_more+else-entry_count-messages, else-may_have_more-via-else-may_have_more}

pub returns-in_err-index_entries-clause-are : goal.returns-in_err-index_entries-clause-are
returns-in_err-index_entries-clause-are g c = bytes_are c.args.bytes.now c.type_inv.bytes

pub returns-clause-are : goal.returns-clause-are
returns-clause-are g c = bytes_are c.args.bytes.now c.type_inv.bytes

pub returns-in_err-index_entries-clause-judged : goal.returns-in_err-index_entries-clause-judged
returns-in_err-index_entries-clause-judged g c = λ more.
    let few = few_entries c.args.bytes.now (bytes_are c.args.bytes.now c.type_inv.bytes) in
    absurd
    (elim c.else-may_have_more.branch [
      | else-may_have_more-via-then-may_have_more+else-entry_count-messages w ↦ omega (arith, more, w.entry_count.ensures, w.if-entry_count-messages.false)
      | else-may_have_more-via-else-may_have_more w ↦ omega (arith, more, few, w.if-may_have_more.false, c.from.ensures)
    ])

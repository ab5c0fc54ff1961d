use Rattle.std.proofs.Common.{◌≤◌, leb, length, ap, ◌∙◌, arith, rules}
use Rattle.std.proofs.lemmas.List.Sorted.{IsPartitionPoint-from_clause}
use Rattle.day_core.specs.Owners.{machine_of}
use Rattle.checkpoints.specs.Copies.{Tracked, machine_after_own}
use Rattle.checkpoints.proofs.Along.{copy_stands, copy_there, locate_is, machine_at, numbers_self, own_found, own_parted, stands_self}
use Rattle.checkpoints.proofs.track.Track.at.Goals as goal

pub index-requires : goal.index-requires
index-requires g c =
    let bound : c.partition_point-taken.result ≤ length c.self.inside.numbers.items = omega (arith, c.partition_point-taken.ensures.bound, ap length c.deref.ensures.value) in
    omega (arith, copy_there _ _ _ _ _ c.self.invariant c.partition_point-taken.result bound)

pub advance-requires-clause-numbers : goal.advance-requires-clause-numbers
advance-requires-clause-numbers g c =
    let bound : c.partition_point-taken.result ≤ length c.self.inside.numbers.items = omega (arith, c.partition_point-taken.ensures.bound, ap length c.deref.ensures.value) in
    let stands = c.in_ok-stock.ensures ∙ c.index.ensures ∙ copy_stands _ _ _ _ _ c.self.invariant c.partition_point-taken.result bound _ in
    numbers_self _ _ _ _ stands _ (c.deref-2.ensures.value ∙ c.self.invariant.numbers_are)

pub advance-requires-clause-from : goal.advance-requires-clause-from
advance-requires-clause-from g c =
    let bound : c.partition_point-taken.result ≤ length c.self.inside.numbers.items = omega (arith, c.partition_point-taken.ensures.bound, ap length c.deref.ensures.value) in
    stands_self _ _ _ _ (c.in_ok-stock.ensures ∙ c.index.ensures ∙ copy_stands _ _ _ _ _ c.self.invariant c.partition_point-taken.result bound _)

pub returns : goal.returns
returns g c =
    let inside = c.self.inside in
    let day = inside.day.now.payloads in
    let bound : c.partition_point-taken.result ≤ length c.self.inside.numbers.items = omega (arith, c.partition_point-taken.ensures.bound, ap length c.deref.ensures.value) in
    let stands = c.in_ok-stock.ensures ∙ c.index.ensures ∙ copy_stands _ _ _ _ _ c.self.invariant c.partition_point-taken.result bound _ in
    let until : c.args.n ≤ length day = omega (arith, c.requires, ap (λ (t : Tracked). length t.day) c.self.view_is) in
    let own = c.deref.ensures.value ∙ c.self.invariant.numbers_are in
    let parted = rw (← own) at (own_parted day inside.locate c.args.n until) in
    let point = IsPartitionPoint-from_clause (λ m. leb m c.args.n) _ _ c.partition_point-taken.ensures.partitioned parted (λ a r q k. search rules) in
    let found = own_found day inside.locate c.args.n until c.partition_point-taken.result (rw own at c.partition_point-taken.ensures.bound) (rw own at point) in
    c.in_ok-advance.ensures
    ∙ ap (λ l. machine_after_own day l c.partition_point-taken.result) (locate_is _ _ _ _ stands)
    ∙ machine_at day inside.locate c.args.n c.partition_point-taken.result found
    ∙ ap (λ (t : Tracked). machine_of t.day t.locate c.args.n) c.self.view_is

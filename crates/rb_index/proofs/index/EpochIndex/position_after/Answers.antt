use Rattle.std.proofs.Common.{◌∙◌, ◌≡◌, leb, ap, take, sym, subst, rules, Some, None, List}
use Rattle.std.proofs.lemmas.List.Sorted.{IsPartitionPoint-from_clause, IsPartitionedBy-leb}
use Rattle.rb_base.specs.declared.body.IndexRow.{IndexRow}
use Rattle.rb_log_defs.specs.Index.{position_after}
use Rattle.rb_device_defs.specs.Index.{NeverFall}
use Rattle.rb_index.proofs.SearchLaws.{position_found}
use Rattle.rb_index.proofs.index.EpochIndex.position_after.Goals as goal

pub returns-in-Some : goal.returns-in-Some
returns-in-Some c =
    let rows = c.deref.result.now in
    let parted = IsPartitionedBy-leb (λ row. row.epoch.0) rows c.args.epoch.0 (subst NeverFall (sym c.deref.ensures.value) c.self.invariant) in
    let point = IsPartitionPoint-from_clause (λ row. leb row.epoch.0 c.args.epoch.0) rows c.partition_point-later.result c.partition_point-later.ensures.partitioned parted (λ a r q k. search rules) in
    let found : take c.partition_point-later.result c.deref-2.result.now ≡ take c.partition_point-later.result rows = ap (take c.partition_point-later.result) (c.deref-2.ensures.value ∙ sym c.deref.ensures.value) in
    position_found rows _ c.args.epoch.0 c.partition_point-later.result (Some c.in-Some.row.now) point c.partition_point-later.ensures.bound found c.in-Some.ensures.value
    ∙ ap (λ (rows : List IndexRow). position_after rows c.args.epoch.0) (c.deref.ensures.value ∙ c.self.view_is)

pub returns-in-None : goal.returns-in-None
returns-in-None c =
    let rows = c.deref.result.now in
    let parted = IsPartitionedBy-leb (λ row. row.epoch.0) rows c.args.epoch.0 (subst NeverFall (sym c.deref.ensures.value) c.self.invariant) in
    let point = IsPartitionPoint-from_clause (λ row. leb row.epoch.0 c.args.epoch.0) rows c.partition_point-later.result c.partition_point-later.ensures.partitioned parted (λ a r q k. search rules) in
    let found : take c.partition_point-later.result c.deref-2.result.now ≡ take c.partition_point-later.result rows = ap (take c.partition_point-later.result) (c.deref-2.ensures.value ∙ sym c.deref.ensures.value) in
    position_found rows _ c.args.epoch.0 c.partition_point-later.result None point c.partition_point-later.ensures.bound found c.in-None.ensures.value
    ∙ ap (λ (rows : List IndexRow). position_after rows c.args.epoch.0) (c.deref.ensures.value ∙ c.self.view_is)

use Rattle.std.proofs.Common.{rules, of_calls, ltb}
use Rattle.std.proofs.lemmas.List.Sorted.{IsPartitionedBy-ltb, IsPartitionPoint-from_clause}
use Rattle.tau_layout.specs.declared.columns.Column.{Column}
use Rattle.tau_layout.specs.Inner.Laying.{lanes_of}
use Rattle.tau_drawing.proofs.BandLemmas.{rises, columns_rise, parted}
use Rattle.tau_drawing.proofs.lanes.nodes.lanes_before.Goals as goal

pub returns : goal.returns
returns c =
    let columns = c.args.columns.now in
    let node = c.args.node in
    let by_node = IsPartitionedBy-ltb (λ (x : Column). x.node) columns node (columns_rise columns (rises (lanes_of columns) c.requires)) in
    parted node columns c.partition_point.result c.partition_point.ensures.bound
    (IsPartitionPoint-from_clause (λ (x : Column). ltb x.node node) columns c.partition_point.result c.partition_point.ensures.partitioned by_node (λ a r f k. search (rules, of_calls)))

use Rattle.std.proofs.Common.{leb, leb-true, arith, rules}
use Rattle.wc_model.proofs.Common.{leb-false, IsPartitionPoint-from_clause, IsPartitionedBy-leb}
use Rattle.wc_names.specs.declared.variable.Variable.{Variable as Row}
use Rattle.wc_names.proofs.carry.count_at_or_before.Goals as goal

pub returns-clause-before : goal.returns-clause-before
returns-clause-before c = λ rise k d h.
    let parted = IsPartitionedBy-leb (λ (row : Row). row.first) c.args.rows.now c.args.number rise in
    let point = IsPartitionPoint-from_clause (λ (row : Row). leb row.first c.args.number) _ _ c.partition_point.ensures.partitioned parted (λ a r q k. search rules) in
    leb-true _ _ (point.0 k d (omega arith) h)

pub returns-clause-following : goal.returns-clause-following
returns-clause-following c = λ rise k d h l.
    let parted = IsPartitionedBy-leb (λ (row : Row). row.first) c.args.rows.now c.args.number rise in
    let point = IsPartitionPoint-from_clause (λ (row : Row). leb row.first c.args.number) _ _ c.partition_point.ensures.partitioned parted (λ a r q k. search rules) in
    leb-false _ _ (point.1 k d h l)

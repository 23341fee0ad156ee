use Rattle.wc_model.proofs.Common.{ltb, arith, rules, ltb-true, ltb-false, IsPartitionPoint-from_clause, IsPartitionedBy-ltb}
use Rattle.wc_view_trace_rows.specs.declared.notes.Note.{Note}
use Rattle.wc_view_trace_rows.proofs.notes.count_before.Goals as goal

pub returns-clause-before : goal.returns-clause-before
returns-clause-before c = λ rise k d h.
    let parted = IsPartitionedBy-ltb (λ (note : Note). note.line) c.args.notes.now c.args.line rise in
    let point = IsPartitionPoint-from_clause (λ (note : Note). ltb note.line c.args.line) _ _ c.partition_point.ensures.partitioned parted (λ a r q k. search rules) in
    ltb-true _ _ (point.0 k d (omega arith) h)

pub returns-clause-from : goal.returns-clause-from
returns-clause-from c = λ rise k d h l.
    let parted = IsPartitionedBy-ltb (λ (note : Note). note.line) c.args.notes.now c.args.line rise in
    let point = IsPartitionPoint-from_clause (λ (note : Note). ltb note.line c.args.line) _ _ c.partition_point.ensures.partitioned parted (λ a r q k. search rules) in
    ltb-false _ _ (point.1 k d h l)

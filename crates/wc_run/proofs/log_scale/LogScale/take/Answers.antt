use Rattle.std.proofs.Common.{◌≡◌, [], None, ap, subst, to_z, of_z, w32, arith, IfErr}
use Rattle.std.proofs.lemmas.Int.{ints}
use Rattle.wc_model.specs.Run.Rows.{Bytes, Change, Counts, Inputs, Scan}
use Rattle.wc_record.specs.Views.{head_data_view, head_view, IsDataInRange}
use Rattle.wc_run.specs.Doing.{StopsAtRow, TakesRow}
use Rattle.wc_run.proofs.HandedOn.{no_success_of, no_success_on, propagated}
use Rattle.wc_run.proofs.ScaleRows.{gives_no_change, gives_no_counts, gives_no_inputs, items_at, lines_at, on_ok, runs_row, runs_this, stops_at, stops_for_memory, takes_row}
use Rattle.wc_run.proofs.log_scale.LogScale.take.Goals as goal

pub returns-in-Counts-clause-represents : goal.returns-in-Counts-clause-represents
returns-in-Counts-clause-represents g c =
    let range : IsDataInRange (Counts c.in-Counts.counts) = subst IsDataInRange (ap (head_data_view c.args.bytes.now) c.in-Counts.is) c.requires.in_range in
    let raw : to_z w32 (of_z w32 c.in-Counts.counts) ≡ c.in-Counts.counts = omega (arith, ints, range.0, range.1) in
    takes_row c.args.self.now c.take_sample.new.self c.args.bytes.now c.args.row (Counts c.in-Counts.counts) (ap (head_data_view c.args.bytes.now) c.in-Counts.is)
    (subst (λ counts. TakesRow c.args.self.now c.take_sample.new.self c.args.row.ms (Counts counts)) raw (c.take_sample.ensures.takes c.args.row.ms))

pub returns-in_ok-take_bytes-in-Bytes-clause-represents : goal.returns-in_ok-take_bytes-in-Bytes-clause-represents
returns-in_ok-take_bytes-in-Bytes-clause-represents g c =
    takes_row c.args.self.now c.take_bytes.new.self c.args.bytes.now c.args.row (Bytes c.args.bytes.now) (ap (head_data_view c.args.bytes.now) c.in-Bytes.is)
    (c.in_ok-take_bytes-in-Bytes.ensures.takes c.args.row.ms)

pub returns-in-Inputs-clause-represents : goal.returns-in-Inputs-clause-represents
returns-in-Inputs-clause-represents g c =
    takes_row c.args.self.now c.take_inputs.new.self c.args.bytes.now c.args.row (Inputs c.in-Inputs.inputs) (ap (head_data_view c.args.bytes.now) c.in-Inputs.is)
    (c.take_inputs.ensures.takes c.args.row.ms)

pub returns-in-Scan-clause-represents : goal.returns-in-Scan-clause-represents
returns-in-Scan-clause-represents g c =
    on_ok _ c.take_scan.result
    (takes_row c.args.self.now c.take_scan.new.self c.args.bytes.now c.args.row Scan (ap (head_data_view c.args.bytes.now) c.in-Scan.is) c.take_scan.ensures.takes)

pub returns-in_ok-take_change-in-Change-clause-represents : goal.returns-in_ok-take_change-in-Change-clause-represents
returns-in_ok-take_change-in-Change-clause-represents g c =
    takes_row c.args.self.now c.take_change.new.self c.args.bytes.now c.args.row Change (ap (head_data_view c.args.bytes.now) c.in-Change.is)
    (c.in_ok-take_change-in-Change.ensures.takes c.args.row.ms)

pub returns-in-Scan-clause-items : goal.returns-in-Scan-clause-items
returns-in-Scan-clause-items g c =
    items_at c.args.self.now c.args.bytes.now c.args.row Scan c.take_scan.result (ap (head_data_view c.args.bytes.now) c.in-Scan.is) c.take_scan.ensures.items

pub returns-in-Counts-clause-runs : goal.returns-in-Counts-clause-runs
returns-in-Counts-clause-runs g c = runs_row c.args.self.now c.args.bytes.now c.args.row (Counts c.in-Counts.counts) (ap (head_data_view c.args.bytes.now) c.in-Counts.is) tt

pub returns-in_ok-take_bytes-in-Bytes-clause-runs : goal.returns-in_ok-take_bytes-in-Bytes-clause-runs
returns-in_ok-take_bytes-in-Bytes-clause-runs g c = runs_row c.args.self.now c.args.bytes.now c.args.row (Bytes c.args.bytes.now) (ap (head_data_view c.args.bytes.now) c.in-Bytes.is) tt

pub returns-in-Inputs-clause-runs : goal.returns-in-Inputs-clause-runs
returns-in-Inputs-clause-runs g c = runs_row c.args.self.now c.args.bytes.now c.args.row (Inputs c.in-Inputs.inputs) (ap (head_data_view c.args.bytes.now) c.in-Inputs.is) tt

pub returns-in-Scan-clause-runs : goal.returns-in-Scan-clause-runs
returns-in-Scan-clause-runs g c =
    on_ok _ c.take_scan.result (runs_row c.args.self.now c.args.bytes.now c.args.row Scan (ap (head_data_view c.args.bytes.now) c.in-Scan.is) tt)

pub returns-in_ok-take_change-in-Change-clause-runs : goal.returns-in_ok-take_change-in-Change-clause-runs
returns-in_ok-take_change-in-Change-clause-runs g c =
    runs_this c.args.self.now c.args.bytes.now c.args.row Change (ap (head_data_view c.args.bytes.now) c.in-Change.is) (c.in_ok-take_change-in-Change.ensures.runs c.args.row.ms)

pub returns-in-Scan-clause-stops : goal.returns-in-Scan-clause-stops
returns-in-Scan-clause-stops g c = stops_for_memory c.args.self.now (head_view c.args.bytes.now c.args.row) c.take_scan.result c.take_scan.ensures.memory

pub returns-in_err-take_change-in-Change-clause-stops : goal.returns-in_err-take_change-in-Change-clause-stops
returns-in_err-take_change-in-Change-clause-stops g c =
    let fault = c.in_err-take_change-in-Change.field-0.0 in
    propagated (λ result. IfErr result (λ why. StopsAtRow c.args.self.now (head_view c.args.bytes.now c.args.row) why)) fault c.from_residual-in_err-take_change-in-Change.result c.from_residual-in_err-take_change-in-Change.ensures
    (stops_at c.args.self.now c.args.bytes.now c.args.row Change fault (ap (head_data_view c.args.bytes.now) c.in-Change.is)
    (c.in_err-take_change-in-Change.ensures.stops c.args.row.ms))

pub returns-in-Counts-clause-lines : goal.returns-in-Counts-clause-lines
returns-in-Counts-clause-lines g c =
    lines_at c.args.self.now c.args.bytes.now c.args.row (Counts c.in-Counts.counts) c.clear.new.self.items [] None (ap (head_data_view c.args.bytes.now) c.in-Counts.is) c.clear.ensures.items (gives_no_counts c.args.self.now c.args.row.ms c.in-Counts.counts)

pub returns-in-Inputs-clause-lines : goal.returns-in-Inputs-clause-lines
returns-in-Inputs-clause-lines g c =
    lines_at c.args.self.now c.args.bytes.now c.args.row (Inputs c.in-Inputs.inputs) c.clear.new.self.items [] None (ap (head_data_view c.args.bytes.now) c.in-Inputs.is) c.clear.ensures.items (gives_no_inputs c.args.self.now c.args.row.ms c.in-Inputs.inputs)

pub returns-in_ok-take_change-in-Change-clause-lines : goal.returns-in_ok-take_change-in-Change-clause-lines
returns-in_ok-take_change-in-Change-clause-lines g c =
    lines_at c.args.self.now c.args.bytes.now c.args.row Change c.clear.new.self.items [] None (ap (head_data_view c.args.bytes.now) c.in-Change.is) c.clear.ensures.items (gives_no_change c.args.self.now c.args.row.ms)

pub returns-in_err-take_bytes-in-Bytes-clause-represents : goal.returns-in_err-take_bytes-in-Bytes-clause-represents
returns-in_err-take_bytes-in-Bytes-clause-represents g c = no_success_on c.in_err-take_bytes-in-Bytes.field-0.0 c.from_residual.result c.from_residual.ensures _

pub returns-in_err-take_bytes-in-Bytes-clause-runs : goal.returns-in_err-take_bytes-in-Bytes-clause-runs
returns-in_err-take_bytes-in-Bytes-clause-runs g c = no_success_on c.in_err-take_bytes-in-Bytes.field-0.0 c.from_residual.result c.from_residual.ensures _

pub returns-in_err-take_bytes-in-Bytes-clause-in_order : goal.returns-in_err-take_bytes-in-Bytes-clause-in_order
returns-in_err-take_bytes-in-Bytes-clause-in_order g c = no_success_on c.in_err-take_bytes-in-Bytes.field-0.0 c.from_residual.result c.from_residual.ensures _

pub returns-in_err-take_bytes-in-Bytes-clause-lines : goal.returns-in_err-take_bytes-in-Bytes-clause-lines
returns-in_err-take_bytes-in-Bytes-clause-lines g c = no_success_of c.in_err-take_bytes-in-Bytes.field-0.0 c.from_residual.result c.from_residual.ensures _

pub returns-in_err-take_bytes-in-Bytes-clause-items : goal.returns-in_err-take_bytes-in-Bytes-clause-items
returns-in_err-take_bytes-in-Bytes-clause-items g c = no_success_of c.in_err-take_bytes-in-Bytes.field-0.0 c.from_residual.result c.from_residual.ensures _

pub returns-in_err-take_bytes-in-Bytes-clause-looked : goal.returns-in_err-take_bytes-in-Bytes-clause-looked
returns-in_err-take_bytes-in-Bytes-clause-looked g c = no_success_of c.in_err-take_bytes-in-Bytes.field-0.0 c.from_residual.result c.from_residual.ensures _

pub returns-in_err-take_change-in-Change-clause-represents : goal.returns-in_err-take_change-in-Change-clause-represents
returns-in_err-take_change-in-Change-clause-represents g c = no_success_on c.in_err-take_change-in-Change.field-0.0 c.from_residual-in_err-take_change-in-Change.result c.from_residual-in_err-take_change-in-Change.ensures _

pub returns-in_err-take_change-in-Change-clause-runs : goal.returns-in_err-take_change-in-Change-clause-runs
returns-in_err-take_change-in-Change-clause-runs g c = no_success_on c.in_err-take_change-in-Change.field-0.0 c.from_residual-in_err-take_change-in-Change.result c.from_residual-in_err-take_change-in-Change.ensures _

pub returns-in_err-take_change-in-Change-clause-in_order : goal.returns-in_err-take_change-in-Change-clause-in_order
returns-in_err-take_change-in-Change-clause-in_order g c = no_success_on c.in_err-take_change-in-Change.field-0.0 c.from_residual-in_err-take_change-in-Change.result c.from_residual-in_err-take_change-in-Change.ensures _

pub returns-in_err-take_change-in-Change-clause-lines : goal.returns-in_err-take_change-in-Change-clause-lines
returns-in_err-take_change-in-Change-clause-lines g c = no_success_of c.in_err-take_change-in-Change.field-0.0 c.from_residual-in_err-take_change-in-Change.result c.from_residual-in_err-take_change-in-Change.ensures _

pub returns-in_err-take_change-in-Change-clause-items : goal.returns-in_err-take_change-in-Change-clause-items
returns-in_err-take_change-in-Change-clause-items g c = no_success_of c.in_err-take_change-in-Change.field-0.0 c.from_residual-in_err-take_change-in-Change.result c.from_residual-in_err-take_change-in-Change.ensures _

pub returns-in_err-take_change-in-Change-clause-looked : goal.returns-in_err-take_change-in-Change-clause-looked
returns-in_err-take_change-in-Change-clause-looked g c = no_success_of c.in_err-take_change-in-Change.field-0.0 c.from_residual-in_err-take_change-in-Change.result c.from_residual-in_err-take_change-in-Change.ensures _

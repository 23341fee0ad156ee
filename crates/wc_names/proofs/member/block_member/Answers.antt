use Rattle.wc_model.proofs.Common.{Some, option_map, ap, sym, ◌∙◌, slice_get}
use Rattle.wc_model.specs.Language.Names.{name_of}
use Rattle.wc_names.specs.Members.{found_seen, row_seen}
use Rattle.wc_names.proofs.Lookups.{named_rows}
use Rattle.wc_names.proofs.member.block_member.Goals as goal

pub returns-clause-seen : goal.returns-clause-seen
returns-clause-seen c = λ before u h e.
    let row = sym (c.row.ensures h.table (ap (slice_get c.args.units.now) e ∙ h.there) (named_rows c.args.units.now before u h)) ∙ c.in_ok-row.was in
    (λ i. Some (record { section = c.in_ok-row.row.section; kind = c.kind_of.ensures i })) ∙ sym (ap (option_map row_seen) row)

pub returns-clause-place : goal.returns-clause-place
returns-clause-place c = λ before u h e.
    c.number_after.ensures before u h (name_of c.args.name.now) (sym (c.row.ensures h.table (ap (slice_get c.args.units.now) e ∙ h.there) (named_rows c.args.units.now before u h)) ∙ c.in_ok-row.was)

pub returns-in_err-row-clause-seen : goal.returns-in_err-row-clause-seen
returns-in_err-row-clause-seen c = λ before u h e.
    ap (option_map found_seen) c.from_residual.ensures ∙ ap (option_map row_seen) (sym c.in_err-row.was ∙ c.row.ensures h.table (ap (slice_get c.args.units.now) e ∙ h.there) (named_rows c.args.units.now before u h))

use Rattle.std.proofs.Common.{◌≡◌, true, sym, ◌∙◌}
use Rattle.wc_model.specs.Definitions.{name_of, text_view}
use Rattle.wc_model.specs.Language.Store as store
use Rattle.wc_names.proofs.HandedOn.{on_ok}
use Rattle.wc_view_changes.specs.{has_shape, Plain, side_initial}
use Rattle.wc_view_changes.proofs.Others.{first_there}
use Rattle.wc_view_changes.proofs.describing.describe_first.Goals as goal

pub returns-clause-note : goal.returns-clause-note
returns-clause-note c =
    let n = name_of c.args.path.1.now in
    let content = store.Plain c.in-Plain.value in
    let is_true : c.is_kept.result ≡ true = cc in
    let kept : has_shape c.args.there.declared (Plain c.in-Plain.kind content) ≡ true = rw c.in-Plain.is at (sym c.is_kept.ensures ∙ is_true) in
    on_ok c.put_note.result
    (λ w side h e.
    let first = first_there (text_view c.args.texts.other.now.source) c.args.there.unit side n c.args.there.declared c.in-Plain.kind content h e kept in
    let before = c.first_value-before.ensures (side_initial side n) (c.other_literal.ensures side h) in
    rw (c.in-Plain.is, kept, ← first, ← before) w)
    (c.put_note.ensures.note c.in-Plain.kind)

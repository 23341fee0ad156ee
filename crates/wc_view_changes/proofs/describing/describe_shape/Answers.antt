use Rattle.std.proofs.Common.{◌++◌, None, append-nil, false, ap, sym, ◌∙◌}
use Rattle.wc_model.specs.Definitions.{name_of, text_view}
use Rattle.wc_names.proofs.HandedOn.{on_ok}
use Rattle.wc_view_changes.specs.{line_text, shape_view}
use Rattle.wc_view_changes.proofs.Others.{line_there}
use Rattle.wc_view_changes.proofs.describing.describe_shape.Goals as goal

-- a variable of the new text that keeps its value
pub returns-in-New-clause-line : goal.returns-in-New-clause-line
returns-in-New-clause-line c =
    on_ok c.put_kept.result (λ w side h e. rw (c.in-New.is, sym c.is_kept.ensures ∙ c.if-is_kept.true) w) (c.put_kept.ensures.line (shape_view c.args.shape) None)

-- one that begins with its first value
pub returns-in-New-2-clause-line : goal.returns-in-New-2-clause-line
returns-in-New-2-clause-line c =
    on_ok c.put_first.result
    (λ w side h e.
    let n = name_of c.args.path.1.now in
    rw (c.in-New-2.is, sym c.is_kept.ensures ∙ c.if-is_kept.false)
    (w ∙ ap (λ was. c.args.out.now.items ++ line_text false (c.args.path.0.now ++ c.args.path.1.now) (shape_view c.args.shape) was)
    (c.type_text-was.ensures c.args.there.unit side n h e)))
    c.put_first.ensures.0

-- one of the old text that is not lost
pub returns-in-Old-clause-line : goal.returns-in-Old-clause-line
returns-in-Old-clause-line c = λ side h e.
    rw (
      c.in-Old.is,
      line_there (text_view c.args.texts.other.now.source) c.args.there.unit side (name_of c.args.path.1.now) c.args.there.declared h e ∙ sym c.is_line.ensures ∙ c.if-is_line.true,
    ) (sym (append-nil c.args.out.now.items))

-- one that is lost
pub returns-in-Old-2-clause-line : goal.returns-in-Old-2-clause-line
returns-in-Old-2-clause-line c =
    on_ok c.put_lost.result
    (λ w side h e. rw (
      c.in-Old-2.is,
      line_there (text_view c.args.texts.other.now.source) c.args.there.unit side (name_of c.args.path.1.now) c.args.there.declared h e ∙ sym c.is_line.ensures ∙ c.if-is_line.false,
    ) w)
    c.put_lost.ensures.0

pub returns-in-Notes-clause-line : goal.returns-in-Notes-clause-line
returns-in-Notes-clause-line c = on_ok c.describe_first.result (λ w side h e. rw c.in-Notes.is (w side h e)) c.describe_first.ensures.note

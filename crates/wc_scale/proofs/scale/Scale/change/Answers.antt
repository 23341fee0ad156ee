use Rattle.wc_model.specs.Language.Views.{text_view}
use Rattle.wc_scale.proofs.Opened.{is_changed}
use Rattle.wc_scale.proofs.Refusing.{has_a_program, refuses_change}
use Rattle.wc_scale.proofs.scale.Scale.change.Goals as goal

pub returns-in-Ok-change-clause-taken : goal.returns-in-Ok-change-clause-taken
returns-in-Ok-change-clause-taken c = λ done.
    record {
      text = text_view c.in-Ok.loaded.source;
      loaded = c.in-Ok.ensures.loaded;
      small = c.in-Ok.ensures.small;
      accepted = c.in-Ok.ensures.accepted;
      changed = is_changed c.args.self.now c.in-Some.opened c.change.new.self (text_view c.in-Ok.loaded.source) c.in-Some.is c.in-Ok-change.ensures.changed;
    }

pub returns-in-Err-clause-refused : goal.returns-in-Err-clause-refused
returns-in-Err-clause-refused c =
    refuses_change c.args.self.now c.in-Some.opened c.args.text.now c.in-Err.fault c.of_fault.result c.in-Some.is
    (has_a_program c.in-Some.opened.machine c.has_program.result c.has_program.ensures c.if-not-has_program.false) c.in-Err.ensures.refused c.in-Err.ensures.only c.of_fault.ensures

use Rattle.wc_model.specs.Language.Names.{name_of}
use Rattle.wc_diag_warnings.proofs.NameSets.{among_added}
use Rattle.wc_diag_warnings.proofs.used.add.Goals as goal

pub returns-in-Ok : goal.returns-in-Ok
returns-in-Ok c = record {
  added = λ other.
      rw c.in-Some.is (among_added c.in-Ok.field-0 c.args.names.now c.add.new.self (name_of c.in-Some.name.now) other c.in-Ok.ensures.new c.in-Ok.ensures.names);
}

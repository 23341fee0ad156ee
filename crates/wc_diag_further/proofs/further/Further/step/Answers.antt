use Rattle.std.proofs.Common.{refl, rules}
use Rattle.wc_diag_further.proofs.Mended.{mended_then}
use Rattle.wc_diag_further.proofs.Steps.{from_not}
use Rattle.wc_diag_further.proofs.further.Further.step.Goals as goal

pub returns-in_default-clause-mended : goal.returns-in_default-clause-mended
returns-in_default-clause-mended c = record { kind = refl; text = (from_not c.args.self.now).text }

pub returns-in_default-found : goal.returns-in_default-found
returns-in_default-found c = record {
  mended = record {
    kind = refl;
    text = mended_then _ _ _ _ _ _ c.blank_each.auto.text c.deref_mut.ensures.len c.deref_mut.ensures.value c.blank_each.ensures c.in_ok-mend.ensures;
  };
  found = search rules;
}

pub returns-clause-mended : goal.returns-clause-mended
returns-clause-mended c = record {
  kind = refl;
  text = mended_then _ _ _ _ _ _ c.blank_each.auto.text c.deref_mut.ensures.len c.deref_mut.ensures.value c.blank_each.ensures c.in_ok-mend.ensures;
}

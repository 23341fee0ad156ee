use Rattle.std.proofs.Common.{Option, option_map, length, refl, sym, subst}
use Rattle.wc_model.specs.Language.Views.{word_view}
use Rattle.wc_model.specs.declared.operand.Word.{Word}
use Rattle.wc_verify.proofs.InstrLines.{view_instr, view_none}
use Rattle.wc_verify.specs.Instructions.{instr_line}
use Rattle.wc_cost.specs.{IsLowerable, AddsLine, HoldsLabels, IsKeptFlat, KeepsLabel}
use Rattle.wc_cost.proofs.CallsLowered.{on_ok}
use Rattle.wc_cost.proofs.LabelsLowered.{label_kept, lowerable_put, line_kept}
use Rattle.wc_verify.proofs.BodyLines.{label_kept as label_instr}
use Rattle.wc_cost.proofs.body.put_line.Goals as goal
use Rattle.wc_cost.proofs.body.put_line.Goals.{in-Some+in_ok-put_instr, in_default}

pub returns-in-Some-label : goal.returns-in-Some-label
returns-in-Some-label c = elim c.match-line.branch [
  | in-Some+in_ok-put_instr w ↦ on_ok c.set.result
      (λ said scope rest is may kept.
      let keeps = subst (λ (o : Option Word). KeepsLabel (option_map word_view o) c.len-in-Some-label.result c.args.labels.now c.set.new.self) (sym c.in-Some-label.is) said in
      let label = option_map word_view c.args.line.now.label in
      let line = instr_line w.in-Some.instr label in
      let seen = view_instr c.args.line.now w.in-Some.instr rest w.in-Some.is in
      let here = lowerable_put scope line rest (subst (IsLowerable scope) seen may) in
      let far = w.label_skip-skip.ensures rest scope label (subst (HoldsLabels c.args.labels.now rest) (sym w.len.ensures) kept.1) here.0 in
      let keeps_own = subst (λ l. KeepsLabel l (length c.match-line.flat.code) c.args.labels.now c.set.new.self) (sym (label_instr w.in-Some.instr label)) (subst (λ n. KeepsLabel label n c.args.labels.now c.set.new.self) c.len-in-Some-label.ensures keeps) in
      subst (λ ls. IsKeptFlat scope ls c.set.new.self c.match-line.flat) (sym seen)
      (line_kept scope rest line c.args.labels.now c.set.new.self c.args.flat.now c.match-line.flat (subst (AddsLine scope rest line c.args.flat.now) (sym w.flat-is) (w.in_ok-put_instr.ensures scope rest label is far)) keeps_own kept))
      c.set.ensures
  | in_default w ↦ on_ok c.set.result
      (λ said scope rest is may kept.
      let keeps = subst (λ (o : Option Word). KeepsLabel (option_map word_view o) c.len-in-Some-label.result c.args.labels.now c.set.new.self) (sym c.in-Some-label.is) said in
      let label = option_map word_view c.args.line.now.label in
      let keeps_own = subst (λ n. KeepsLabel label n c.args.labels.now c.set.new.self) c.len-in-Some-label.ensures keeps in
      subst (λ ls. IsKeptFlat scope ls c.set.new.self c.match-line.flat) (sym (view_none c.args.line.now rest w.in_default.is))
      (label_kept scope rest label c.args.labels.now c.set.new.self c.match-line.flat keeps_own (subst (IsKeptFlat scope rest c.args.labels.now) (sym w.flat-is) kept)))
      c.set.ensures
]

pub returns-in-None : goal.returns-in-None
returns-in-None c = elim c.match-line.branch [
  | in-Some+in_ok-put_instr w ↦ (λ scope rest is may kept.
      let label = option_map word_view c.args.line.now.label in
      let line = instr_line w.in-Some.instr label in
      let seen = view_instr c.args.line.now w.in-Some.instr rest w.in-Some.is in
      let here = lowerable_put scope line rest (subst (IsLowerable scope) seen may) in
      let far = w.label_skip-skip.ensures rest scope label (subst (HoldsLabels c.args.labels.now rest) (sym w.len.ensures) kept.1) here.0 in
      let keeps_own = subst (λ l. KeepsLabel l (length c.match-line.flat.code) c.args.labels.now c.args.labels.now) (sym (label_instr w.in-Some.instr label)) (subst (λ (o : Option Word). KeepsLabel (option_map word_view o) (length c.match-line.flat.code) c.args.labels.now c.args.labels.now) (sym c.in-None.is) refl) in
      subst (λ ls. IsKeptFlat scope ls c.args.labels.now c.match-line.flat) (sym seen)
      (line_kept scope rest line c.args.labels.now c.args.labels.now c.args.flat.now c.match-line.flat (subst (AddsLine scope rest line c.args.flat.now) (sym w.flat-is) (w.in_ok-put_instr.ensures scope rest label is far)) keeps_own kept))
  | in_default w ↦ (λ scope rest is may kept.
      let label = option_map word_view c.args.line.now.label in
      let keeps_own = subst (λ (o : Option Word). KeepsLabel (option_map word_view o) (length c.match-line.flat.code) c.args.labels.now c.args.labels.now) (sym c.in-None.is) refl in
      subst (λ ls. IsKeptFlat scope ls c.args.labels.now c.match-line.flat) (sym (view_none c.args.line.now rest w.in_default.is))
      (label_kept scope rest label c.args.labels.now c.args.labels.now c.match-line.flat keeps_own (subst (IsKeptFlat scope rest c.args.labels.now) (sym w.flat-is) kept)))
]

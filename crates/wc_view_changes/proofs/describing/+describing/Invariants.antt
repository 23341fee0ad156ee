use Rattle.wc_model.proofs.Common.{◌≡◌, ◌*◌, ◌+◌, ◌++◌, List, Option, take, flat_map}
use Rattle.wc_model.specs.Definitions.{Scope, text_view}
use Rattle.wc_model.specs.declared.operand.Word.{Word}
use Rattle.wc_model.specs.declared.source.Decl.{Decl}
use Rattle.wc_model.specs.declared.source.Unit.{Unit as CodeUnit}
use Rattle.wc_view_changes.specs.{declared_in, IsAt, IsSide, lines_between, variable_lines}
use Rattle.wc_view_changes.proofs.describing.+describing.Given as goal

abbrev pub decreases-describe_variable : goal.decreases-describe_variable
decreases-describe_variable l = 3 * l.units.unit

abbrev pub decreases-describe_declaration : goal.decreases-describe_declaration
decreases-describe_declaration l = 3 * l.units.unit + 1

abbrev pub decreases-describe_unit : goal.decreases-describe_unit
decreases-describe_unit l = 3 * l.units.unit + 2

-- the lines of the names so far are written, and the names that lead to the unit are those of before
abbrev pub invariant-describe_declaration-loop-word : goal.invariant-describe_declaration-loop-word
invariant-describe_declaration-loop-word l = record {
  names : l.names.items ≡ l.fn.names.items;
  lines : (side : Option Scope) (before : List CodeUnit) (u : CodeUnit) → IsSide (text_view l.fn.texts.other.now.source) l.fn.units.other side → IsAt l.fn.texts.own.now.source l.fn.units.unit before u →
      l.out.items ≡ l.fn.out.items ++ flat_map (λ (w : Word). variable_lines l.fn.texts.pass side before u l.fn.names.items (record { name = w.text.now; initial = l.fn.declaration.initial })) (take l.word-index l.word-items);
}

-- the lines of the declarations so far are written, and the names that lead to the unit are those of before
abbrev pub invariant-describe_unit-loop-declaration : goal.invariant-describe_unit-loop-declaration
invariant-describe_unit-loop-declaration l = record {
  names : l.names.items ≡ l.fn.names.items;
  lines : (side : Option Scope) (before : List CodeUnit) (u : CodeUnit) → IsSide (text_view l.fn.texts.other.now.source) l.fn.units.other side → IsAt l.fn.texts.own.now.source l.fn.units.unit before u →
      l.out.items ≡ l.fn.out.items ++ flat_map (λ (d : Decl). lines_between l.fn.texts.pass side before u l.fn.names.items (declared_in d)) (take l.declaration-index l.declaration-items);
}

use Rattle.wc_model.proofs.Common.{◌≡◌, ◌++◌, map, drop, flat_map}
use Rattle.wc_model.specs.Definitions.{declared_by, declaration_view}
use Rattle.wc_diag_warnings.specs.{uses_view, warnings_view, declared_warnings}
use Rattle.wc_diag_warnings.proofs.declared.warn_declared.Given as goal

-- with the declarations that are left these are all
abbrev pub invariant-loop-declaration : goal.invariant-loop-declaration
invariant-loop-declaration l =
    warnings_view l.warnings.items ++ declared_warnings l.unit.kind (uses_view l.uses) (flat_map declared_by (map declaration_view (drop l.declaration-index l.unit.declarations.items)))
    ≡ warnings_view l.initial.warnings.items ++ declared_warnings l.unit.kind (uses_view l.uses) (flat_map declared_by (map declaration_view l.unit.declarations.items))

use Rattle.std.proofs.Common.{◌≡◌, ◌++◌, map, drop}
use Rattle.wc_diag_warnings.specs.{uses_view, variable_view, warnings_view, declared_warnings}
use Rattle.wc_diag_warnings.proofs.declared.warn_declaration.Given as goal

-- with the names that are left these are all
abbrev pub invariant-loop-word : goal.invariant-loop-word
invariant-loop-word l =
    warnings_view l.warnings.items ++ declared_warnings l.kind (uses_view l.uses) (map (variable_view l.declaration) (drop l.word-index l.declaration.names.items))
    ≡ warnings_view l.initial.warnings.items ++ declared_warnings l.kind (uses_view l.uses) (map (variable_view l.declaration) l.declaration.names.items)

use Rattle.std.proofs.Common.{◌≡◌, drop}
use Rattle.wc_model.specs.Language.Names.{name_of}
use Rattle.wc_view_changes.proofs.Initials.{initial_in}
use Rattle.wc_view_changes.proofs.shape.literal_in.Given as goal

-- none of the declarations so far has it
abbrev pub invariant-loop-declaration : goal.invariant-loop-declaration
invariant-loop-declaration l = initial_in (name_of l.fn.name) l.fn.unit.declarations.items ≡ initial_in (name_of l.fn.name) (drop l.declaration-index l.declaration-items)

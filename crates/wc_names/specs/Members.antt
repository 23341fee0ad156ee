-- The members of instances, by kind and section. (No rule of the language.)
use Rattle.std.specs.Prelude.{Option, Some, None}
use Rattle.wc_model.specs.declared.kind.Kind.{Kind}
use Rattle.wc_built_in.specs.Fields.{Seen}
use Rattle.wc_names.specs.declared.declared_type.DeclaredType.{DeclaredType}
use Rattle.wc_names.specs.declared.declared_type.DeclaredType.TheVariants.{Elementary, Standard, Block}
use Rattle.wc_names.specs.declared.member.Member.{Member}
use Rattle.wc_names.specs.declared.variable.Variable.{Variable as Row}

-- the kind of what has this type
abbrev pub kind_numbered : DeclaredType → Option Kind
kind_numbered (Elementary kind) = Some kind
kind_numbered (Standard block) = None
kind_numbered (Block number) = None

-- what a text sees of a member that is found, and of a variable of a block
abbrev pub found_seen : Member → Seen
found_seen m = record { section = m.section; kind = m.kind }

abbrev pub row_seen : Row → Seen
row_seen row = record { section = row.section; kind = kind_numbered row.declared }

-- Where the names of a path lead, unit by unit.
use Rattle.std.proofs.Common.{◌≡◌, ℕ, Bool, false, List, [], ◌∷◌, Option, Some, None, refl, sym, ap, length}
use Rattle.std.specs.Prelude.{option_and_then, option_map}
use Rattle.wc_cost.proofs.WholeTexts.{Last}
use Rattle.wc_model.specs.Definitions.{VariableType, Elementary, Standard, Block, block_named, Name, Scope, type_of, Path, ProgramUnit, Text}
use Rattle.wc_names.specs.Numbered.{IsUnit, numbered_type}
use Rattle.wc_names.specs.declared.declared_type.DeclaredType.{DeclaredType}
use Rattle.wc_names.specs.declared.declared_type.DeclaredType.TheVariants as numbered
use Rattle.wc_text_variables.proofs.BlockUnits.{block_unit}
use Rattle.wc_text_variables.specs.Names.{is_hidden, is_hidden_by, is_hidden_field, is_hidden_from}

-- from the unit of that number the names that are left are hidden if all names are
pub record Walks (text : Text) (unit : ℕ) (left : List Name) (whole : Bool) : Type 0 where
  pub scope : Scope
  pub is : IsUnit text unit scope
  pub same : is_hidden_from left scope.before scope.unit ≡ whole

-- it begins at the program
pub from_program : (text : Text) (n : ℕ) (last : Last text n) (names : List Name) → Walks text n names (is_hidden text (Path names))
from_program text n last names = record {
  scope = last.scope;
  is = last.is;
  same = ap (λ (units : List ProgramUnit). elim units as (λ x. Bool) [ program ∷ before ↦ is_hidden_from names before program | [] ↦ false ]) (sym last.reversed);
}

-- what a name leads to whose variable has this type: the walk goes on in a block of the text, and ends at all else
abbrev pub WalksOn : Text → List Name → Bool → Option DeclaredType → Type 0
WalksOn text left whole None = false ≡ whole
WalksOn text left whole (Some (numbered.Elementary kind)) = false ≡ whole
WalksOn text left whole (Some (numbered.Standard block)) = is_hidden_field block left ≡ whole
WalksOn text left whole (Some (numbered.Block number)) = Walks text number left whole

pub walk_on : (text : Text) (unit : ℕ) (name : Name) (left : List Name) (whole : Bool) (walks : Walks text unit (name ∷ left) whole)
    → WalksOn text left whole (option_and_then (numbered_type walks.scope.before) (type_of walks.scope name))
walk_on text unit name left whole walks = by (type_of walks.scope name) walks.same
  where
    into : (block : Name) (o : Option (ProgramUnit × List ProgramUnit)) → block_named walks.scope.before block ≡ o
        → (elim o as (λ x. Bool) [ Some found ↦ is_hidden_from left found.1 found.0 | None ↦ false ]) ≡ whole → WalksOn text left whole (option_map (λ found. numbered.Block (length found.1)) o)
    into block None is same = same
    into block (Some found) is same = record { scope = record { before = found.1; unit = found.0 }; is = block_unit text unit walks.scope block found.0 found.1 walks.is is; same = same }

    by : (type : Option VariableType) → is_hidden_by (is_hidden_from left) walks.scope.before type left ≡ whole → WalksOn text left whole (option_and_then (numbered_type walks.scope.before) type)
    by None same = same
    by (Some (Elementary kind)) same = same
    by (Some (Standard block)) same = same
    by (Some (Block block)) same = into block (block_named walks.scope.before block) refl same

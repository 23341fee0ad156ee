-- What is known of the unit that is looked at and of what its operands name, and what is kept while a call is checked. (No rule of the language.)
use Rattle.std.specs.Prelude.{◌≡◌, ℕ, Option, Some, None, is_some, Bool, true, false, List, ◌++◌}
use Rattle.std.specs.List.{list_any}
use Rattle.wc_model.specs.Definitions.{is_readable, is_writable, term_kind, Scope, entity_of, Term, Text, Assignment, is_among, same_name, Name, Check, Refusal, first_broken}
use Rattle.wc_names.specs.{IsUnit, AreTables}
use Rattle.wc_names.specs.declared.kept.Tables.{Tables}
use Rattle.wc_names.specs.declared.declared_type.DeclaredType.{DeclaredType}
use Rattle.wc_names.specs.declared.declared_type.DeclaredType.TheVariants.{Elementary, Standard, Block}
use Rattle.wc_verify.specs.declared.seen.OperandFacts.{OperandFacts}

-- the tables are those of a text, whose unit of that number is in this scope
pub record IsScope (tables : Tables) (unit : ℕ) (scope : Scope) : Type 0 where
  pub text : Text
  pub tables_are : AreTables tables text
  pub unit_is : IsUnit text unit scope

-- what is known of a term
pub record IsSeen (scope : Scope) (term : Term) (seen : OperandFacts) : Type 0 where
  pub known : is_some (entity_of scope term) ≡ seen.known
  pub readable : is_readable (entity_of scope term) ≡ seen.readable
  pub writable : is_writable (entity_of scope term) ≡ seen.writable
  pub kind : term_kind scope term ≡ seen.kind

-- and of one that may be left out
abbrev pub IsSeenIfAny : Scope → Option Term → Option OperandFacts → Type 0
IsSeenIfAny scope None None = Unit {0}
IsSeenIfAny scope (Some term) (Some seen) = IsSeen scope term seen
IsSeenIfAny scope None (Some seen) = ⊥
IsSeenIfAny scope (Some term) None = ⊥

-- the names are those of the inputs and outputs that are named so far
abbrev pub HoldsNames : List Name → List Assignment → Type 0
HoldsNames names before = (name : Name) → is_among names name ≡ list_any (λ a. same_name a.formal name) before

-- the type of an instance
abbrev pub is_numbered_instance : DeclaredType → Bool
is_numbered_instance (Elementary kind) = false
is_numbered_instance (Standard block) = true
is_numbered_instance (Block number) = true

-- a rule that is broken at the line, or else what comes first in the rest
abbrev pub first_at : Option ℕ → ℕ → Option Refusal → Option Refusal
first_at None line rest = rest
first_at (Some number) line rest = Some (record { number = number; line = line })

-- what is found of rules that are asked at one line
abbrev pub Finds : (ℕ → List Check) → Option ℕ → Type 0
Finds checks found = (line : ℕ) (rest : List Check) → first_broken (checks line ++ rest) ≡ first_at found line (first_broken rest)

-- What LD and an opening line ask of their operands.
use Rattle.std.proofs.Common.{◌≡◌, Bool, Option, Some, option_map, sym, subst}
use Rattle.wc_text_flat.specs.Lowered.{Operand, Number, At, IsOpening, IsOperand, IsStored}
use Rattle.wc_model.specs.Definitions.{Scope, term_view}
use Rattle.wc_model.specs.Language.Tree.{Term, Constant, Address, Variable, Field}
use Rattle.wc_model.specs.declared.code.Code.{Code}
use Rattle.wc_model.specs.declared.operand.Operand.{Operand as Spelled}
use Rattle.wc_cost.specs.Lowerable.{IsLoadable, IsNegatable, IsOpenable}

-- a term that LDN may load is an operand that it may
stored : (scope : Scope) (negated : Bool) (term : Term) (operand : Operand) → IsStored scope term operand → IsNegatable negated operand
stored scope negated term (Number n) h = absurd h
stored scope negated term (At place) h = tt

pub negatable : (scope : Scope) (negated : Bool) (term : Term) (operand : Operand) → IsOperand scope term operand → IsLoadable negated term → IsNegatable negated operand
negatable scope negated (Constant value) operand is h = subst (IsNegatable negated) (sym is) h
negatable scope negated (Address word) operand is h = stored scope negated (Address word) operand is
negatable scope negated (Variable name) operand is h = stored scope negated (Variable name) operand is
negatable scope negated (Field instance field) operand is h = stored scope negated (Field instance field) operand is

-- an opening line in the short form
pub opened : (scope : Scope) (o : Option Spelled) (operand : Spelled) (line : Code) → o ≡ Some operand → IsOpening scope (Some (term_view operand)) line → IsOpening scope (option_map term_view o) line
opened scope o operand line e h = subst (λ (x : Option Spelled). IsOpening scope (option_map term_view x) line) (sym e) h

pub openable : (scope : Scope) (o : Option Spelled) (operand : Spelled) → o ≡ Some operand → IsOpenable scope (option_map term_view o) → IsOpenable scope (Some (term_view operand))
openable scope o operand e h = subst (λ (x : Option Spelled). IsOpenable scope (option_map term_view x)) e h

-- A declared name is warned of exactly if what the warning says is so. (No rule of the language.)
use Rattle.std.proofs.Common.{arith, ◌≡◌, ℕ, Bool, true, false, List, Option, Some, None, is_some, codes, refl, subst}
use Rattle.wc_model.specs.Language.Declarations.{Variable, elementary_types, named_in, standard_blocks}
use Rattle.wc_model.specs.declared.kind.Kind.{Kind}
use Rattle.wc_model.specs.declared.source.Initial.{Initial}
use Rattle.wc_model.specs.declared.source.Section.{Section}
use Rattle.wc_model.specs.declared.source.Section.TheVariants.{Input, Output, Own}
use Rattle.wc_model.specs.declared.source.UnitKind.{UnitKind}
use Rattle.wc_model.specs.declared.source.UnitKind.TheVariants.{FunctionBlock, Program}
use Rattle.wc_diag_warnings.specs.{BodyEvent, IsPlain, IsInstance, IsAlone, of_var, of_program, IsWarned, unused, only_written, input_not_read, only_read, not_called, output_not_written, no_time, EachDeclaredWarningIsSo, is_called, is_given, is_read, is_written, declared_number, instance_number, is_timer, use_number, variable_number}

module _ (events : List BodyEvent) (v : Variable) where
  -- what a number says, if there is one
  abbrev Says : UnitKind → Option ℕ → Type 0
  Says kind None = Unit {0}
  Says kind (Some number) = IsWarned events v kind number

  -- of a variable that is used by its unit alone
  alone_so : (kind : UnitKind) (read written : Bool) (initial : Option Initial) → IsPlain v → IsAlone v kind →
      is_read events v.name ≡ read → is_written events v.name ≡ written → v.initial ≡ initial → Says kind (use_number read written (is_some initial))
  alone_so kind false false initial p a r w i = unused kind p a r w
  alone_so kind false true initial p a r w i = only_written kind p a r w
  alone_so kind true false None p a r w i = only_read kind p a r w i
  alone_so kind true false (Some first) p a r w i = tt
  alone_so kind true true initial p a r w i = tt

  -- of any variable
  plain_so : (kind : UnitKind) (section : Section) (read written : Bool) → IsPlain v → v.section ≡ section →
      is_read events v.name ≡ read → is_written events v.name ≡ written → Says kind (variable_number kind section (is_some v.initial) read written)
  plain_so FunctionBlock Input false written p s r w = input_not_read p s r
  plain_so FunctionBlock Input true written p s r w = tt
  plain_so FunctionBlock Output read false p s r w = output_not_written p s w
  plain_so FunctionBlock Output read true p s r w = tt
  plain_so FunctionBlock Own read written p s r w = alone_so FunctionBlock read written v.initial p (of_var FunctionBlock s) r w refl
  plain_so Program section read written p s r w = alone_so Program read written v.initial p of_program r w refl

  -- of an instance
  instance_so : (kind : UnitKind) (timer called given : Bool) → IsInstance v → is_timer (named_in standard_blocks v.type_name) ≡ timer →
      is_called events v.name ≡ called → is_given events v.name (codes "pt") ≡ given → Says kind (instance_number timer called given)
  instance_so kind timer false given i t c g = not_called kind i c
  instance_so kind true true false i t c g = no_time kind i t c g
  instance_so kind true true true i t c g = tt
  instance_so kind false true given i t c g = tt

  typed_so : (kind : UnitKind) (type : Option Kind) → named_in elementary_types v.type_name ≡ type → Says kind (declared_number kind events v)
  typed_so kind (Some type) t = rw t (plain_so kind v.section (is_read events v.name) (is_written events v.name) (type, t) refl refl refl)
  typed_so kind None t =
      rw t (instance_so kind (is_timer (named_in standard_blocks v.type_name)) (is_called events v.name) (is_given events v.name (codes "pt")) t refl refl refl)

  -- the number of a variable of VAR, and of one of the program
  alone_number : (kind : UnitKind) (first read written : Bool) → IsAlone v kind → variable_number kind v.section first read written ≡ use_number read written first
  alone_number kind first read written a = grind arith

  -- what is so is warned of
  warned : {kind : UnitKind} {number : ℕ} → IsWarned events v kind number → declared_number kind events v ≡ Some number
  warned (unused kind p a r w) = let own = alone_number kind (is_some v.initial) (is_read events v.name) (is_written events v.name) a in cc
  warned (only_written kind p a r w) = let own = alone_number kind (is_some v.initial) (is_read events v.name) (is_written events v.name) a in cc
  warned (only_read kind p a r w i) = let own = alone_number kind (is_some v.initial) (is_read events v.name) (is_written events v.name) a in cc
  warned (input_not_read p s r) = cc
  warned (not_called kind i c) = cc
  warned (output_not_written p s w) = cc
  warned (no_time kind i t c g) = cc

pub declared_so : EachDeclaredWarningIsSo
declared_so kind events v number =
    (λ e. subst (Says events v kind) e (typed_so events v kind (named_in elementary_types v.type_name) refl), λ w. warned events v w)

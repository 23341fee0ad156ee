use Rattle.std.proofs.Common.{◌≡◌, ◌∙◌, [], refl, subst, sym}
use Rattle.wc_laws_grammar.specs.Moves.{Raised, open_on}
use Rattle.wc_model.specs.declared.fault.Fault.{Fault}
use Rattle.wc_model.specs.declared.fault.Fault.TheVariants.{Memory, Refused}
use Rattle.wc_text_lines.specs.LineViews.{line_state_view}
use Rattle.wc_text_bodies.specs.Views.{fault_of, position_view}
use Rattle.wc_reader.proofs.ends.open_in_body.Goals as goal

pub returns-in-OnLine-clause-reported : goal.returns-in-OnLine-clause-reported
returns-in-OnLine-clause-reported c = λ units last.
    rw (c.in-OnLine.is, c.open_on.ensures units)
    (record { raised = open_on (position_view units c.args.body.now) (line_state_view c.in-OnLine.line); outcome_is = refl; number_is = refl; place_is = refl })

-- the fault is a refusal
abbrev IsRefusal : Fault → Type 0
IsRefusal Memory = ⊥
IsRefusal (Refused number place) = Unit {0}

-- what is found is reported as a refusal
raised_refuses : (raised : Raised) → fault_of raised ≡ Memory → ⊥
raised_refuses raised e = subst IsRefusal e tt

pub returns-in-OnLine-clause-refuses : goal.returns-in-OnLine-clause-refuses
returns-in-OnLine-clause-refuses c = λ memory.
    raised_refuses (open_on (position_view [] c.args.body.now) (line_state_view c.in-OnLine.line)) (sym (c.open_on.ensures []) ∙ memory)

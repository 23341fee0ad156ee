-- What is answered when a change of the program is looked at before it is made: the old program is read and checked, then the
-- new one; the lines of the new one's units are written, and after them what the change keeps and loses. (The profile's own.)
use Rattle.std.specs.Prelude.{◌≡◌, ⊤, ℕ, ◌++◌, Bool, List}
use Rattle.wc_view_changes.specs.ChangeReport.{change_report}
use Rattle.wc_controller.specs.Files.{AnswersFile}
use Rattle.wc_model.specs.Definitions.{Text, text_view, AnswersProgram, JobAnswer, IsUnitReport}
use Rattle.wc_model.specs.declared.source.Source.{Source}
use Rattle.wc_run.specs.declared.fault.RunFault.{RunFault}
use Rattle.wc_run.specs.declared.fault.RunFault.TheVariants.{Write, Memory}

-- the lines of the new program's units, and what a change from the old one keeps and loses
pub record IsPreview (paths : Bool) (old new : Source) (answer : JobAnswer) : Type 0 where
  pub report : List ℕ
  pub units : IsUnitReport paths (text_view new) report
  pub answer_is : answer ≡ record { output = report ++ change_report old new; status = 0 }

-- A text that is loaded has a tree that keeps the spelling of its names, of which the rest says what is answered. (The profile's own.)
abbrev pub AnswersTree : (Source → JobAnswer → Type 0) → Text → JobAnswer → Type 0
AnswersTree rest text answer = (source : Source) × (text_view source ≡ text) × rest source answer

-- the new program is refused, or loaded after an old one
abbrev pub AnswersNew : Bool → Source → List ℕ → JobAnswer → Type 0
AnswersNew paths old bytes answer = AnswersProgram bytes (AnswersTree (IsPreview paths old)) answer

-- the files of the old program and of the new one
abbrev pub AnswersPreview : Bool → List ℕ → List ℕ → JobAnswer → Type 0
AnswersPreview paths old new answer = AnswersFile old (AnswersProgram old (AnswersTree (λ source. AnswersFile new (AnswersNew paths source new)))) answer

-- a fault of writing: nothing is refused, and nothing is read
abbrev pub IsOfWriting : RunFault → Type 0
IsOfWriting Write = ⊤
IsOfWriting Memory = ⊤
IsOfWriting fault = ⊥

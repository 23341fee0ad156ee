use Rattle.wc_model.proofs.Common.{◌≡◌, ℕ, Bool, List, Option, Some, None, false, sym, ap, ◌∙◌, if◌then◌else◌}
use Rattle.wc_laws_grammar.specs.{Start, line_move, after_unit, section_of_word, section_or_line, started_line, word_move}
use Rattle.wc_model.specs.Definitions.{InBody, end_word, name_of, same_name, lines_view, Position}
use Rattle.wc_model.specs.declared.source.Section.{Section}
use Rattle.wc_text_lines.proofs.Outcomes.{ok-map}
use Rattle.wc_text_bodies.specs.Views.{position_view}
use Rattle.wc_reader.proofs.body_moves.at_body_word.Goals as goal

-- a word that does not end the unit
goes_on : (p : Position) (bytes : List ℕ) (line : ℕ) (ends : Bool) (found : Option Section) → ends ≡ same_name (name_of bytes) (end_word p.unit.kind) → ends ≡ false → section_of_word p.done (name_of bytes) ≡ found →
    section_or_line p bytes line found ≡ word_move p bytes line
goes_on p bytes line ends found is not_so e =
    sym (ap (λ b. if b then Some (after_unit p) else section_or_line p bytes line (section_of_word p.done (name_of bytes))) (sym is ∙ not_so) ∙ ap (section_or_line p bytes line) e)

pub returns-in-Some-clause-following : goal.returns-in-Some-clause-following
returns-in-Some-clause-following c = λ units.
    goes_on (position_view units c.args.body.now) c.args.token.text.now c.args.token.line c.ends_unit.result (Some c.in-Some.section) c.ends_unit.ensures c.if-ends_unit.false (ap (λ items. section_of_word (lines_view items) (name_of c.args.token.text.now)) (sym c.deref.ensures.value) ∙ (sym c.section_of_word.ensures ∙ c.in-Some.is))

pub returns-in-None-clause-following : goal.returns-in-None-clause-following
returns-in-None-clause-following c = ok-map c.on_line.result (λ next h units.
    h units ∙ ap (started_line (position_view units c.args.body.now)) (c.at_start.ensures ∙ ap (λ s. line_move InBody Start s c.args.token.line false) c.requires.identifier)
    ∙ goes_on (position_view units c.args.body.now) c.args.token.text.now c.args.token.line c.ends_unit.result None c.ends_unit.ensures c.if-ends_unit.false (ap (λ items. section_of_word (lines_view items) (name_of c.args.token.text.now)) (sym c.deref.ensures.value) ∙ (sym c.section_of_word.ensures ∙ c.in-None.is))) c.on_line.ensures.following

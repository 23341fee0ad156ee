use Rattle.wc_model.proofs.Common.{◌≡◌, ◌≤◌, Bor, List, ℕ, Some, None, ap, arith, length, option_map, refl, sym, ◌∙◌, slice_get, length-map, slice_get-map, slice_get_past}
use Rattle.wc_model.specs.Language.Views.{text_view, unit_view}
use Rattle.wc_model.specs.declared.source.Source.{Source}
use Rattle.wc_names.proofs.Lists.{got_some}
use Rattle.wc_names.specs.declared.declared_type.DeclaredType.TheVariants as numbered
use Rattle.wc_view_changes.proofs.Others.{found_there, spelled_there}
use Rattle.wc_view_changes.proofs.shape.type_text.Goals as goal
use Rattle.wc_view_changes.specs.{Found, found_numbered, side_initial}

pub returns-in-Elementary : goal.returns-in-Elementary
returns-in-Elementary c = λ unit side name h e.
    ap Some c.kind_text.ensures ∙ spelled_there (text_view c.args.other.now.source) unit side name c.args.declared (numbered.Elementary c.in-Elementary.kind) h e (c.in_ok-kind.was ∙ ap Some c.in-Elementary.is)

pub returns-in-Standard : goal.returns-in-Standard
returns-in-Standard c = λ unit side name h e.
    ap Some c.block_text.ensures ∙ spelled_there (text_view c.args.other.now.source) unit side name c.args.declared (numbered.Standard c.in-Standard.block) h e (c.in_ok-kind.was ∙ ap Some c.in-Standard.is)

pub returns-in_ok-get-in-Block : goal.returns-in_ok-get-in-Block
returns-in_ok-get-in-Block c = λ unit side name h e.
    let source = c.args.other.now.source in
    let number = c.in-Block.number in
    let there : slice_get source.units.items number ≡ Some c.in_ok-get-in-Block.field-0.now =
    ap (λ xs. slice_get xs number) (sym (c.deref.ensures.value ∙ ap (λ (s : Source). s.units.items) c.source.ensures.source))
    ∙ got_some c.deref.result.now number c.in_ok-get-in-Block.field-0.now c.in_ok-get-in-Block.ensures.lookup.3.0 c.in_ok-get-in-Block.ensures.lookup.1 in
    let spelled : Some c.in_ok-get-in-Block.field-0.now.name.text.now ≡ option_map (λ f. f.type) (found_numbered (text_view source) (side_initial side name) (numbered.Block number)) =
    rw (slice_get-map unit_view source.units.items number, there) refl in
    spelled ∙ spelled_there (text_view source) unit side name c.args.declared (numbered.Block number) h e (c.in_ok-kind.was ∙ ap Some c.in-Block.is)

pub returns-in_err-get-in-Block : goal.returns-in_err-get-in-Block
returns-in_err-get-in-Block c = λ unit side name h e.
    let source = c.args.other.now.source in
    let counted : length (text_view source) ≡ length source.units.items = length-map source.units.items unit_view in
    let past : length (text_view source) ≤ c.in-Block.number =
    omega (arith, counted, ap length (c.deref.ensures.value ∙ ap (λ (s : Source). s.units.items) c.source.ensures.source), c.in_err-get-in-Block.ensures.lookup.3) in
    let missing : None ≡ option_map (λ f. f.type) (found_numbered (text_view source) (side_initial side name) (numbered.Block c.in-Block.number)) =
    rw (slice_get_past (text_view source) c.in-Block.number past) refl in
    ap (option_map (λ (spelled : Bor (List ℕ)). spelled.now)) c.from_residual-in_err-get-in-Block.ensures ∙ missing ∙ spelled_there (text_view source) unit side name c.args.declared (numbered.Block c.in-Block.number) h e (c.in_ok-kind.was ∙ ap Some c.in-Block.is)

pub returns-in_err-kind : goal.returns-in_err-kind
returns-in_err-kind c = λ unit side name h e.
    ap (option_map (λ (spelled : Bor (List ℕ)). spelled.now)) c.from_residual.ensures
    ∙ ap (option_map (λ (f : Found). f.type)) (found_there (text_view c.args.other.now.source) unit side name None h (sym c.in_err-kind.was ∙ e))

use Rattle.wc_model.proofs.Common.{◌≡◌, ◌∙◌, List, Bor, Result, Ok, Err, false, sym, subst, ap, true, IfOk, MatchResult}
use Rattle.wc_model.specs.Definitions.{Name, text_view}
use Rattle.wc_text_variables.proofs.Meanings.{by_address, by_parts, path_of}
use Rattle.wc_text_variables.proofs.variables.variable_named.Goals as goal
use Rattle.wc_text_variables.specs.Names.{variable_at_location, is_hidden}

-- what was promised of a value that is propagated
handed_on : {X E F : Type 0} (P : X → Type 0) (fault : F) (made : Result X E) (given : Result X F) (x : X) → MatchResult made (λ value. given ≡ Ok value) (λ error. given ≡ Err fault) → given ≡ Ok x → IfOk made P → P x
handed_on {X} {E} {F} P fault (Ok value) given x same is h = subst (λ (r : Result X F). IfOk r P) is (rw same h)
handed_on {X} {E} {F} P fault (Err error) given x same is h = subst (λ (r : Result X F). IfOk r P) is (rw same tt)

pub returns-then-is_address-clause-means : goal.returns-then-is_address-clause-means
returns-then-is_address-clause-means c =
    c.variable_at_location.ensures ∙ by_address (text_view c.args.loaded.now.source) c.args.name.now (sym c.is_address.ensures ∙ c.if-is_address.true)

pub returns-then-leads_to_hidden-clause-means : goal.returns-then-leads_to_hidden-clause-means
returns-then-leads_to_hidden-clause-means c =
    let text = text_view c.args.loaded.now.source in
    by_parts text c.args.name.now c.in_ok-parts.parts.items true (sym c.is_address.ensures ∙ c.if-is_address.false) (handed_on _ _ c.parts_of.result c.or_memory.result c.in_ok-parts.parts c.or_memory.ensures c.in_ok-parts.was c.parts_of.ensures)
    (ap (λ (parts : List (Bor Name)). is_hidden text (path_of parts)) (sym c.deref.ensures.value) ∙ sym c.leads_to_hidden.ensures ∙ c.if-leads_to_hidden.true)

pub returns-clause-means : goal.returns-clause-means
returns-clause-means c =
    let text = text_view c.args.loaded.now.source in
    c.variable_at_location-2.ensures
    ∙ ap (λ (parts : List (Bor Name)). variable_at_location text (path_of parts)) c.deref-2.ensures.value
    ∙ by_parts text c.args.name.now c.in_ok-parts.parts.items false (sym c.is_address.ensures ∙ c.if-is_address.false) (handed_on _ _ c.parts_of.result c.or_memory.result c.in_ok-parts.parts c.or_memory.ensures c.in_ok-parts.was c.parts_of.ensures)
    (ap (λ (parts : List (Bor Name)). is_hidden text (path_of parts)) (sym c.deref.ensures.value) ∙ sym c.leads_to_hidden.ensures ∙ c.if-leads_to_hidden.false)

-- The variables of a declaration of the code, and names that one more is added to. (No rule of the language.)
use Rattle.wc_model.proofs.Common.{◌≡◌, List, [], ◌∷◌, map, refl, ap, Bool, true, false, not, ◌||◌, ◌++◌, sym, ◌∙◌, if◌then◌else◌, or-false, not-false, list_any-append, list_any_congr}
use Rattle.wc_model.specs.Definitions.{Variable, declared_by, same_name, Word, name_of, Name, declaration_view, word_view, is_among}
use Rattle.wc_model.specs.declared.operand.Word.{Word as Spelled}
use Rattle.wc_model.specs.declared.source.Decl.{Decl}
use Rattle.wc_diag_warnings.specs.Seen.{variable_view}
use Rattle.wc_names.specs.Keys.{same_name_laws}

-- a name of a declaration as a variable
abbrev as_variable : Decl → Word → Variable
as_variable d w = record { name = w.name; line = w.line; section = d.section; type_name = name_of d.type_name.text.now; initial = d.initial }

views : (d : Decl) (words : List Spelled) → map (as_variable d) (map word_view words) ≡ map (variable_view d) words
views d [] = refl
views d (word ∷ words) = ap (λ vs. variable_view d word ∷ vs) (views d words)

pub declared_views : (d : Decl) → declared_by (declaration_view d) ≡ map (variable_view d) d.names.items
declared_views d = views d d.names.items

-- among names with one more at their end
among_more : (names : List Name) (name other : Name) → is_among (names ++ name ∷ []) other ≡ (is_among names other || same_name name other)
among_more names name other =
    list_any-append (same_name other) names (name ∷ [])
    ∙ ap (λ b. is_among names other || b) (or-false (same_name other name) ∙ same_name_laws.symm other name)

-- among names that have it already
among_again : (b : Bool) (names : List Name) (name other : Name) → same_name name other ≡ b → is_among names name ≡ true → is_among names other ≡ (is_among names other || b)
among_again false names name other e there = sym (or-false (is_among names other))
among_again true names name other e there =
    let here : is_among names other ≡ true = list_any_congr same_name_laws other name names (same_name_laws.symm other name ∙ e) ∙ there in
    here ∙ ap (λ b. b || true) (sym here)

pub among_added : (fresh : Bool) (names new : List Name) (name other : Name) → fresh ≡ not (is_among names name) → new ≡ (if fresh then names ++ name ∷ [] else names) →
    is_among new other ≡ (is_among names other || same_name name other)
among_added true names new name other e is = ap (λ ns. is_among ns other) is ∙ among_more names name other
among_added false names new name other e is =
    ap (λ ns. is_among ns other) is ∙ among_again (same_name name other) names name other refl (not-false (is_among names name) (sym e))

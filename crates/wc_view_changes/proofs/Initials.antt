-- The first value that is written after a name: that of the first declaration that has it.
use Rattle.wc_model.proofs.Common.{◌≡◌, Bool, true, false, ◌||◌, List, [], ◌∷◌, map, Option, Some, refl, ap, ◌∙◌, cond, option_and_then, find-append, option_or}
use Rattle.std.specs.List.{find, flat_map, list_any}
use Rattle.wc_model.specs.Definitions.{Variable, declared_by, same_name, Name, name_of, Word as NamedWord, declaration_view, word_view}
use Rattle.wc_model.specs.declared.operand.Word.{Word}
use Rattle.wc_model.specs.declared.source.Decl.{Decl}
use Rattle.wc_model.specs.declared.source.Initial.{Initial}

-- one of these words is the name
abbrev pub has_word : Name → List Word → Bool
has_word name ws = list_any (λ (w : Word). same_name (name_of w.text.now) name) ws

-- the variable of a word of a declaration, and the first of some words that has the name
abbrev of_word : Decl → NamedWord → Variable
of_word d w = record { name = w.name; line = w.line; section = d.section; type_name = name_of d.type_name.text.now; initial = d.initial }

abbrev in_words : Name → Decl → List Word → Option Variable
in_words name d ws = find (λ v. same_name v.name name) (map (of_word d) (map word_view ws))

-- the first value of the first variable of these declarations that has the name
abbrev pub initial_in : Name → List Decl → Option Initial
initial_in name ds = option_and_then (λ v. v.initial) (find (λ v. same_name v.name name) (flat_map declared_by (map declaration_view ds)))

pub one_initial : (name : Name) (d : Decl) (ds : List Decl) → initial_in name (d ∷ ds) ≡ cond (has_word name d.names.items) d.initial (initial_in name ds)
one_initial name d ds =
    let rest = find (λ (v : Variable). same_name v.name name) (flat_map declared_by (map declaration_view ds)) in
    ap (option_and_then (λ (v : Variable). v.initial)) (find-append (λ v. same_name v.name name) (declared_by (declaration_view d)) (flat_map declared_by (map declaration_view ds))) ∙ among rest d.names.items
  where
    among : (rest : Option Variable) (ws : List Word) → option_and_then (λ v. v.initial) (option_or (in_words name d ws) rest) ≡ cond (has_word name ws) d.initial (option_and_then (λ v. v.initial) rest)
    among rest [] = refl
    among rest (w ∷ ws) = by (same_name (name_of w.text.now) name) (among rest ws)
      where
        by : (t : Bool) → option_and_then (λ v. v.initial) (option_or (in_words name d ws) rest) ≡ cond (has_word name ws) d.initial (option_and_then (λ v. v.initial) rest)
            → option_and_then (λ v. v.initial) (option_or (cond t (Some (of_word d (word_view w))) (in_words name d ws)) rest) ≡ cond (t || has_word name ws) d.initial (option_and_then (λ v. v.initial) rest)
        by true next = refl
        by false next = next

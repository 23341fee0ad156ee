-- What is loaded is no larger than its bytes.
use Rattle.std.proofs.Common.{◌≡◌, ◌≤◌, ◌+◌, ℕ, suc, not, List, [], ◌∷◌, ◌++◌, length, length-append, filter, map, flat_map, refl, sym, subst, arith}
use Rattle.wc_model.proofs.Common.{length-map, length-filter_both}
use Rattle.wc_laws_loading.proofs.Fitting.{both, filter_shrinks, one_is_one, separated_fits, tokens_fit}
use Rattle.wc_laws_loading.specs.Laws.{IsSmall, LoadedTextsAreSmall, argument_count, body_parts, flat_count, name_count, tree_parts}
use Rattle.wc_model.specs.Language.Tree.{Assignment, goes_in, inputs_of, outputs_of, Step, Load, Store, Apply, Negate, Jump, Call, Return, Lines, End, Alone, Plain, Nested, Word, Declaration, ProgramUnit, Text}
use Rattle.wc_model.specs.Definitions.{Group, Setting, InParentheses, InBody, IsNameOf, IsOn, IsOperator, IsOperatorOf, argument, bracketed, call_list, declaration, declared_names, instruction, line_ends, lines, sections, section_of, unit_of, symbol, one, each, ◌then◌, Mark, IsNamed, IsSymbol, IsWord, ClosingBracket, Comma, LineEnd, is_line_end, IsRead, mark_of_token}
use Rattle.wc_model.specs.declared.source.Section.{Section}
use Rattle.wc_text_flat.specs.FlatPaths.{sources_of, step_sources}

argument_fits : (a : Assignment) (tokens : List Mark) → argument a tokens → 1 ≤ length tokens
argument_fits a tokens h = omega (arith, both tokens h, one_is_one (IsNamed a.formal) h.prefix h.begins)

bracketed_fits : (arguments : List Assignment) (tokens : List Mark) → bracketed arguments tokens → length arguments ≤ length tokens
bracketed_fits arguments tokens h =
    let inside = h.goes_on in
    let kept = filter (λ mark. not (is_line_end mark)) inside.prefix in
    let few = separated_fits (symbol Comma) argument argument_fits arguments kept inside.begins in
    omega (arith, both tokens h, both h.rest inside, few, filter_shrinks (λ mark. not (is_line_end mark)) inside.prefix)

call_fits : (arguments : List Assignment) (tokens : List Mark) → call_list arguments tokens → length arguments ≤ length tokens
call_fits [] tokens h = omega arith
call_fits (first ∷ others) tokens h = bracketed_fits (first ∷ others) tokens h

-- a call's flat lines are one for its own line, one for each argument, and one for its body
call_sources : (line : ℕ) (arguments : List Assignment) → length (map (λ (input : Assignment). line) (inputs_of arguments) ++ line ∷ map (λ (output : Assignment). line) (outputs_of arguments)) ≡ suc (length arguments)
call_sources line arguments =
    let sum = length-append (map (λ (input : Assignment). line) (inputs_of arguments)) (line ∷ map (λ (output : Assignment). line) (outputs_of arguments)) in
    let ins = length-map (inputs_of arguments) (λ (input : Assignment). line) in
    let outs = length-map (outputs_of arguments) (λ (output : Assignment). line) in
    let all = length-filter_both goes_in (λ a. not (goes_in a)) (λ a. refl) arguments in
    omega (arith, sum, ins, outs, all)

step_fits : (line : ℕ) (step : Step) (tokens : List Mark) → instruction line step tokens → (length (step_sources line step) ≤ length tokens) × (suc (argument_count step) ≤ length tokens)
step_fits line (Load negated x) tokens h = let l = both tokens h in let o = one_is_one (IsOn line (IsOperatorOf (Load negated x))) h.prefix h.begins in (omega (arith, l, o), omega (arith, l, o))
step_fits line (Store storing x) tokens h = let l = both tokens h in let o = one_is_one (IsOn line (IsOperatorOf (Store storing x))) h.prefix h.begins in (omega (arith, l, o), omega (arith, l, o))
step_fits line (Apply operator x) tokens h = let l = both tokens h in let o = one_is_one (IsOn line (IsOperatorOf (Apply operator x))) h.prefix h.begins in (omega (arith, l, o), omega (arith, l, o))
step_fits line Negate tokens h = let l = both tokens h in let o = one_is_one (IsOn line (IsOperatorOf Negate)) h.prefix h.begins in (omega (arith, l, o), omega (arith, l, o))
step_fits line (Jump condition label) tokens h = let l = both tokens h in let o = one_is_one (IsOn line (IsOperatorOf (Jump condition label))) h.prefix h.begins in (omega (arith, l, o), omega (arith, l, o))
step_fits line (Return condition) tokens h = let l = both tokens h in let o = one_is_one (IsOn line (IsOperatorOf (Return condition))) h.prefix h.begins in (omega (arith, l, o), omega (arith, l, o))
step_fits line (Call condition instance arguments) tokens h =
    let l = both tokens h in
    let o = one_is_one (IsOn line (IsOperatorOf (Call condition instance arguments))) h.prefix h.begins in
    let m = both h.rest h.goes_on in
    let i = one_is_one (IsNamed instance) h.goes_on.prefix h.goes_on.begins in
    let a = call_fits arguments h.goes_on.rest h.goes_on.goes_on in
    (omega (arith, l, o, m, i, a, call_sources line arguments), omega (arith, l, o, m, i, a))

-- the parts of a body, and its flat lines
lines_fit : (setting : Setting) (body : Lines) (tokens : List Mark) → lines setting body tokens → (length (sources_of body) ≤ length tokens) × (body_parts body ≤ length tokens)
lines_fit setting End tokens h = (omega arith, omega arith)
lines_fit setting (Alone label rest) tokens h =
    let labelled = h.goes_on in
    let ended = labelled.goes_on in
    let later = lines_fit setting rest ended.rest ended.goes_on in
    let one = both tokens h in
    let two = both h.rest labelled in
    let three = both labelled.rest ended in
    let end = one_is_one (IsSymbol LineEnd) ended.prefix ended.begins in
    (omega (arith, one, two, three, end, later.0), omega (arith, one, two, three, end, later.1))
lines_fit setting (Plain label line step rest) tokens h =
    let s = h.1 in
    let labelled = s.goes_on in
    let made = labelled.goes_on in
    let ended = made.goes_on in
    let later = lines_fit setting rest ended.rest ended.goes_on in
    let here = step_fits line step made.prefix made.begins in
    let one = both tokens s in
    let two = both s.rest labelled in
    let three = both labelled.rest made in
    let four = both made.rest ended in
    let sum = length-append (step_sources line step) (sources_of rest) in
    (omega (arith, one, two, three, four, sum, here.0, later.0), omega (arith, one, two, three, four, here.1, later.1))
lines_fit setting (Nested label line operator operand inside close rest) tokens h =
    let s = h.1 in
    let labelled = s.goes_on in
    let opened = labelled.goes_on in
    let within = opened.goes_on in
    let closed = within.goes_on in
    let ended = closed.goes_on in
    let later = lines_fit setting rest ended.rest ended.goes_on in
    let deeper = lines_fit InParentheses inside within.prefix within.begins in
    let one = both tokens s in
    let two = both s.rest labelled in
    let three = both labelled.rest opened in
    let four = both opened.rest within in
    let five = both within.rest closed in
    let six = both closed.rest ended in
    let head = both opened.prefix opened.begins in
    let sign = both opened.begins.prefix opened.begins.begins in
    let first = one_is_one (IsOn line (IsOperator operator)) opened.begins.begins.prefix opened.begins.begins.begins in
    let last = one_is_one (IsOn close (IsSymbol ClosingBracket)) closed.prefix closed.begins in
    let sum = length-append (sources_of inside) (close ∷ sources_of rest) in
    (omega (arith, one, two, three, four, five, six, head, sign, first, last, sum, deeper.0, later.0), omega (arith, one, two, three, four, five, six, head, sign, first, last, deeper.1, later.1))

-- the names of declarations
names_fit : (names : List Word) (tokens : List Mark) → declared_names names tokens → length names ≤ length tokens
names_fit [] tokens h = absurd h
names_fit (first ∷ others) tokens h = separated_fits (symbol Comma) (λ word. one (IsWord word)) (λ word ts o. omega (arith, one_is_one (IsWord word) ts o)) (first ∷ others) tokens h.1

declarations_fit : (section : Section) (ds : List Declaration) (tokens : List Mark) → each (declaration section) ds tokens → name_count ds ≤ length tokens
declarations_fit section [] tokens h = omega arith
declarations_fit section (d ∷ ds) tokens h =
    let here = names_fit d.names h.begins.1.prefix h.begins.1.begins in
    let own = both h.prefix h.begins.1 in
    let others = declarations_fit section ds h.rest h.goes_on in
    omega (arith, both tokens h, own, here, others)

name_count_append : (ds es : List Declaration) → name_count (ds ++ es) ≡ name_count ds + name_count es
name_count_append [] es = omega arith
name_count_append (d ∷ ds) es = let more = name_count_append ds es in omega (arith, more)

groups_fit : (groups : List Group) (tokens : List Mark) → each (λ group. line_ends then section_of group) groups tokens → name_count (flat_map (λ (group : Group). group.declarations) groups) ≤ length tokens
groups_fit [] tokens h = omega arith
groups_fit (group ∷ groups) tokens h =
    let section = h.begins.goes_on in
    let listed = section.goes_on in
    let here = declarations_fit group.section group.declarations (filter (λ mark. not (is_line_end mark)) listed.prefix) listed.begins in
    let shrunk = filter_shrinks (λ (mark : Mark). not (is_line_end mark)) listed.prefix in
    let others = groups_fit groups h.rest h.goes_on in
    let sum = name_count_append group.declarations (flat_map (λ (g : Group). g.declarations) groups) in
    omega (arith, both tokens h, both h.prefix h.begins, both h.begins.rest section, both section.rest listed, here, shrunk, others, sum)

sections_fit : (ds : List Declaration) (tokens : List Mark) → sections ds tokens → name_count ds ≤ length tokens
sections_fit ds tokens (groups, made, spelled) = subst (λ listed. name_count listed ≤ length tokens) (sym made) (groups_fit groups tokens spelled)

-- a unit: its parts and its flat lines
unit_fits : (unit : ProgramUnit) (tokens : List Mark) → unit_of unit tokens → (length (sources_of unit.body) ≤ length tokens) × (1 + name_count unit.declarations + body_parts unit.body ≤ length tokens)
unit_fits unit tokens h =
    let begun = h.begins in
    let named = begun.goes_on in
    let bodied = h.goes_on in
    let body = lines_fit InBody unit.body bodied.prefix bodied.begins in
    let names = sections_fit unit.declarations named.rest named.goes_on in
    let one = both tokens h in
    let two = both h.prefix begun in
    let three = both begun.rest named in
    let four = both h.rest bodied in
    let word = one_is_one (IsNameOf unit) named.prefix named.begins in
    (omega (arith, one, two, three, four, word, body.0), omega (arith, one, two, three, four, word, body.1, names))

all_units_fit : (text : Text) (tokens : List Mark) → each (λ unit. line_ends then unit_of unit) text tokens → (flat_count text ≤ length tokens) × (tree_parts text ≤ length tokens)
all_units_fit [] tokens h = (omega arith, omega arith)
all_units_fit (unit ∷ text) tokens h =
    let here = unit_fits unit h.begins.rest h.begins.goes_on in
    let others = all_units_fit text h.rest h.goes_on in
    let one = both tokens h in
    let two = both h.prefix h.begins in
    (omega (arith, one, two, here.0, others.0), omega (arith, one, two, here.1, others.1))

pub read_is_small : (bytes : List ℕ) (text : Text) → IsRead bytes text → IsSmall bytes text
read_is_small bytes text r =
    let marks = map mark_of_token r.tokens in
    let parts = all_units_fit text r.spelled.spelled.prefix r.spelled.spelled.begins in
    let whole = both marks r.spelled.spelled in
    let counted = length-map r.tokens mark_of_token in
    let fits = tokens_fit [] bytes r.tokens r.cut in
    record { short = r.short; units = r.within_limits.units; tree = omega (arith, whole, counted, fits, parts.1); flat = omega (arith, whole, counted, fits, parts.0) }

pub loaded_is_small : LoadedTextsAreSmall
loaded_is_small bytes text loaded = read_is_small bytes text loaded.read

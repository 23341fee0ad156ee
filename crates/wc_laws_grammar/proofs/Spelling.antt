-- How a text of tokens is shown to spell a tree.
use Rattle.std.proofs.Common.{◌≡◌, ℕ, Bool, true, false, List, [], ◌∷◌, refl}
use Rattle.std.specs.Prelude.{◌≢◌, flat_map, Option, Some}
use Rattle.wc_model.specs.Definitions.{Name, Mark, LineEnd, ClosingBracket, IsNamed, IsSymbol, Word, Term, Step, Lines, Alone, Plain, Nested, Declaration, ProgramUnit, ◌then◌, each, empty, one, truth_word, unit_word, end_word, Group, Setting, InBody, InParentheses, MayOccur, HasContent, IsOn, IsNameOf, symbol, identifier, line_ends, label_in, instruction, opening, lines, sections, section_of, units, same_name}
use Rattle.wc_model.specs.declared.operator.Operator.{Operator}
use Rattle.wc_laws_grammar.proofs.WordLaws.{is_same}
use Rattle.wc_laws_grammar.proofs.Languages.{pass, given_first, regroup, ungroup, before, after, parts}

-- no declarations, and no section
pub no_sections : {second : List Mark → Type 0} {tokens : List Mark} → second tokens → (sections [] then second) tokens
no_sections goes_on = pass ([], refl, refl) goes_on

-- the sections of these groups
pub sections_by : {second : List Mark → Type 0} {tokens : List Mark} {declarations : List Declaration} (groups : List Group)
    → declarations ≡ flat_map (λ group. group.declarations) groups
    → (each (λ group. line_ends then section_of group) groups then second) tokens → (sections declarations then second) tokens
sections_by groups same h = record { prefix = h.prefix; rest = h.rest; whole = h.whole; begins = (groups, same, h.begins); goes_on = h.goes_on }

-- two names that the test tells apart
pub differ : {xs ys : List ℕ} → same_name xs ys ≡ false → xs ≢ ys
differ {xs = xs} h e =
    let k : same_name xs xs ≡ false = rw (← e) at h in
    let t : same_name xs xs ≡ true = is_same xs in cc

-- a name that is neither TRUE nor FALSE
pub ordinary : {name : Name} → name ≢ truth_word true → name ≢ truth_word false → (value : Bool) → name ≢ truth_word value
ordinary not_true not_false true = not_true
ordinary not_true not_false false = not_false

-- a line with an instruction, and what follows
pub plain : (setting : Setting) (label : Option Word) (line : ℕ) (step : Step) (rest : Lines) {second : List Mark → Type 0} {tokens : List Mark}
    → MayOccur setting step → ((line_ends then (label_in setting label then (instruction line step then symbol LineEnd))) then (lines setting rest then second)) tokens
    → (lines setting (Plain label line step rest) then second) tokens
plain setting label line step rest fact h = given_first fact (before (λ ts k. after (λ ts k. after (λ ts k. ungroup k) (ungroup k)) (ungroup k)) (regroup h))

-- a line that is a label alone, and what follows
pub alone : (setting : Setting) (label : Word) (rest : Lines) {second : List Mark → Type 0} {tokens : List Mark}
    → ((line_ends then (label_in setting (Some label) then symbol LineEnd)) then (lines setting rest then second)) tokens
    → (lines setting (Alone label rest) then second) tokens
alone setting label rest h = before (λ ts k. after (λ ts k. ungroup k) (ungroup k)) (regroup h)

-- an opening line, the lines inside, the `)`, and what follows
pub nested : (setting : Setting) (label : Option Word) (line : ℕ) (operator : Operator) (x : Option Term) (inside : Lines) (close : ℕ) (rest : Lines) {second : List Mark → Type 0} {tokens : List Mark}
    → HasContent x inside
    → ((line_ends then (label_in setting label then opening line operator x))
    then (lines InParentheses inside then ((one (IsOn close (IsSymbol ClosingBracket)) then symbol LineEnd) then (lines setting rest then second)))) tokens
    → (lines setting (Nested label line operator x inside close rest) then second) tokens
nested setting label line operator x inside close rest fact h = given_first fact (before (λ ts k. after (λ ts k. ungroup k) (ungroup k))
    (regroup (after (λ ts k. before (λ ts k. after (λ ts k. ungroup k) k) (regroup (after (λ ts k. regroup k) k))) h)))

-- one unit and what it is made of
pub one_unit : (unit : ProgramUnit) {tokens : List Mark}
    → (one (IsOn unit.line (IsNamed (unit_word unit.kind))) then (one (IsNameOf unit) then (sections unit.declarations
    then (lines InBody unit.body then (identifier (end_word unit.kind) then (empty then line_ends)))))) tokens
    → units (unit ∷ []) tokens
one_unit unit h = regroup (regroup (pass tt (regroup (regroup (after (λ ts k. regroup (after (λ ts k. after (λ ts k. regroup k) k) k)) h)))))

-- what `search` shows closed tokens to spell by
pub ruleset spelling = (no_sections, differ, ordinary, parts)

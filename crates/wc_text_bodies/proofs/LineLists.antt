-- One more line after others, as a tree and as a count.
use Rattle.wc_model.proofs.Common.{◌≡◌, ◌+◌, List, [], ◌∷◌, ◌++◌, Option, Some, None, option_map, length, false, refl, ap, ◌∙◌, ◌==◌, arith, nat_tests, length_push}
use Rattle.wc_laws_grammar.specs.Moves.{are_no_lines, lines_and}
use Rattle.wc_model.specs.Definitions.{line_count, Word, Lines, End, Alone, Plain, Nested, line_view, lines_view, instruction_view, line_step_view, word_view}
use Rattle.wc_model.specs.declared.operand.Word.{Word as Spelled}
use Rattle.wc_model.specs.declared.tree.Instr.{Instr}
use Rattle.wc_model.specs.declared.tree.Instr.TheFolds.{fold-Instr, fold_out-Instr, fold_out-Line}
use Rattle.wc_model.specs.declared.tree.Instr.TheOpen.{Instr-F, Line-F}
use Rattle.wc_model.specs.declared.tree.Line.{Line, fold-Line, map-Line, out-Line}

-- what follows an instruction follows the rest
through_instr : (layer : Instr-F (Option Word → Lines → Lines) (Lines → Lines)) (label : Option Word) (rest others : Lines)
    → lines_and (instruction_view layer label rest) others ≡ instruction_view layer label (lines_and rest others)
through_instr (Instr-F.Load negated operand line) label rest others = refl
through_instr other label rest others = refl

-- a line whose instruction is seen already
abbrev mapped : Line-F Instr Line → Line-F (Option Word → Lines → Lines) (Lines → Lines)
mapped = map-Line Instr Line (Option Word → Lines → Lines) (Lines → Lines) (fold-Instr (Option Word → Lines → Lines) (Lines → Lines) instruction_view line_step_view) (fold-Line (Option Word → Lines → Lines) (Lines → Lines) instruction_view line_step_view)

-- what follows a line follows the rest, by its parts
through_parts : (label : Option Spelled) (instr : Option Instr) (rest others : Lines)
    → lines_and (line_step_view (mapped (record { label = label; instr = instr })) rest) others ≡ line_step_view (mapped (record { label = label; instr = instr })) (lines_and rest others)
through_parts (Some label) None rest others = refl
through_parts None None rest others = refl
through_parts label (Some instr) rest others = rw (fold_out-Instr (Option Word → Lines → Lines) (Lines → Lines) instruction_view line_step_view instr) (through_instr _ (option_map word_view label) rest others)

-- what follows a line follows the rest
through : (x : Line) (rest others : Lines) → lines_and (line_view x rest) others ≡ line_view x (lines_and rest others)
through x rest others = rw (fold_out-Line (Option Word → Lines → Lines) (Lines → Lines) instruction_view line_step_view x) (through_parts (out-Line x).label (out-Line x).instr rest others)

-- lines and then others
pub lines_view-append : (xs ys : List Line) → lines_view (xs ++ ys) ≡ lines_and (lines_view xs) (lines_view ys)
lines_view-append [] ys = refl
lines_view-append (x ∷ xs) ys = rw (lines_view-append xs ys, through x (lines_view xs) (lines_view ys)) refl

-- the lines of two lists of them
pub line_count-and : (lines others : Lines) → line_count (lines_and lines others) ≡ line_count lines + line_count others
line_count-and End others = omega arith
line_count-and (Alone label rest) others = line_count-and rest others
line_count-and (Plain label line step rest) others = omega (arith, line_count-and rest others)
line_count-and (Nested label line operator operand inside close rest) others = omega (arith, line_count-and rest others)

-- one more line
pub lines_view-push : (xs ys : List Line) (x : Line) → ys ≡ xs ++ x ∷ [] → lines_view ys ≡ lines_and (lines_view xs) (line_view x End)
lines_view-push xs ys x e = rw (e, lines_view-append xs (x ∷ [])) refl

-- if a line is last, there is one
pub lines_and-some : (lines others : Lines) → are_no_lines others ≡ false → are_no_lines (lines_and lines others) ≡ false
lines_and-some End others h = h
lines_and-some (Alone label rest) others h = refl
lines_and-some (Plain label line step rest) others h = refl
lines_and-some (Nested label line operator operand inside close rest) others h = refl

-- one more line is seen
pub seen-push : (xs ys : List Line) (x : Line) → ys ≡ xs ++ x ∷ [] → are_no_lines (line_view x End) ≡ false → are_no_lines (lines_view ys) ≡ (length ys == 0)
seen-push xs ys x e h =
    let k : length ys ≡ length xs + 1 = ap length e ∙ length_push xs x in
    let f : are_no_lines (lines_view ys) ≡ false = rw (lines_view-push xs ys x e) (lines_and-some (lines_view xs) (line_view x End) h) in
    grind (arith, nat_tests)

-- What the code's instructions represent as lines of a body, and what is found of lines inside a parenthesis.
use Rattle.std.proofs.Common.{◌≡◌, ℕ, ◌+◌, ◌<◌, length, drop, get_or, Bor, Vec, Global, Bool, false, List, [], ◌∷◌, ◌++◌, map, Option, Some, None, Result, Ok, Err, option_map, append_assoc, refl, sym, ap, subst, ◌∙◌, rules}
use Rattle.wc_model.specs.Definitions.{inside_rules, line_rules, Check, first_broken, BodyLine, AloneLine, PlainLine, NestedLine, kind_after, kind_following, lines_of, name_of, Scope, assignment_view, instruction_view, label_view, line_step_view, line_view, lines_view, term_view, word_view}
use Rattle.wc_model.specs.Language.Tree.{Word, Step, Load, Store, Apply, Negate, Jump, Call, Return, Lines}
use Rattle.wc_model.specs.declared.fault.Fault.{Fault}
use Rattle.wc_model.specs.declared.fault.Fault.TheVariants.{Refused, Memory}
use Rattle.wc_model.specs.declared.kind.Kind.{Kind}
use Rattle.wc_model.specs.declared.operand.Operand.{Operand}
use Rattle.wc_model.specs.declared.operand.Word.{Word as Spelled}
use Rattle.wc_model.specs.declared.operator.Condition.{Condition}
use Rattle.wc_model.specs.declared.operator.Operator.{Operator}
use Rattle.wc_model.specs.declared.operator.StoreKind.{StoreKind}
use Rattle.wc_model.specs.declared.tree.Argument.{Argument}
use Rattle.wc_model.specs.declared.tree.Instr.{Instr, map-Instr, out-Instr}
use Rattle.wc_model.specs.declared.tree.Instr.TheVariants as instrs
use Rattle.wc_model.specs.declared.tree.Instr.TheFolds.{fold-Instr, fold_out-Instr, fold_out-Line}
use Rattle.wc_model.specs.declared.tree.Instr.TheOpen.{Instr-F}
use Rattle.wc_model.specs.declared.tree.Line.{Line, fold-Line, the_lemmas}
use Rattle.wc_names.proofs.Lists.{from_index}
use Rattle.wc_verify.specs.Instructions.{GoesInside, GoesOn, SaysAhead, step_ahead, instr_line, opened_line, put}

-- a line before others is the first of them
pub lines_put : (line : BodyLine) (rest : Lines) → lines_of (put line rest) ≡ line ∷ lines_of rest
lines_put (AloneLine label) rest = refl
lines_put (PlainLine label line step) rest = refl
lines_put (NestedLine label line operator operand inside close) rest = refl

-- what is asked of it inside a parenthesis, and the kind after it
pub inside_put : (scope : Scope) (line : BodyLine) (rest : Lines) (kind : Option Kind) → inside_rules scope (put line rest) kind ≡ line_rules scope line [] kind ++ inside_rules scope rest (kind_after scope line kind)
inside_put scope (AloneLine label) rest kind = refl
inside_put scope (PlainLine label line step) rest kind = refl
inside_put scope (NestedLine label line operator operand inside close) rest kind = refl

pub after_put : (scope : Scope) (line : BodyLine) (rest : Lines) (kind : Option Kind) → kind_following scope (put line rest) kind ≡ kind_following scope rest (kind_after scope line kind)
after_put scope (AloneLine label) rest kind = refl
after_put scope (PlainLine label line step) rest kind = refl
after_put scope (NestedLine label line operator operand inside close) rest kind = refl

-- no label follows a line inside a parenthesis
step_none : (step : Step) → step_ahead step false []
step_none (Load negated operand) = tt
step_none (Store storing target) = tt
step_none (Apply operator operand) = tt
step_none Negate = tt
step_none (Jump condition label) = refl
step_none (Call condition instance arguments) = tt
step_none (Return condition) = tt

pub none_ahead : (line : BodyLine) → SaysAhead line false []
none_ahead (AloneLine label) = tt
none_ahead (PlainLine label line step) = step_none step
none_ahead (NestedLine label line operator operand inside close) = tt

-- a line that is checked goes on inside a parenthesis
pub inside_line : (scope : Scope) (line : BodyLine) (rest : Lines) (kind : Option Kind) (more : List Check) (r : Result (Option Kind) Fault) → GoesOn scope line [] kind (inside_rules scope rest (kind_after scope line kind) ++ more) r → GoesInside scope (put line rest) kind rest more r
inside_line scope line rest kind more (Ok after) h = (
  ap (λ cs. first_broken (cs ++ more)) (inside_put scope line rest kind) ∙ ap first_broken (append_assoc (line_rules scope line [] kind) (inside_rules scope rest (kind_after scope line kind)) more) ∙ h.0 ∙ ap (λ k. first_broken (inside_rules scope rest k ++ more)) (sym h.1),
  after_put scope line rest kind ∙ ap (kind_following scope rest) (sym h.1),
)
inside_line scope line rest kind more (Err (Refused number place)) h =
    ap (λ cs. first_broken (cs ++ more)) (inside_put scope line rest kind) ∙ ap first_broken (append_assoc (line_rules scope line [] kind) (inside_rules scope rest (kind_after scope line kind)) more) ∙ h
inside_line scope line rest kind more (Err Memory) h = tt

-- lines that are checked, and others after them
pub inside_more : (scope : Scope) (all left rest : Lines) (first kind : Option Kind) (more : List Check) (r : Result (Option Kind) Fault) →
    GoesInside scope all first left more (Ok kind) → GoesInside scope left kind rest more r → GoesInside scope all first rest more r
inside_more scope all left rest first kind more (Ok after) h g = (h.0 ∙ g.0, h.1 ∙ g.1)
inside_more scope all left rest first kind more (Err (Refused number place)) h g = h.0 ∙ g
inside_more scope all left rest first kind more (Err Memory) h g = tt

-- a fault is the same, wherever the lines would end
pub inside_fault : (scope : Scope) (all rest other : Lines) (first : Option Kind) (more : List Check) (fault : Fault) → GoesInside scope all first rest more (Err fault) → GoesInside scope all first other more (Err fault)
inside_fault scope all rest other first more (Refused number place) h = h
inside_fault scope all rest other first more Memory h = tt

-- an instruction of the code, opened, as a line
through : (layer : Instr-F Instr Line) (label : Option Word) (rest : Lines) →
    instruction_view (map-Instr Instr Line (Option Word → Lines → Lines) (Lines → Lines) (fold-Instr (Option Word → Lines → Lines) (Lines → Lines) instruction_view line_step_view) (fold-Line (Option Word → Lines → Lines) (Lines → Lines) instruction_view line_step_view) layer) label rest ≡ put (opened_line layer label) rest
through (Instr-F.Load negated operand line) label rest = refl
through another label rest = refl

-- an instruction of the code, as a line
instr_seen : (instr : Instr) (label : Option Word) (rest : Lines) → fold-Instr (Option Word → Lines → Lines) (Lines → Lines) instruction_view line_step_view instr label rest ≡ put (instr_line instr label) rest
instr_seen instr label rest = rw (fold_out-Instr (Option Word → Lines → Lines) (Lines → Lines) instruction_view line_step_view instr) (through (out-Instr instr) label rest)

line_made : (label : Option Spelled) (instr : Instr) (rest : Lines) → line_view (record { label = label; instr = Some instr }) rest ≡ put (instr_line instr (option_map word_view label)) rest
line_made label instr rest = rw (fold_out-Line (Option Word → Lines → Lines) (Lines → Lines) instruction_view line_step_view (record { label = label; instr = Some instr })) (instr_seen instr (option_map word_view label) rest)

-- a line of the code with an instruction
pub view_instr : (line : Line) (instr : Instr) (rest : Lines) → line.instr ≡ Some instr → line_view line rest ≡ put (instr_line instr (option_map word_view line.label)) rest
view_instr line instr rest e = ap (λ i. line_view (record { label = line.label; instr = i }) rest) e ∙ line_made line.label instr rest

none_made : (label : Option Spelled) (rest : Lines) → line_view (record { label = label; instr = None }) rest ≡ label_view (option_map word_view label) rest
none_made label rest = search (the_lemmas, rules)

-- and without
pub view_none : (line : Line) (rest : Lines) → line.instr ≡ None → line_view line rest ≡ label_view (option_map word_view line.label) rest
view_none line rest e = ap (λ i. line_view (record { label = line.label; instr = i }) rest) e ∙ none_made line.label rest

-- the first of some lines of the code, and the others
pub lines_first : (line : Line) (lines : List Line) → lines_view (line ∷ lines) ≡ line_view line (lines_view lines)
lines_first line lines = refl

-- which line each instruction is
pub line_load : (n : Bool) (o : Operand) (k : ℕ) (label : Option Word) → instr_line (instrs.Load n o k) label ≡ PlainLine label k (Load n (term_view o))
line_load n o k label = search (the_lemmas, rules)

pub line_store : (n : StoreKind) (o : Operand) (k : ℕ) (label : Option Word) → instr_line (instrs.Store n o k) label ≡ PlainLine label k (Store n (term_view o))
line_store n o k label = search (the_lemmas, rules)

pub line_apply : (n : Operator) (o : Operand) (k : ℕ) (label : Option Word) → instr_line (instrs.Apply n o k) label ≡ PlainLine label k (Apply n (term_view o))
line_apply n o k label = search (the_lemmas, rules)

pub line_not : (k : ℕ) (label : Option Word) → instr_line (instrs.Not k) label ≡ PlainLine label k Negate
line_not k label = search (the_lemmas, rules)

pub line_return : (n : Condition) (k : ℕ) (label : Option Word) → instr_line (instrs.Return n k) label ≡ PlainLine label k (Return n)
line_return n k label = search (the_lemmas, rules)

pub line_jump : (n : Condition) (target : Bor (List ℕ)) (k : ℕ) (label : Option Word) → instr_line (instrs.Jump n target k) label ≡ PlainLine label k (Jump n (name_of target.now))
line_jump n target k label = search (the_lemmas, rules)

pub line_call : (n : Condition) (instance : Bor (List ℕ)) (arguments : Vec Argument Global) (k : ℕ) (label : Option Word) → instr_line (instrs.Call n instance arguments k) label ≡ PlainLine label k (Call n (name_of instance.now) (map assignment_view arguments.items))
line_call n instance arguments k label = search (the_lemmas, rules)

pub line_defer : (operator : Operator) (operand : Option Operand) (inside : Vec Line Global) (k close : ℕ) (label : Option Word) →
    instr_line (instrs.Defer operator operand inside k close) label ≡ NestedLine label k operator (option_map term_view operand) (lines_view inside.items) close
line_defer operator operand inside k close label = search (the_lemmas, rules)

-- what is known of a line is known of the same one
pub same_line : (scope : Scope) (a b : BodyLine) (following : List BodyLine) (kind : Option Kind) (more : List Check) (r : Result (Option Kind) Fault) → a ≡ b → GoesOn scope b following kind more r → GoesOn scope a following kind more r
same_line scope a b following kind more r e h = subst (λ x. GoesOn scope x following kind more r) (sym e) h

-- some lines begin with one
pub first_seen : (items : List Line) (i : ℕ) (line : Line) → i < length items → line ≡ get_or items i line → lines_view (drop i items) ≡ line_view line (lines_view (drop (i + 1) items))
first_seen items i line below is = ap lines_view (from_index items i line below is)

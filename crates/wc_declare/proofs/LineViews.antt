-- What the rules on labels and addresses ask of the code's lines.
use Rattle.std.proofs.Common.{◌≡◌, ℕ, Bool, List, ◌++◌, Option, Some, None, option_map, map, append_assoc, refl, ap, ◌∙◌, rules, Vec, Global, Bor}
use Rattle.wc_model.specs.Definitions.{Check, first_broken, body_name_checks, label_checks, operand_checks, step_checks, name_of, assignment_view, joined, line_view, lines_view, instruction_view, label_view, line_step_view, term_view, word_view}
use Rattle.wc_model.specs.Language.Tree.{Word, Load, Store, Apply, Negate, Jump, Call, Return, Lines, Plain, Nested, ProgramUnit, Step, Term}
use Rattle.wc_model.specs.declared.operand.Operand.{Operand}
use Rattle.wc_model.specs.declared.operand.Word.{Word as Spelled}
use Rattle.wc_model.specs.declared.operator.Condition.{Condition}
use Rattle.wc_model.specs.declared.operator.Operator.{Operator}
use Rattle.wc_model.specs.declared.operator.StoreKind.{StoreKind}
use Rattle.wc_model.specs.declared.tree.Argument.{Argument}
use Rattle.wc_model.specs.declared.tree.Instr.{Instr, fold_out-Instr}
use Rattle.wc_model.specs.declared.tree.Instr.TheOpen.{Instr-F}
use Rattle.wc_model.specs.declared.tree.Instr.TheVariants as instrs
use Rattle.wc_model.specs.declared.tree.Line.{Line, fold_out-Line, the_lemmas}
use Rattle.wc_declare.proofs.Validation.{regrouped}

-- the parts of a line's rules, one after the other
three : (a b c d : List Check) → ((a ++ b) ++ c) ++ d ≡ a ++ (b ++ (c ++ d))
three a b c d = simp append_assoc

-- a plain line
pub plain_found : (unit : ProgramUnit) (label : Option Word) (line : ℕ) (step : Step) (others : Lines) (rest : List Check) →
    first_broken (body_name_checks unit (Plain label line step others) ++ rest) ≡ first_broken (label_checks label ++ (step_checks unit step ++ (body_name_checks unit others ++ rest)))
plain_found unit label line step others rest = ap first_broken (three (label_checks label) (step_checks unit step) (body_name_checks unit others) rest)

-- a line with a parenthesis
pub nested_found : (unit : ProgramUnit) (label : Option Word) (line : ℕ) (operator : Operator) (operand : Option Term) (inside : Lines) (close : ℕ) (others : Lines) (rest : List Check) →
    first_broken (body_name_checks unit (Nested label line operator operand inside close others) ++ rest)
    ≡ first_broken (label_checks label ++ (operand_checks unit operand ++ (body_name_checks unit inside ++ (body_name_checks unit others ++ rest))))
nested_found unit label line operator operand inside close others rest =
    ap first_broken (regrouped (label_checks label) (operand_checks unit operand) (body_name_checks unit inside) (body_name_checks unit others) rest)

-- a line with no instruction
pub bare_found : (unit : ProgramUnit) (label : Option Word) (others : Lines) (rest : List Check) →
    first_broken (body_name_checks unit (label_view label others) ++ rest) ≡ first_broken (label_checks label ++ (body_name_checks unit others ++ rest))
bare_found unit None others rest = refl
bare_found unit (Some word) others rest = refl

-- an instruction, opened
abbrev Opened : Type 0
Opened = Instr-F (Option Word → Lines → Lines) (Lines → Lines)

-- whatever follows a label, its rules come first
pub record LabelFirst (unit : ProgramUnit) (seen : Lines) (label : Option Word) (rest : List Check) : Type 0 where
  pub following : List Check
  pub is : first_broken (body_name_checks unit seen ++ rest) ≡ first_broken (label_checks label ++ following)

opened_first : (unit : ProgramUnit) (x : Opened) (label : Option Word) (others : Lines) (rest : List Check) → LabelFirst unit (instruction_view x label others) label rest
opened_first unit (Instr-F.Load negated operand line) label others rest = record { following = _; is = plain_found unit label line (Load negated (term_view operand)) others rest }
opened_first unit (Instr-F.Store storing target line) label others rest = record { following = _; is = plain_found unit label line (Store storing (term_view target)) others rest }
opened_first unit (Instr-F.Apply operator operand line) label others rest = record { following = _; is = plain_found unit label line (Apply operator (term_view operand)) others rest }
opened_first unit (Instr-F.Defer operator operand inside line close) label others rest = record { following = _; is = nested_found unit label line operator (option_map term_view operand) (joined inside.items) close others rest }
opened_first unit (Instr-F.Not line) label others rest = record { following = _; is = plain_found unit label line Negate others rest }
opened_first unit (Instr-F.Jump condition target line) label others rest = record { following = _; is = plain_found unit label line (Jump condition (name_of target.now)) others rest }
opened_first unit (Instr-F.Call condition instance arguments line) label others rest = record { following = _; is = plain_found unit label line (Call condition (name_of instance.now) (map assignment_view arguments.items)) others rest }
opened_first unit (Instr-F.Return condition line) label others rest = record { following = _; is = plain_found unit label line (Return condition) others rest }

made_none : (label : Option Spelled) (rest : Lines) → line_view (record { label = label; instr = None }) rest ≡ label_view (option_map word_view label) rest
made_none label rest = search (the_lemmas, rules)

first_by : (unit : ProgramUnit) (label : Option Spelled) (instr : Option Instr) (others : Lines) (rest : List Check) → LabelFirst unit (line_view (record { label = label; instr = instr }) others) (option_map word_view label) rest
first_by unit label None others rest = record {
  following = _;
  is = ap (λ l. first_broken (body_name_checks unit l ++ rest)) (made_none label others) ∙ bare_found unit (option_map word_view label) others rest;
}
first_by unit label (Some instr) others rest =
    let seen = ap (λ (f : Lines → Lines). f others) (fold_out-Line (Option Word → Lines → Lines) (Lines → Lines) instruction_view line_step_view (record { label = label; instr = Some instr }))
    ∙ ap (λ (f : Option Word → Lines → Lines). f (option_map word_view label) others) (fold_out-Instr (Option Word → Lines → Lines) (Lines → Lines) instruction_view line_step_view instr) in
    let h = opened_first unit _ (option_map word_view label) others rest in
    record { following = h.following; is = ap (λ l. first_broken (body_name_checks unit l ++ rest)) seen ∙ h.is }

pub label_first : (unit : ProgramUnit) (line : Line) (others : Lines) (rest : List Check) → LabelFirst unit (line_view line others) (option_map word_view line.label) rest
label_first unit line others rest = first_by unit line.label line.instr others rest

-- a line whose instruction is known
pub found_at : (unit : ProgramUnit) (line : Line) (instr : Option Instr) (others seen : Lines) (rest : List Check) → line.instr ≡ instr → line_view (record { label = line.label; instr = instr }) others ≡ seen →
    first_broken (body_name_checks unit (line_view line others) ++ rest) ≡ first_broken (body_name_checks unit seen ++ rest)
found_at unit line instr others seen rest e s = ap (λ i. first_broken (body_name_checks unit (line_view (record { label = line.label; instr = i }) others) ++ rest)) e ∙ ap (λ l. first_broken (body_name_checks unit l ++ rest)) s

made_load : (label : Option Spelled) (n : Bool) (o : Operand) (k : ℕ) (rest : Lines) → line_view (record { label = label; instr = Some (instrs.Load n o k) }) rest ≡ Plain (option_map word_view label) k (Load n (term_view o)) rest
made_load label n o k rest = search (the_lemmas, rules)

made_store : (label : Option Spelled) (n : StoreKind) (o : Operand) (k : ℕ) (rest : Lines) → line_view (record { label = label; instr = Some (instrs.Store n o k) }) rest ≡ Plain (option_map word_view label) k (Store n (term_view o)) rest
made_store label n o k rest = search (the_lemmas, rules)

made_apply : (label : Option Spelled) (n : Operator) (o : Operand) (k : ℕ) (rest : Lines) → line_view (record { label = label; instr = Some (instrs.Apply n o k) }) rest ≡ Plain (option_map word_view label) k (Apply n (term_view o)) rest
made_apply label n o k rest = search (the_lemmas, rules)

-- the rules of a line with a plain instruction
abbrev PlainAt : ProgramUnit → Line → Instr → Step → Type 0
PlainAt unit line instr step =
    (others : Lines) (rest : List Check) → line.instr ≡ Some instr →
    first_broken (body_name_checks unit (line_view line others) ++ rest) ≡ first_broken (label_checks (option_map word_view line.label) ++ (step_checks unit step ++ (body_name_checks unit others ++ rest)))

pub load_at : (unit : ProgramUnit) (line : Line) (n : Bool) (o : Operand) (k : ℕ) → PlainAt unit line (instrs.Load n o k) (Load n (term_view o))
load_at unit line n o k others rest e = found_at unit line _ others _ rest e (made_load line.label n o k others) ∙ plain_found unit (option_map word_view line.label) k (Load n (term_view o)) others rest

pub store_at : (unit : ProgramUnit) (line : Line) (n : StoreKind) (o : Operand) (k : ℕ) → PlainAt unit line (instrs.Store n o k) (Store n (term_view o))
store_at unit line n o k others rest e = found_at unit line _ others _ rest e (made_store line.label n o k others) ∙ plain_found unit (option_map word_view line.label) k (Store n (term_view o)) others rest

pub apply_at : (unit : ProgramUnit) (line : Line) (n : Operator) (o : Operand) (k : ℕ) → PlainAt unit line (instrs.Apply n o k) (Apply n (term_view o))
apply_at unit line n o k others rest e = found_at unit line _ others _ rest e (made_apply line.label n o k others) ∙ plain_found unit (option_map word_view line.label) k (Apply n (term_view o)) others rest

made_call : (label : Option Spelled) (n : Condition) (w : Bor (List ℕ)) (args : Vec Argument Global) (k : ℕ) (rest : Lines) →
    line_view (record { label = label; instr = Some (instrs.Call n w args k) }) rest ≡ Plain (option_map word_view label) k (Call n (name_of w.now) (map assignment_view args.items)) rest
made_call label n w args k rest = search (the_lemmas, rules)

made_defer : (label : Option Spelled) (n : Operator) (o : Option Operand) (inside : Vec Line Global) (k close : ℕ) (rest : Lines) →
    line_view (record { label = label; instr = Some (instrs.Defer n o inside k close) }) rest ≡ Nested (option_map word_view label) k n (option_map term_view o) (lines_view inside.items) close rest
made_defer label n o inside k close rest = search (the_lemmas, rules)

pub call_at : (unit : ProgramUnit) (line : Line) (n : Condition) (w : Bor (List ℕ)) (args : Vec Argument Global) (k : ℕ) → PlainAt unit line (instrs.Call n w args k) (Call n (name_of w.now) (map assignment_view args.items))
call_at unit line n w args k others rest e =
    found_at unit line _ others _ rest e (made_call line.label n w args k others) ∙ plain_found unit (option_map word_view line.label) k (Call n (name_of w.now) (map assignment_view args.items)) others rest

pub defer_at : (unit : ProgramUnit) (line : Line) (n : Operator) (o : Option Operand) (inside : Vec Line Global) (k close : ℕ) (others : Lines) (rest : List Check) → line.instr ≡ Some (instrs.Defer n o inside k close) →
    first_broken (body_name_checks unit (line_view line others) ++ rest)
    ≡ first_broken (label_checks (option_map word_view line.label) ++ (operand_checks unit (option_map term_view o) ++ (body_name_checks unit (lines_view inside.items) ++ (body_name_checks unit others ++ rest))))
defer_at unit line n o inside k close others rest e =
    found_at unit line _ others _ rest e (made_defer line.label n o inside k close others) ∙ nested_found unit (option_map word_view line.label) k n (option_map term_view o) (lines_view inside.items) close others rest

-- From each state of the walk some further tokens lead to the end of a text.
use Rattle.std.proofs.Common.{◌≡◌, ◌≢◌, ℕ, Bool, true, false, List, [], ◌∷◌, ◌++◌, Option, Some, None, refl, ap, subst, if◌then◌else◌, ◌∙◌, inl, inr}
use Rattle.std.specs.List.{AllByRecursion}
use Rattle.std.specs.Prelude.{◌⊎◌}
use Rattle.wc_laws_grammar.specs.{with_actual, LineShape, LabelAlone, Instructs, Opens, StartedLine, OpenCall, OfStep, OfOpening, OfArgument, InList, AtFirst, AtNext, AtAssign, AtValue, AtEnd, LineState, Start, Worded, Labelled, Operated, Jumped, Called, Instanced, Listing, Bracketed, Named, Pointed, Stepped, BracketedWith, Ended, InDeclaration, Undeclared, AfterNames, AfterComma, AfterColon, AfterType, AfterAssign, AfterValue, State, Outside, Unnamed, Declaring, AtLine, OnLine, Closed, after_closing, after_line, after_unit, body_start, colon_next, is_colon, has_content, lines_and, move, named_unit, start_move, on_line, open_in, open_on, unit_with, walk, section_or_line, section_of_word, with_declaration, step_of}
use Rattle.wc_laws_grammar.proofs.LineRests.{rest_of}
use Rattle.wc_laws_grammar.proofs.LineSound.{mark_on}
use Rattle.wc_laws_grammar.proofs.WalkedLines.{on_line_walked, walk_on, walk_then}
use Rattle.wc_laws_grammar.proofs.Languages.{next, pass}
use Rattle.wc_model.specs.Definitions.{same_name, IsProgramLast, end_var, end_word, not_word, unit_word, Symbol, Identifier, Truth, Colon, Semicolon, Assign, LineEnd, ClosingBracket, Mark, name_of, Opening, Position}
use Rattle.wc_model.specs.Language.Tree.{Word, Term, Constant, Variable, Field, Assignment, Step, Negate, Jump, Call, Lines, End, Plain, ProgramUnit}
use Rattle.wc_model.specs.declared.operator.Direction.TheVariants.{Into}
use Rattle.wc_model.specs.declared.source.Section.{Section}
use Rattle.wc_model.specs.declared.source.UnitKind.{UnitKind}
use Rattle.wc_model.specs.declared.source.UnitKind.TheVariants.{FunctionBlock, Program}
use Rattle.wc_model.specs.declared.value.Value.TheVariants.{Bool as BoolValue}

-- a token on some line
abbrev sign : Symbol → Mark
sign symbol = mark_on symbol 0

-- TRUE, and the end of its line
abbrev truth : Term
truth = Constant (BoolValue true)

-- an opening line after its bracket
abbrev pub IsOpening : LineState → Type 0
IsOpening (Bracketed started operator) = Unit {0}
IsOpening (BracketedWith started operator x) = Unit {0}
IsOpening (Named started (OfOpening operator) name) = Unit {0}
IsOpening (Pointed started (OfOpening operator) name) = Unit {0}
IsOpening _ = ⊥

-- no parenthesis opens
abbrev pub NoOpens : LineShape → Type 0
NoOpens (Opens label line operator x) = ⊥
NoOpens _ = Unit {0}

-- what completes a line that has started: a shape and its tokens
pub record Completed (state : LineState) : Type 0 where
  pub line_shape : LineShape
  pub more : List Mark
  pub rest : rest_of state line_shape more
  pub sort : IsOpening state ⊎ (NoOpens line_shape × ((p : Position) → open_on p state ≡ open_in p.unit p.openings))

-- a name, and what completes a call's list after it
list_completed : (started : StartedLine) (call : OpenCall) (item : InList) → Completed (Listing started call item)
list_completed started call AtFirst = record { sort = inr (tt, λ p. refl); line_shape = Instructs started.label started.line (Call call.condition call.instance (call.arguments ++ [])); more = sign ClosingBracket ∷ sign LineEnd ∷ []; rest = ([], refl, record { prefix = []; rest = sign ClosingBracket ∷ sign LineEnd ∷ []; whole = refl; begins = refl; goes_on = next refl refl }) }
list_completed started call AtNext =
    let a : Assignment = record { direction = Into; formal = 97 ∷ []; actual = truth } in
    record {
      sort = inr (tt, λ p. refl);
      line_shape = Instructs started.label started.line (Call call.condition call.instance (call.arguments ++ a ∷ []));
      more = sign (Identifier (97 ∷ [])) ∷ sign Assign ∷ sign (Truth true) ∷ sign ClosingBracket ∷ sign LineEnd ∷ [];
      rest = (
        a ∷ [],
        refl,
        record {
          prefix = sign (Identifier (97 ∷ [])) ∷ sign Assign ∷ sign (Truth true) ∷ [];
          rest = sign ClosingBracket ∷ sign LineEnd ∷ [];
          whole = refl;
          begins = record { prefix = sign (Identifier (97 ∷ [])) ∷ sign Assign ∷ sign (Truth true) ∷ []; rest = []; whole = refl; begins = next refl (next refl (inl refl)); goes_on = refl };
          goes_on = next refl refl;
        },
      );
    }
list_completed started call (AtAssign input) =
    let a : Assignment = record { direction = Into; formal = input; actual = truth } in
    record {
      sort = inr (tt, λ p. refl);
      line_shape = Instructs started.label started.line (Call call.condition call.instance (call.arguments ++ a ∷ []));
      more = sign Assign ∷ sign (Truth true) ∷ sign ClosingBracket ∷ sign LineEnd ∷ [];
      rest = (a ∷ [], refl, record { prefix = sign Assign ∷ sign (Truth true) ∷ []; rest = sign ClosingBracket ∷ sign LineEnd ∷ []; whole = refl; begins = (refl, next refl (next (inl refl) refl)); goes_on = next refl refl });
    }
list_completed started call (AtValue input) =
    let a : Assignment = with_actual input truth in
    record {
      sort = inr (tt, λ p. refl);
      line_shape = Instructs started.label started.line (Call call.condition call.instance (call.arguments ++ a ∷ []));
      more = sign (Truth true) ∷ sign ClosingBracket ∷ sign LineEnd ∷ [];
      rest = (a ∷ [], refl, record { prefix = sign (Truth true) ∷ []; rest = sign ClosingBracket ∷ sign LineEnd ∷ []; whole = refl; begins = (refl, next (inl refl) refl); goes_on = next refl refl });
    }
list_completed started call AtEnd = record { sort = inr (tt, λ p. refl); line_shape = Instructs started.label started.line (Call call.condition call.instance (call.arguments ++ [])); more = sign ClosingBracket ∷ sign LineEnd ∷ []; rest = ([], refl, record { prefix = []; rest = sign ClosingBracket ∷ sign LineEnd ∷ []; whole = refl; begins = refl; goes_on = next refl refl }) }

-- each line that has started may be completed; if no parenthesis opens, to an instruction or a label
pub completed : (state : LineState) → state ≢ Start → ((line_shape : LineShape) → state ≢ Ended line_shape) → Completed state
completed Start n m = absurd (n refl)
completed (Worded label) n m = record { sort = inr (tt, λ p. refl); line_shape = LabelAlone label; more = sign Colon ∷ sign LineEnd ∷ []; rest = next refl (refl, refl) }
completed (Labelled label) n m = record { sort = inr (tt, λ p. refl); line_shape = LabelAlone label; more = sign LineEnd ∷ []; rest = (refl, refl) }
completed (Operated started operating) n m = record { sort = inr (tt, λ p. refl); line_shape = Instructs started.label started.line (step_of operating truth); more = sign (Truth true) ∷ sign LineEnd ∷ []; rest = inl (truth, refl, next (inl refl) refl) }
completed (Jumped started condition) n m = record { sort = inr (tt, λ p. refl); line_shape = Instructs started.label started.line (Jump condition (97 ∷ [])); more = sign (Identifier (97 ∷ [])) ∷ sign LineEnd ∷ []; rest = (97 ∷ [], refl, next refl refl) }
completed (Called started condition) n m =
    record { sort = inr (tt, λ p. refl); line_shape = Instructs started.label started.line (Call condition (97 ∷ []) []); more = sign (Identifier (97 ∷ [])) ∷ sign LineEnd ∷ []; rest = (97 ∷ [], [], refl, next refl (pass (inl refl) refl)) }
completed (Instanced started condition instance) n m = record { sort = inr (tt, λ p. refl); line_shape = Instructs started.label started.line (Call condition instance []); more = sign LineEnd ∷ []; rest = ([], refl, pass (inl refl) refl) }
completed (Listing started call item) n m = list_completed started call item
completed (Bracketed started operator) n m = record { sort = inl tt; line_shape = Opens started.label started.line operator None; more = sign LineEnd ∷ []; rest = (None, refl, pass refl refl) }
completed (Named started (OfStep operating) name) n m = record { sort = inr (tt, λ p. refl); line_shape = Instructs started.label started.line (step_of operating (Variable name)); more = sign LineEnd ∷ []; rest = (Variable name, refl, pass (refl, refl) refl) }
completed (Named started (OfOpening operator) name) n m = record { sort = inl tt; line_shape = Opens started.label started.line operator (Some (Variable name)); more = sign LineEnd ∷ []; rest = (Variable name, refl, pass (refl, refl) refl) }
completed (Named started (OfArgument call input) name) n m = record {
  sort = inr (tt, λ p. refl);
  line_shape = Instructs started.label started.line (Call call.condition call.instance (call.arguments ++ with_actual input (Variable name) ∷ []));
  more = sign ClosingBracket ∷ sign LineEnd ∷ [];
  rest = (Variable name, [], refl, record { prefix = []; rest = sign ClosingBracket ∷ sign LineEnd ∷ []; whole = refl; begins = pass (refl, refl) refl; goes_on = next refl refl });
}
completed (Pointed started (OfStep operating) name) n m = record { sort = inr (tt, λ p. refl); line_shape = Instructs started.label started.line (step_of operating (Field name (97 ∷ []))); more = sign (Identifier (97 ∷ [])) ∷ sign LineEnd ∷ []; rest = (Field name (97 ∷ []), refl, record { prefix = sign (Identifier (97 ∷ [])) ∷ []; rest = sign LineEnd ∷ []; whole = refl; begins = (refl, refl); goes_on = refl }) }
completed (Pointed started (OfOpening operator) name) n m = record { sort = inl tt; line_shape = Opens started.label started.line operator (Some (Field name (97 ∷ []))); more = sign (Identifier (97 ∷ [])) ∷ sign LineEnd ∷ []; rest = (Field name (97 ∷ []), refl, record { prefix = sign (Identifier (97 ∷ [])) ∷ []; rest = sign LineEnd ∷ []; whole = refl; begins = (refl, refl); goes_on = refl }) }
completed (Pointed started (OfArgument call input) name) n m = record {
  sort = inr (tt, λ p. refl);
  line_shape = Instructs started.label started.line (Call call.condition call.instance (call.arguments ++ with_actual input (Field name (97 ∷ [])) ∷ []));
  more = sign (Identifier (97 ∷ [])) ∷ sign ClosingBracket ∷ sign LineEnd ∷ [];
  rest = (Field name (97 ∷ []), [], refl, record { prefix = sign (Identifier (97 ∷ [])) ∷ []; rest = sign ClosingBracket ∷ sign LineEnd ∷ []; whole = refl; begins = record { prefix = sign (Identifier (97 ∷ [])) ∷ []; rest = []; whole = refl; begins = (refl, refl); goes_on = refl }; goes_on = next refl refl });
}
completed (Stepped started step) n m = record { sort = inr (tt, λ p. refl); line_shape = Instructs started.label started.line step; more = sign LineEnd ∷ []; rest = (refl, refl) }
completed (BracketedWith started operator x) n m = record { sort = inl tt; line_shape = Opens started.label started.line operator (Some x); more = sign LineEnd ∷ []; rest = (refl, refl) }
completed (Ended line_shape) n m = absurd (m line_shape refl)

-- From a state some further tokens lead to the start of a line with no parenthesis open, in the same unit.
pub record Exits (state : State) (before : List ProgramUnit) (unit : ProgramUnit) : Type 0 where
  pub more : List Mark
  pub done : Lines
  pub leads : walk state more false ≡ Some (AtLine (record (body_start before unit) { done = done }))

-- the start of a line in a body
exits_body : (p : Position) → p.openings ≡ [] → Exits (AtLine p) p.before p.unit
exits_body p e = record { more = []; done = p.done; leads = λ i. Some (AtLine (record p { openings = e i })) }

-- one more token, whether a colon follows it or not
exits_by : (state next : State) (before : List ProgramUnit) (unit : ProgramUnit) (symbol : Symbol) → ((colon : Bool) → move state symbol 0 colon ≡ Some next) → Exits next before unit → Exits state before unit
exits_by state next before unit symbol e h = record {
  more = sign symbol ∷ h.more;
  done = h.done;
  leads = ap (λ o. walk_on o h.more false) (e (colon_next h.more false)) ∙ h.leads;
}

-- parentheses with a further instruction hold something
holds_more : (x : Option Term) (done : Lines) (label : Option Word) (line : ℕ) (step : Step) → has_content x (lines_and done (Plain label line step End)) ≡ true
holds_more None End label line step = refl
holds_more other another label line step = refl

-- NOT on a line, and the `)` of the innermost parenthesis
exits_open : (openings : List Opening) (p : Position) → p.openings ≡ openings → Exits (AtLine p) p.before p.unit
exits_open [] p e = exits_body p e
exits_open (o ∷ outer) p e =
    exits_by (AtLine p) (OnLine p (Stepped not_started Negate)) p.before p.unit (Identifier not_word) (λ c. ap (λ os. start_move p os (Identifier not_word) 0 c) e)
    (exits_by (OnLine p (Stepped not_started Negate)) (AtLine q) p.before p.unit LineEnd (λ c. refl)
    (exits_by (AtLine q) (Closed r) p.before p.unit ClosingBracket
    (λ c. ap (λ os. start_move q os ClosingBracket 0 c) e ∙ ap (λ b. if b then Some (Closed r) else None) (holds_more o.operand p.done None 0 Negate))
    (exits_by (Closed r) (AtLine r) p.before p.unit LineEnd (λ c. refl) (exits_open outer r refl))))
  where
    not_started : StartedLine
    not_started = record { label = None; line = 0 }

    q : Position
    q = after_line p (Instructs None 0 Negate)

    r : Position
    r = after_closing q o outer 0

-- the start of any line
pub exits_line : (p : Position) → Exits (AtLine p) p.before p.unit
exits_line p = exits_open p.openings p refl

-- after a `)`
pub exits_closed : (p : Position) → Exits (Closed p) p.before p.unit
exits_closed p = exits_by (Closed p) (AtLine p) p.before p.unit LineEnd (λ c. refl) (exits_line p)

-- a unit is a program only as the last
abbrev pub AreBlocks : List ProgramUnit → Type 0
AreBlocks us = AllByRecursion (λ unit. unit.kind ≡ FunctionBlock) us

pub program_last : (us : List ProgramUnit) (unit : ProgramUnit) → AreBlocks us → unit.kind ≡ Program → IsProgramLast (us ++ unit ∷ [])
program_last [] unit h e = e
program_last (first ∷ []) unit h e = (h.0, e)
program_last (first ∷ second ∷ more) unit h e = (h.0, program_last (second ∷ more) unit h.1 e)

pub blocks_and : (us : List ProgramUnit) (unit : ProgramUnit) → AreBlocks us → unit.kind ≡ FunctionBlock → AreBlocks (us ++ unit ∷ [])
blocks_and [] unit h e = (e, tt)
blocks_and (first ∷ us) unit h e = (h.0, blocks_and us unit h.1 e)

-- Some further tokens lead to the end of a text.
pub record Finishes (state : State) : Type 0 where
  pub more : List Mark
  pub text : List ProgramUnit
  pub plain : colon_next more false ≡ false
  pub leads : walk state more false ≡ Some (Outside text)
  pub order : IsProgramLast text

finishes_by : (state next : State) (symbol : Symbol) → is_colon symbol ≡ false → move state symbol 0 false ≡ Some next → Finishes next → Finishes state
finishes_by state next symbol n e h = record {
  more = sign symbol ∷ h.more;
  text = h.text;
  plain = n;
  order = h.order;
  leads = ap (λ c. walk_on (move state symbol 0 c) h.more false) h.plain ∙ ap (λ o. walk_on o h.more false) e ∙ h.leads;
}

-- a program P
abbrev last_program : ProgramUnit
last_program = record { kind = Program; line = 0; name = record { line = 0; name = 97 ∷ [] }; spelled = 97 ∷ []; declarations = []; body = End }

-- whole units with no program
pub finishes_blocks : (us : List ProgramUnit) → AreBlocks us → Finishes (Outside us)
finishes_blocks us h =
    finishes_by (Outside us) (Unnamed us Program 0) (Identifier (unit_word Program)) refl refl
    (finishes_by (Unnamed us Program 0) (AtLine (body_start us last_program)) (Identifier (97 ∷ [])) refl refl
    (finishes_by (AtLine (body_start us last_program)) (Outside (us ++ last_program ∷ [])) (Identifier (end_word Program)) refl refl
    (record { more = []; text = us ++ last_program ∷ []; plain = refl; leads = refl; order = program_last us last_program h refl })))

-- and whole units with one at their end
pub finishes_text : (us : List ProgramUnit) → IsProgramLast us → Finishes (Outside us)
finishes_text us h = record { more = []; text = us; plain = refl; leads = refl; order = h }

-- the end of a unit, after blocks
finishes_unit : (before : List ProgramUnit) (unit : ProgramUnit) (kind : UnitKind) → unit.kind ≡ kind → AreBlocks before → Finishes (Outside (before ++ unit ∷ []))
finishes_unit before unit FunctionBlock e h = finishes_blocks (before ++ unit ∷ []) (blocks_and before unit h e)
finishes_unit before unit Program e h = finishes_text (before ++ unit ∷ []) (program_last before unit h e)

-- the word that ends a unit ends it
ends_unit : (kind : UnitKind) → same_name (name_of (end_word kind)) (end_word kind) ≡ true
ends_unit FunctionBlock = refl
ends_unit Program = refl

pub unit_ended : (p : Position) → p.openings ≡ [] → move (AtLine p) (Identifier (end_word p.unit.kind)) 0 false ≡ Some (after_unit p)
unit_ended p e =
    ap (λ os. start_move p os (Identifier (end_word p.unit.kind)) 0 false) e
    ∙ ap (λ b. if b then Some (after_unit p) else section_or_line p (end_word p.unit.kind) 0 (section_of_word p.done (name_of (end_word p.unit.kind)))) (ends_unit p.unit.kind)

finishes_line : (p : Position) → p.openings ≡ [] → AreBlocks p.before → Finishes (AtLine p)
finishes_line p e h =
    finishes_by (AtLine p) (after_unit p) (Identifier (end_word p.unit.kind)) refl (unit_ended p e) (finishes_unit p.before (unit_with p.unit p.done) p.unit.kind refl h)

-- Some further tokens lead to the end of a text, whatever the first of them is.
pub record Finishing (state : State) : Type 0 where
  pub more : List Mark
  pub text : List ProgramUnit
  pub leads : walk state more false ≡ Some (Outside text)
  pub order : IsProgramLast text

-- from a state that exits
pub finishing_exit : (state : State) (before : List ProgramUnit) (unit : ProgramUnit) → AreBlocks before → Exits state before unit → Finishing state
finishing_exit state before unit h x =
    let p : Position = record (body_start before unit) { done = x.done } in
    let f = finishes_line p refl h in
    record {
      more = x.more ++ f.more;
      text = f.text;
      leads = walk_then state (AtLine p) x.more f.more false _ (ap (walk state x.more) f.plain ∙ x.leads) f.leads;
      order = f.order;
    }

-- a state that leads to one that exits
exits_walk : (state next : State) (before : List ProgramUnit) (unit : ProgramUnit) (tokens : List Mark) → ((colon : Bool) → walk state tokens colon ≡ Some next) → Exits next before unit → Exits state before unit
exits_walk state next before unit tokens e h = record {
  more = tokens ++ h.more;
  done = h.done;
  leads = walk_then state next tokens h.more false _ (e (colon_next h.more false)) h.leads;
}

line_before : (p : Position) (line_shape : LineShape) → (after_line p line_shape).before ≡ p.before
line_before p (LabelAlone label) = refl
line_before p (Instructs label line step) = refl
line_before p (Opens label line operator x) = refl

line_unit : (p : Position) (line_shape : LineShape) → (after_line p line_shape).unit ≡ p.unit
line_unit p (LabelAlone label) = refl
line_unit p (Instructs label line step) = refl
line_unit p (Opens label line operator x) = refl

-- what is on a line is after a token of it
on_line_is : (p : Position) (line : LineState) → ((line_shape : LineShape) → line ≢ Ended line_shape) → on_line p line ≡ OnLine p line
on_line_is p (Ended line_shape) n = absurd (n line_shape refl)
on_line_is p _ n = refl

-- a line that has started
pub exits_on : (p : Position) (line : LineState) → line ≢ Start → ((line_shape : LineShape) → line ≢ Ended line_shape) → Exits (OnLine p line) p.before p.unit
exits_on p line n m =
    let c = completed line n m in
    exits_walk (OnLine p line) (AtLine (after_line p c.line_shape)) p.before p.unit c.more (λ colon. subst (λ s. walk s c.more colon ≡ Some (AtLine (after_line p c.line_shape))) (on_line_is p line m) (on_line_walked p line c.line_shape c.more colon c.rest))
    (subst (λ u. Exits (AtLine (after_line p c.line_shape)) p.before u) (line_unit p c.line_shape) (subst (λ b. Exits (AtLine (after_line p c.line_shape)) b (after_line p c.line_shape).unit) (line_before p c.line_shape) (exits_line (after_line p c.line_shape))))

-- after a unit's first word
pub exits_unnamed : (us : List ProgramUnit) (kind : UnitKind) (line : ℕ) → Exits (Unnamed us kind line) us (named_unit kind line 0 (97 ∷ []))
exits_unnamed us kind line = exits_by (Unnamed us kind line) (AtLine (body_start us (named_unit kind line 0 (97 ∷ [])))) us _ (Identifier (97 ∷ [])) (λ c. refl) (exits_body _ refl)

-- a section exits in its unit, which may have one more declaration
pub record SectionExits (us : List ProgramUnit) (unit : ProgramUnit) (section : Section) (place : InDeclaration) : Type 0 where
  pub unit' : ProgramUnit
  pub line : unit'.line ≡ unit.line
  pub exits : Exits (Declaring us unit section place) us unit'

section_by : (us : List ProgramUnit) (unit unit' : ProgramUnit) (section : Section) (place place' : InDeclaration) (symbol : Symbol) → unit'.line ≡ unit.line → ((colon : Bool) → move (Declaring us unit section place) symbol 0 colon ≡ Some (Declaring us unit' section place'))
    → SectionExits us unit' section place' → SectionExits us unit section place
section_by us unit unit' section place place' symbol l e h = record { unit' = h.unit'; line = h.line ∙ l; exits = exits_by (Declaring us unit section place) (Declaring us unit' section place') us h.unit' symbol e h.exits }

section_ended : (us : List ProgramUnit) (unit : ProgramUnit) (section : Section) → SectionExits us unit section Undeclared
section_ended us unit section = record { unit' = unit; line = refl; exits = exits_by (Declaring us unit section Undeclared) (AtLine (body_start us unit)) us unit (Identifier end_var) (λ c. refl) (exits_body (body_start us unit) refl) }

from_colon : (us : List ProgramUnit) (unit : ProgramUnit) (section : Section) (names : List Word) → SectionExits us unit section (AfterColon names)
from_colon us unit section names =
    section_by us unit unit section _ (AfterType names (record { line = 0; name = 97 ∷ [] })) (Identifier (97 ∷ [])) refl (λ c. refl)
    (section_by us unit (with_declaration unit section names (record { line = 0; name = 97 ∷ [] }) None) section _ Undeclared Semicolon refl (λ c. refl) (section_ended us _ section))

pub section_exits : (us : List ProgramUnit) (unit : ProgramUnit) (section : Section) (place : InDeclaration) → SectionExits us unit section place
section_exits us unit section Undeclared = section_ended us unit section
section_exits us unit section (AfterValue names type_name initial) =
    section_by us unit (with_declaration unit section names type_name (Some initial)) section _ Undeclared Semicolon refl (λ c. refl) (section_ended us _ section)
section_exits us unit section (AfterAssign names type_name) =
    section_by us unit unit section _ (AfterValue names type_name (record { value = BoolValue true; line = 0 })) (Truth true) refl (λ c. refl)
    (section_by us unit (with_declaration unit section names type_name (Some (record { value = BoolValue true; line = 0 }))) section _ Undeclared Semicolon refl (λ c. refl) (section_ended us _ section))
section_exits us unit section (AfterType names type_name) =
    section_by us unit (with_declaration unit section names type_name None) section _ Undeclared Semicolon refl (λ c. refl) (section_ended us _ section)
section_exits us unit section (AfterColon names) = from_colon us unit section names
section_exits us unit section (AfterNames names) = section_by us unit unit section _ (AfterColon names) Colon refl (λ c. refl) (from_colon us unit section names)
section_exits us unit section (AfterComma names) =
    section_by us unit unit section _ (AfterNames (names ++ record { line = 0; name = 97 ∷ [] } ∷ [])) (Identifier (97 ∷ [])) refl (λ c. refl)
    (section_by us unit unit section _ (AfterColon (names ++ record { line = 0; name = 97 ∷ [] } ∷ [])) Colon refl (λ c. refl) (from_colon us unit section _))

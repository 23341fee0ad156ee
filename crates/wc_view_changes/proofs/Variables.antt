-- The lines of one declared name, by the type that it has.
use Rattle.std.proofs.Common.{◌≡◌, ℕ, ◌<◌, ◌≤◌, Bool, false, List, [], ◌∷◌, ◌++◌, map, length, take, Option, Some, None, sym, ap, subst, ◌∙◌, arith, is_some, append-nil}
use Rattle.wc_model.proofs.Common.{option_and_then, and-true, take_all, flat_map}
use Rattle.wc_model.specs.Definitions.{VariableType, Elementary, Standard, Block, block_named, frame_of, Name, name_of, Scope, type_of, Content, first_content, ProgramUnit, unit_view}
use Rattle.wc_model.specs.declared.block.StandardBlock.{StandardBlock}
use Rattle.wc_model.specs.declared.kind.Kind.{Kind}
use Rattle.wc_model.specs.declared.source.Initial.{Initial}
use Rattle.wc_model.specs.declared.source.Source.{Source}
use Rattle.wc_model.specs.declared.source.Unit.{Unit as CodeUnit}
use Rattle.wc_names.specs.Numbered.{numbered_type}
use Rattle.wc_names.specs.declared.declared_type.DeclaredType.TheVariants as numbered
use Rattle.wc_names.proofs.Places.{TypeCase, of_block, of_elementary, of_standard, type_case}
use Rattle.wc_view_changes.specs.{pass_text, has_shape, Plain, Instance, Declared, declared_of, inside, seen, shown_by, shown_from, shown_in, IsAt, line_between, lines_between, numbered_side, side_after, side_found, variable_lines}
use Rattle.wc_view_changes.specs.declared.describing.Pass.{Pass}
use Rattle.wc_view_changes.proofs.Between.{lines_inside}
use Rattle.wc_view_changes.proofs.Leads.{plain_kept, standard_kept}
use Rattle.wc_view_changes.proofs.Nothing.{nothing_shown}
use Rattle.wc_view_changes.proofs.Units.{CodeBlock, code_block}

-- the type that a name has, by its number
pub elementary_type : (before : List ProgramUnit) (type : Option VariableType) (kind : Kind) → Some (numbered.Elementary kind) ≡ option_and_then (numbered_type before) type → type ≡ Some (Elementary kind)
elementary_type before type kind e = by (type_case before type (numbered.Elementary kind) (sym e))
  where
    by : TypeCase before type (numbered.Elementary kind) → type ≡ Some (Elementary kind)
    by (of_elementary k t d) = let same : kind ≡ k = cc in t ∙ ap (λ x. Some (Elementary x)) (sym same)
    by (of_standard b t d) = cc
    by (of_block n u us t f d) = cc

pub standard_type : (before : List ProgramUnit) (type : Option VariableType) (block : StandardBlock) → Some (numbered.Standard block) ≡ option_and_then (numbered_type before) type → type ≡ Some (Standard block)
standard_type before type block e = by (type_case before type (numbered.Standard block) (sym e))
  where
    by : TypeCase before type (numbered.Standard block) → type ≡ Some (Standard block)
    by (of_elementary k t d) = cc
    by (of_standard b t d) = let same : block ≡ b = cc in t ∙ ap (λ x. Some (Standard x)) (sym same)
    by (of_block n u us t f d) = cc

-- a name of no type has no line
pub no_lines : (pass : Pass) (side : Option Scope) (before : List CodeUnit) (u : CodeUnit) (prefix : List ℕ) (v : Declared) (out : List ℕ) → is_some (type_of (seen before u) (name_of v.name)) ≡ false → out ≡ out ++ variable_lines pass side before u prefix v
no_lines pass side before u prefix v out none = by (type_of (seen before u) (name_of v.name)) none
  where
    by : (type : Option VariableType) → is_some type ≡ false → out ≡ out ++ flat_map (line_between pass side (seen before u) prefix) (shown_by (shown_in before) v type)
    by None e = sym (append-nil out)
    by (Some type) e = cc

-- a plain variable
pub plain_line : (pass : Pass) (side : Option Scope) (before : List CodeUnit) (u : CodeUnit) (prefix name : List ℕ) (initial : Option Initial) (kind : Kind) (content : Content) → type_of (seen before u) (name_of name) ≡ Some (Elementary kind) → content ≡ first_content kind initial →
    pass_text pass (has_shape (numbered_side side (name_of name)) (Plain kind content)) (prefix ++ name) (Plain kind content) (side_found side (name_of name ∷ [])) ≡ variable_lines pass side before u prefix (record { name = name; initial = initial })
plain_line pass side before u prefix name initial kind content typed is =
    let n = name_of name in
    let line = line_between pass side (seen before u) prefix in
    let text = λ (b : Bool) (c : Content). pass_text pass b (prefix ++ name) (Plain kind c) (side_found side (n ∷ [])) in
    ap (λ c. text (has_shape (numbered_side side n) (Plain kind c)) c) is
    ∙ ap (λ b. text b (first_content kind initial)) (sym (and-true _ ∙ plain_kept side (seen before u) n kind (first_content kind initial) typed))
    ∙ sym (append-nil (line (record { instances = []; name = name; shape = Plain kind (first_content kind initial) })))
    ∙ ap (λ t. flat_map line (shown_by (shown_in before) (record { name = name; initial = initial }) t)) (sym typed)

-- an instance of a standard block
pub instance_line : (pass : Pass) (side : Option Scope) (before : List CodeUnit) (u : CodeUnit) (prefix name : List ℕ) (initial : Option Initial) (block : StandardBlock) → type_of (seen before u) (name_of name) ≡ Some (Standard block) →
    pass_text pass (has_shape (numbered_side side (name_of name)) (Instance block)) (prefix ++ name) (Instance block) (side_found side (name_of name ∷ [])) ≡ variable_lines pass side before u prefix (record { name = name; initial = initial })
instance_line pass side before u prefix name initial block typed =
    let n = name_of name in
    let line = line_between pass side (seen before u) prefix in
    ap (λ b. pass_text pass b (prefix ++ name) (Instance block) (side_found side (n ∷ []))) (sym (standard_kept side (seen before u) n block typed))
    ∙ sym (append-nil (line (record { instances = []; name = name; shape = Instance block })))
    ∙ ap (λ t. flat_map line (shown_by (shown_in before) (record { name = name; initial = initial }) t)) (sym typed)

-- an instance of a block of the text
pub record Into (source : Source) (unit number : ℕ) (before : List CodeUnit) (u : CodeUnit) (name : Name) : Type 0 where
  pub block : Name
  pub typed : type_of (seen before u) name ≡ Some (Block block)
  pub found : ProgramUnit × List ProgramUnit
  pub there : block_named (map unit_view before) block ≡ Some found
  pub code : CodeBlock source unit before block found
  pub at : IsAt source number code.earlier code.unit
  pub below : number < unit

pub into : (source : Source) (unit number : ℕ) (before : List CodeUnit) (u : CodeUnit) (name : Name) → IsAt source unit before u → Some (numbered.Block number) ≡ option_and_then (numbered_type (map unit_view before)) (type_of (seen before u) name) → Into source unit number before u name
into source unit number before u name at e = by (type_case (map unit_view before) (type_of (seen before u) name) (numbered.Block number) (sym e))
  where
    by : TypeCase (map unit_view before) (type_of (seen before u) name) (numbered.Block number) → Into source unit number before u name
    by (of_elementary k t d) = absurd (cc)
    by (of_standard b t d) = absurd (cc)
    by (of_block n g gs t f d) =
        let same : number ≡ length gs = cc in
        let code = code_block source unit before u n (g, gs) at f in
        let below : number < unit = omega (arith, code.below, same) in
        record { block = n; typed = t; found = (g, gs); there = f; code = code; at = subst (λ k. IsAt source k code.earlier code.unit) (sym same) code.at; below = below }

pub block_lines : (source : Source) (unit number : ℕ) (pass : Pass) (side : Option Scope) (before : List CodeUnit) (u : CodeUnit) (prefix name : List ℕ) (initial : Option Initial) (i : Into source unit number before u (name_of name)) →
    lines_between pass (side_after side (name_of name)) i.code.earlier i.code.unit (prefix ++ (name ++ 46 ∷ [])) (declared_of i.code.unit) ≡ variable_lines pass side before u prefix (record { name = name; initial = initial })
block_lines source unit number pass side before u prefix name initial i =
    let following = side_after side (name_of name) in
    let longer = prefix ++ (name ++ 46 ∷ []) in
    let ss = shown_from i.code.earlier i.code.unit in
    ap (λ (found : ProgramUnit × List ProgramUnit). flat_map (line_between pass following (record { before = found.1; unit = found.0 }) longer) ss) i.code.is
    ∙ sym (lines_inside pass side (seen before u) prefix name i.block i.found.0 i.found.1 i.typed i.there ss)
    ∙ ap (λ xs. flat_map (line_between pass side (seen before u) prefix) (map (inside name) xs)) (sym i.code.shown)
    ∙ ap (λ t. flat_map (line_between pass side (seen before u) prefix) (shown_by (shown_in before) (record { name = name; initial = initial }) t)) (sym i.typed)

-- one whose block has no place
pub passed_lines : (source : Source) (unit number : ℕ) (pass : Pass) (side : Option Scope) (before : List CodeUnit) (u : CodeUnit) (prefix name : List ℕ) (initial : Option Initial) (out : List ℕ) (i : Into source unit number before u (name_of name)) →
    length (frame_of (seen i.code.earlier i.code.unit)) ≡ 0 → out ≡ out ++ variable_lines pass side before u prefix (record { name = name; initial = initial })
passed_lines source unit number pass side before u prefix name initial out i none =
    let none_shown : shown_in before i.block ≡ [] = i.code.shown ∙ nothing_shown i.code.earlier i.code.unit none in
    sym (append-nil out)
    ∙ ap (λ xs. out ++ flat_map (line_between pass side (seen before u) prefix) (map (inside name) xs)) (sym none_shown)
    ∙ ap (λ t. out ++ flat_map (line_between pass side (seen before u) prefix) (shown_by (shown_in before) (record { name = name; initial = initial }) t)) (sym i.typed)

-- all parts
pub all_reported : {X : Type 0} (f : X → List ℕ) (start new : List ℕ) (xs : List X) (i : ℕ) → length xs ≤ i → new ≡ start ++ flat_map f (take i xs) → new ≡ start ++ flat_map f xs
all_reported f start new xs i past so = so ∙ ap (λ ys. start ++ flat_map f ys) (take_all i xs past)

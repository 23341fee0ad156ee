-- The lines of a whole text, from its program on.
use Rattle.std.proofs.Common.{◌≡◌, ℕ, suc, ◌-◌, ◌≤◌, List, [], ◌∷◌, ◌++◌, map, length, reverse, Option, Some, None, refl, sym, ap, ◌∙◌, arith, append_assoc}
use Rattle.wc_model.proofs.Common.{reverse_onto, flat_map-append, flat_map-map, flat_map, list_all, SomeIff}
use Rattle.std.proofs.lemmas.List.{append-nil, length-reverse, reverse-reverse}
use Rattle.wc_cost.proofs.TextUnits.{unit_at}
use Rattle.wc_model.specs.Definitions.{path_lead, same_lead, Name, name_of, Scope, type_of, ProgramUnit, Text, text_view, unit_view}
use Rattle.wc_model.specs.declared.operand.Word.{Word}
use Rattle.wc_model.specs.declared.source.Decl.{Decl}
use Rattle.wc_model.specs.declared.source.Source.{Source}
use Rattle.wc_model.specs.declared.source.Unit.{Unit as CodeUnit}
use Rattle.wc_names.specs.RepresentsText.{onto}
use Rattle.wc_view_changes.specs.{found_in, is_kept, line_alongside, lines_alongside, pass_text, path_text, program_of, IsAt, IsSide, kept_between, line_between, lines_between, side_lead, variable_lines}
use Rattle.wc_view_changes.specs.Shown.{Declared, Shown, declared_in, declared_of, names_of, paths_of, seen, shown_by, shown_from, shown_in}
use Rattle.wc_view_changes.specs.declared.describing.Pass.{Pass}
use Rattle.wc_view_changes.proofs.Units.{map_onto}

onto_reverse : {X : Type 0} (xs ys : List X) → onto xs ys ≡ reverse xs ++ ys
onto_reverse [] ys = refl
onto_reverse (x ∷ xs) ys = onto_reverse xs (x ∷ ys) ∙ sym (append_assoc (reverse xs) (x ∷ []) ys) ∙ ap (λ r. r ++ ys) (sym (reverse_onto xs x []))

map_reverse : {X Y : Type 0} (f : X → Y) (xs : List X) → map f (reverse xs) ≡ reverse (map f xs)
map_reverse f xs = ap (map f) (sym (append-nil (reverse xs)) ∙ sym (onto_reverse xs [])) ∙ map_onto f xs [] ∙ onto_reverse (map f xs) [] ∙ append-nil (reverse (map f xs))

-- a list whose last item and those before it are known
last_of : {X : Type 0} (xs : List X) (x : X) (before : List X) → reverse xs ≡ x ∷ before → onto before (x ∷ []) ≡ xs
last_of xs x before e = onto_reverse before (x ∷ []) ∙ sym (reverse_onto before x []) ∙ ap reverse (sym e) ∙ reverse-reverse xs

last_counted : {X : Type 0} (xs : List X) (x : X) (before : List X) → reverse xs ≡ x ∷ before → length xs ≡ suc (length before)
last_counted xs x before e = sym (length-reverse xs) ∙ ap length e

-- the program of the new text is its last unit
pub program_at : (source : Source) (k : ℕ) (u : CodeUnit) (before : List CodeUnit) → reverse source.units.items ≡ u ∷ before → length source.units.items ≡ suc k → IsAt source k before u
program_at source k u before e counted = record {
  following = [];
  whole = last_of source.units.items u before e;
  counted = let a = last_counted source.units.items u before e in omega (arith, a, counted);
}

-- so it is of the old one, if it has a unit
some_side : (text : Text) (k : ℕ) → length text ≡ suc k → IsSide text (Some k) (program_of text)
some_side text k counted = by (reverse text) refl
  where
    by : (r : List ProgramUnit) → reverse text ≡ r → IsSide text (Some k) (elim r as (λ x. Option Scope) [ program ∷ before ↦ Some (record { before = before; unit = program }) | [] ↦ None ])
    by [] e = absurd (omega (arith, length-reverse text, ap length e, counted))
    by (program ∷ before) e = unit_at text before program [] k (last_of text program before e) (omega (arith, last_counted text program before e, counted))

-- where names lead from the program
lead_there : (units : List ProgramUnit) (path : List Name)
    → path_lead units path ≡ side_lead (elim units as (λ x. Option Scope) [ program ∷ before ↦ Some (record { before = before; unit = program }) | [] ↦ None ]) path
lead_there [] path = refl
lead_there (program ∷ before) path = refl

-- the line of a variable of the new program
line_there : (pass : Pass) (other : Text) (source : Source) (u : CodeUnit) (before : List CodeUnit) → reverse source.units.items ≡ u ∷ before → (s : Shown)
    → line_alongside pass other (text_view source) s ≡ line_between pass (program_of other) (seen before u) [] s
line_there pass other source u before e s =
    let turned : reverse (text_view source) ≡ unit_view u ∷ map unit_view before = sym (map_reverse unit_view source.units.items) ∙ ap (map unit_view) e in
    let kept : is_kept other (text_view source) s ≡ kept_between (program_of other) (seen before u) s =
    λ i. list_all (λ path. same_lead (lead_there (reverse other) path i) (path_lead (turned i) path)) (paths_of s) in
    ap (λ k. pass_text pass k (path_text s) s.shape (found_in other (names_of s))) kept

-- the whole report
pub report_there : (pass : Pass) (other : Text) (source : Source) (u : CodeUnit) (before : List CodeUnit) → reverse source.units.items ≡ u ∷ before → lines_alongside pass other source ≡ lines_between pass (program_of other) before u [] (declared_of u)
report_there pass other source u before e =
    ap (λ (units : List CodeUnit). flat_map (line_alongside pass other (text_view source)) (elim units as (λ x. List Shown) [ program ∷ before ↦ shown_from before program | [] ↦ [] ])) e
    ∙ (λ i. flat_map (λ s. line_there pass other source u before e s i) (shown_from before u))

-- the lines of one declared name more, and of one declaration more
each_of : {X Y Z : Type 0} (f : Y → List Z) (g : X → List Y) (xs : List X) → flat_map (λ x. flat_map f (g x)) xs ≡ flat_map f (flat_map g xs)
each_of f g [] = refl
each_of f g (x ∷ xs) = ap (λ ys. flat_map f (g x) ++ ys) (each_of f g xs) ∙ sym (flat_map-append f (g x) (flat_map g xs))

module _ (pass : Pass) (side : Option Scope) (before : List CodeUnit) (u : CodeUnit) (prefix : List ℕ) where
  abbrev of_name : Declared → List Shown
  of_name v = shown_by (shown_in before) v (type_of (seen before u) (name_of v.name))

  pub by_declarations : (ds : List Decl) → flat_map (λ (d : Decl). lines_between pass side before u prefix (declared_in d)) ds ≡ lines_between pass side before u prefix (flat_map declared_in ds)
  by_declarations ds =
      each_of (line_between pass side (seen before u) prefix) (λ (d : Decl). flat_map of_name (declared_in d)) ds
      ∙ ap (flat_map (line_between pass side (seen before u) prefix)) (each_of of_name declared_in ds)

  pub declaration_reported : (d : Decl) → flat_map (λ (w : Word). variable_lines pass side before u prefix (record { name = w.text.now; initial = d.initial })) d.names.items ≡ lines_between pass side before u prefix (declared_in d)
  declaration_reported d =
      sym (flat_map-map (variable_lines pass side before u prefix) (λ (w : Word). record { name = w.text.now; initial = d.initial }) d.names.items)
      ∙ each_of (line_between pass side (seen before u) prefix) of_name (declared_in d)

-- what was reported about the program is reported about the text
pub reported : (pass : Pass) (other : Text) (source : Source) (program : ℕ) (other_program : Option ℕ) (start new : List ℕ) → length source.units.items ≡ suc program → IsSide other other_program (program_of other) →
    ((side : Option Scope) (before : List CodeUnit) (u : CodeUnit) → IsSide other other_program side → IsAt source program before u → new ≡ start ++ lines_between pass side before u [] (declared_of u)) → new ≡ start ++ lines_alongside pass other source
reported pass other source program other_program start new counted at said = by (reverse source.units.items) refl
  where
    by : (r : List CodeUnit) → reverse source.units.items ≡ r → new ≡ start ++ lines_alongside pass other source
    by [] e = absurd (omega (arith, length-reverse source.units.items, ap length e, counted))
    by (u ∷ before) e =
        said (program_of other) before u at (program_at source program u before e counted) ∙ ap (λ x. start ++ x) (sym (report_there pass other source u before e))

-- about a text of no unit there is nothing to report
pub none_reported : (pass : Pass) (other : Text) (source : Source) (out : List ℕ) (n : ℕ) → length source.units.items ≡ n → (1 ≤ n → ⊥) → out ≡ out ++ lines_alongside pass other source
none_reported pass other source out n counted none = by source.units.items counted
  where
    by : (units : List CodeUnit) → length units ≡ n
        → out ≡ out ++ flat_map (line_alongside pass other (text_view source)) (elim (reverse units) as (λ x. List Shown) [ program ∷ before ↦ shown_from before program | [] ↦ [] ])
    by [] e = sym (append-nil out)
    by (unit ∷ units) e = absurd (none (omega (arith, e)))

-- the number before that of a text's units
pub other_side : (text : Text) (n : ℕ) (o : Option ℕ) → length text ≡ n → SomeIff o (1 ≤ n) (n - 1) → IsSide text o (program_of text)
other_side [] n None counted h = refl
other_side (unit ∷ text) n None counted h = absurd (h (omega (arith, counted)))
other_side text n (Some k) counted h = some_side text k (let a : 1 ≤ n = h.0 in let b : k ≡ n - 1 = h.1 in omega (arith, counted, a, b))

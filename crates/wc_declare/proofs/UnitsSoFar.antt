-- The units that are checked so far.
use Rattle.wc_model.proofs.Common.{◌≡◌, ℕ, ◌+◌, Bool, true, false, not, List, [], ◌∷◌, ◌++◌, Option, Some, None, cond, length, refl, sym, ap, subst, ◌∙◌, arith, length-append, list_any-append, flat_map, position_from, bytes_eq-Decides}
use Rattle.std.specs.Prelude.{◌||◌, ◌&&◌, if◌then◌else◌}
use Rattle.wc_model.specs.Definitions.{first_broken, positions_after, is_among, names_block_of, text_declaration_checks, unit_checks, same_name, Name, ProgramUnit, Text}
use Rattle.wc_names.specs.{same_name_laws, IsTableOf, number_named, onto}
use Rattle.wc_declare.specs.SoFar.{AreUnitsOf}
use Rattle.wc_names.specs.declared.unit_table.UnitTable.{UnitTable}
use Rattle.wc_declare.specs.declared.types.Units.{Units}
use Rattle.wc_declare.proofs.NamesSoFar.{neither, or_last}
use Rattle.wc_names.proofs.Positions.{or_else}

-- a name is among the units' names if a unit has it
pub among_more : (names : List Name) (new name : Name) → is_among (names ++ new ∷ []) name ≡ (same_name name new || is_among names name)
among_more names new name = list_any-append (same_name name) names (new ∷ []) ∙ or_last (is_among names name) (same_name name new)

-- the number of one more name: that of the others, or their number
numbered_last : (p : Name → Bool) (i : ℕ) (xs : List Name) (x : Name) → position_from p i (xs ++ x ∷ []) ≡ or_else (position_from p i xs) (cond (p x) (Some (i + length xs)) None)
numbered_last p i [] x = ap (λ n. cond (p x) (Some n) None) (let l : i ≡ i + 0 = omega arith in l)
numbered_last p i (y ∷ xs) x = step (p y) (position_from p (i + 1) xs) (position_from p (i + 1) (xs ++ x ∷ [])) (numbered_last p (i + 1) xs x)
  where
    step : (first : Bool) (own more : Option ℕ) → more ≡ or_else own (cond (p x) (Some (i + 1 + length xs)) None) →
        cond first (Some i) more ≡ or_else (cond first (Some i) own) (cond (p x) (Some (i + length (y ∷ xs))) None)
    step true own more e = refl
    step false own more e = e ∙ ap (λ n. or_else own (cond (p x) (Some n) None)) (let l : i + 1 + length xs ≡ i + length (y ∷ xs) = omega arith in l)

-- a name that is not among others has no number
none_numbered : (i : ℕ) (xs : List Name) (name : Name) → is_among xs name ≡ false → position_from (λ n. same_name n name) i xs ≡ None
none_numbered i [] name e = refl
none_numbered i (x ∷ xs) name e =
    let parts = neither (same_name name x) (is_among xs name) e in
    ap (λ b. cond b (Some i) (position_from (λ n. same_name n name) (i + 1) xs)) (same_name_laws.symm x name ∙ parts.0) ∙ none_numbered (i + 1) xs name parts.1

number_of_new : (names : List Name) (new name : Name) (before : List ProgramUnit) → is_among names new ≡ false → length names ≡ length before → position_from (λ n. same_name n name) 0 names ≡ number_named before name →
    (same : Bool) → same_name new name ≡ same →
    or_else (position_from (λ n. same_name n name) 0 names) (cond same (Some (0 + length names)) None) ≡ (elim same as (λ x. Option ℕ) [ true ↦ Some (length before) | false ↦ number_named before name ])
number_of_new names new name before fresh counted number true s =
    let e : new ≡ name = (bytes_eq-Decides new name).0 s in
    let none = none_numbered 0 names name (subst (λ n. is_among names n ≡ false) e fresh) in
    ap (λ o. or_else o (Some (0 + length names))) none ∙ ap Some (let l : 0 + length names ≡ length before = omega (arith, counted) in l)
number_of_new names new name before fresh counted number false s = or_none (position_from (λ n. same_name n name) 0 names) ∙ number
  where
    or_none : (o : Option ℕ) → or_else o None ≡ o
    or_none None = refl
    or_none (Some x) = refl

-- one more unit
pub units_more : (text : Text) (before : List ProgramUnit) (unit : ProgramUnit) (old new : Units) (table : UnitTable) (name : Name) → AreUnitsOf text before old → unit.name.name ≡ name → is_among old.names name ≡ false →
    IsTableOf before unit table → new.blocks ≡ old.blocks → new.names ≡ old.names ++ name ∷ [] → new.tables.items ≡ old.tables.items ++ table ∷ [] → AreUnitsOf text (unit ∷ before) new
units_more text before unit old new table name h named fresh is blocks names tables = record {
  blocks = λ other. ap (λ ns. is_among ns other) blocks ∙ h.blocks other;
  numbers = λ other.
      ap (λ ns. position_from (λ n. same_name n other) 0 ns) names ∙ numbered_last (λ n. same_name n other) 0 old.names name
      ∙ number_of_new old.names name other before fresh h.counted (h.numbers other) (same_name name other) refl
      ∙ ap (λ n. elim (same_name n other) as (λ x. Option ℕ) [ true ↦ Some (length before) | false ↦ number_named before other ]) (sym named);
  among = λ other.
      ap (λ ns. is_among ns other) names ∙ among_more old.names name other ∙ (λ i. same_name other (sym named i) || h.among other i);
  counted = ap length names ∙ (let l : length (old.names ++ name ∷ []) ≡ length old.names + length (name ∷ []) = length-append old.names (name ∷ []) in let c = h.counted in let g : length (old.names ++ name ∷ []) ≡ length (unit ∷ before) = omega (arith, l, c) in g);
  tables = (old.tables.items, table, tables, is, h.tables);
}

-- what follows the units so far
pub record Reads (text left : Text) (units : Units) : Type 0 where
  pub before : List ProgramUnit
  pub found : first_broken (text_declaration_checks text) ≡ first_broken (flat_map (λ position. unit_checks text position.before position.item) (positions_after before left))
  pub are : AreUnitsOf text before units
  pub joined : onto left before ≡ onto text []

pub none_read : (text : Text) (units : Units) → AreUnitsOf text [] units → Reads text text units
none_read text units h = record { before = []; found = refl; are = h; joined = refl }

pub one_read : (text : Text) (unit : ProgramUnit) (left : Text) (old new : Units) (h : Reads text (unit ∷ left) old) →
    first_broken (unit_checks text h.before unit ++ flat_map (λ position. unit_checks text position.before position.item) (positions_after (unit ∷ h.before) left)) ≡ first_broken (flat_map (λ position. unit_checks text position.before position.item) (positions_after (unit ∷ h.before) left)) →
    AreUnitsOf text (unit ∷ h.before) new → Reads text left new
one_read text unit left old new h passes are = record { before = unit ∷ h.before; found = h.found ∙ passes; are = are; joined = h.joined }

-- the names of the blocks among units
pub block_more : (a b c : Bool) → ((a || b) || c) ≡ (a || (b || c))
block_more true b c = refl
block_more false b c = refl

pub no_block : (among block same : Bool) → block ≡ false → among ≡ (among || (block && same))
no_block true block same e = refl
no_block false block same e = rw e refl

either_way : (a b c : Bool) → b ≡ c → (b || a) ≡ (a || (true && c))
either_way true true c e = refl
either_way true false c e = refl
either_way false true true e = refl
either_way false false false e = refl
either_way false true false e = cc
either_way false false true e = cc

already : (names : List Name) (new name : Name) → is_among names new ≡ true → (same : Bool) → same_name new name ≡ same → is_among names name ≡ (is_among names name || same)
already names new name there true s =
    let e : new ≡ name = (bytes_eq-Decides new name).0 s in
    let b = subst (λ n. is_among names n ≡ true) e there in rw b refl
already names new name there false s = or_none (is_among names name)
  where
    or_none : (b : Bool) → b ≡ (b || false)
    or_none true = refl
    or_none false = refl

-- the names once a block's name is added
pub block_added : (old more : List Name) (new : Name) (fresh block : Bool) (name : Name) → block ≡ true → (b : Bool) → is_among old new ≡ b → fresh ≡ not b → more ≡ (if fresh then old ++ new ∷ [] else old) →
    is_among more name ≡ (is_among old name || (block && same_name new name))
block_added old more new fresh block name is true there e m =
    ap (λ ns. is_among ns name) (m ∙ ap (λ b. if b then old ++ new ∷ [] else old) e) ∙ already old new name there (same_name new name) refl
    ∙ ap (λ b. is_among old name || (b && same_name new name)) (sym is)
block_added old more new fresh block name is false there e m =
    ap (λ ns. is_among ns name) (m ∙ ap (λ b. if b then old ++ new ∷ [] else old) e) ∙ among_more old new name
    ∙ either_way (is_among old name) (same_name name new) (same_name new name) (same_name_laws.symm name new) ∙ ap (λ b. is_among old name || (b && same_name new name)) (sym is)

pub or_end : (a : Bool) → (a || false) ≡ a
or_end true = refl
or_end false = refl

pub none_so_far : (text : Text) (units : Units) → ((name : Name) → is_among units.blocks name ≡ names_block_of text name) → units.names ≡ [] → units.tables.items ≡ [] → AreUnitsOf text [] units
none_so_far text units blocks names tables = record {
  blocks = blocks;
  numbers = λ name. ap (λ ns. position_from (λ n. same_name n name) 0 ns) names;
  among = λ name. ap (λ ns. is_among ns name) names;
  counted = ap length names;
  tables = tables;
}

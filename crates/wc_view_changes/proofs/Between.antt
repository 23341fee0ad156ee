-- The lines of a variable inside an instance are those that it has in the instance's own unit, after one name more.
use Rattle.wc_model.proofs.Common.{◌≡◌, ℕ, Bool, true, false, List, [], ◌∷◌, ◌++◌, map, length, Option, Some, None, option_map, refl, sym, ap, ◌∙◌, append_assoc, if◌then◌else◌, option_and_then, flat_map-map, list_all-map, flat_map, list_all}
use Rattle.wc_model.specs.Definitions.{Lead, ToField, lead_by, lead_from, same_lead, VariableType, Elementary, Standard, Block, block_named, Name, name_of, Scope, type_of, Content, standard_fields, ProgramUnit, Text}
use Rattle.wc_names.specs.Numbered.{numbered_type}
use Rattle.wc_names.specs.declared.declared_type.DeclaredType.TheVariants as numbered
use Rattle.wc_laws_language.proofs.Carrying.{is_field}
use Rattle.wc_view_changes.specs.{pass_text, path_text, unit_of_type, IsSide, kept_between, line_between, numbered_side, side_after, side_found, side_lead, unit_numbered}
use Rattle.wc_view_changes.specs.Shown.{FrameEntry, Plain, Instance, Shown, inside, names_of, paths_at, paths_of}
use Rattle.wc_view_changes.specs.declared.describing.Pass.{Pass}
use Rattle.wc_view_changes.proofs.Leads.{lead_is, never_field, not_field}
use Rattle.wc_text_variables.proofs.BlockUnits.{block_unit}

-- the unit to which a name leads is that of the number
pub side_is : (text : Text) (unit : Option ℕ) (side : Option Scope) (name : Name) → IsSide text unit side → IsSide text (unit_numbered (numbered_side side name)) (side_after side name)
side_is text None (Some scope) name h = absurd (cc (h))
side_is text unit None name h = refl
side_is text (Some k) (Some scope) name h = by (type_of scope name)
  where
    found : (block : Name) (o : Option (ProgramUnit × List ProgramUnit)) → block_named scope.before block ≡ o
        → IsSide text (unit_numbered (option_map (λ found. numbered.Block (length found.1)) o)) (option_map (λ found. record { before = found.1; unit = found.0 }) o)
    found block None e = refl
    found block (Some f) e = block_unit text k scope block f.0 f.1 h e

    by : (type : Option VariableType) → IsSide text (unit_numbered (option_and_then (numbered_type scope.before) type)) (unit_of_type scope.before type)
    by (Some (Block block)) = found block (block_named scope.before block) refl
    by type = refl

-- what a name and those after it lead to in the other text may be found from the unit to which the name leads
same_after : (type_before : List ProgramUnit) (type : Option VariableType) (us : List ProgramUnit) (u : ProgramUnit) (path : List Name) →
    same_lead (lead_by (lead_from path) type_before type path) (lead_from path us u) ≡ same_lead (side_lead (unit_of_type type_before type) path) (lead_from path us u)
same_after before (Some (Elementary kind)) us u [] = refl
same_after before (Some (Standard block)) us u (field ∷ []) = either (is_field block field)
  where
    either : (x : Bool) → same_lead (if x then Some (ToField block) else None) (lead_from (field ∷ []) us u) ≡ same_lead None (lead_from (field ∷ []) us u)
    either true = (not_field (lead_from (field ∷ []) us u) block (λ t. never_field field us u t)).1
    either false = refl
same_after before (Some (Block block)) us u path = by (block_named before block)
  where
    by : (o : Option (ProgramUnit × List ProgramUnit)) → same_lead (elim o as (λ x. Option Lead) [ Some found ↦ lead_from path found.1 found.0 | None ↦ None ]) (lead_from path us u)
        ≡ same_lead (side_lead (option_map (λ found. record { before = found.1; unit = found.0 }) o) path) (lead_from path us u)
    by None = refl
    by (Some found) = refl
same_after before type us u path = refl

-- so does what they lead to in both texts
step_kept : (side : Option Scope) (scope : Scope) (name block : Name) (u : ProgramUnit) (us : List ProgramUnit) → type_of scope name ≡ Some (Block block) → block_named scope.before block ≡ Some (u, us) → (path : List Name) →
    same_lead (side_lead side (name ∷ path)) (lead_from (name ∷ path) scope.before scope.unit) ≡ same_lead (side_lead (side_after side name) path) (lead_from path us u)
step_kept side scope name block u us typed found path =
    ap (same_lead (side_lead side (name ∷ path)))
    (lead_is name path scope ∙ ap (λ t. lead_by (lead_from path) scope.before t path) typed ∙ ap (λ (o : Option (ProgramUnit × List ProgramUnit)). elim o as (λ x. Option Lead) [ Some f ↦ lead_from path f.1 f.0 | None ↦ None ]) found)
    ∙ by side
  where
    by : (s : Option Scope) → same_lead (side_lead s (name ∷ path)) (lead_from path us u) ≡ same_lead (side_lead (side_after s name) path) (lead_from path us u)
    by None = refl
    by (Some old) = ap (λ l. same_lead l (lead_from path us u)) (lead_is name path old) ∙ same_after old.before (type_of old name) us u path

-- and what is found there
step_found : (side : Option Scope) (first : Name) (instances : List (List ℕ)) (last : Name) → side_found side (first ∷ (map name_of instances ++ last ∷ [])) ≡ side_found (side_after side first) (map name_of instances ++ last ∷ [])
step_found None first instances last = refl
step_found (Some old) first [] last = refl
step_found (Some old) first (i ∷ instances) last = refl

-- places after one name more
paths_after : (shape : FrameEntry) (name : Name) (names : List Name) (p : List Name → Bool) → list_all p (paths_at shape (name ∷ names)) ≡ list_all (λ path. p (name ∷ path)) (paths_at shape names)
paths_after (Plain kind content) name names p = refl
paths_after (Instance block) name names p =
    list_all-map p (λ (f : Name × Content). (name ∷ names) ++ f.0 ∷ []) (standard_fields block)
    ∙ sym (list_all-map (λ path. p (name ∷ path)) (λ (f : Name × Content). names ++ f.0 ∷ []) (standard_fields block))

-- the line of a variable inside an instance
line_inside : (pass : Pass) (side : Option Scope) (scope : Scope) (prefix instance : List ℕ) (block : Name) (u : ProgramUnit) (us : List ProgramUnit) → type_of scope (name_of instance) ≡ Some (Block block) → block_named scope.before block ≡ Some (u, us) → (s : Shown) →
    line_between pass side scope prefix (inside instance s) ≡ line_between pass (side_after side (name_of instance)) (record { before = us; unit = u }) (prefix ++ (instance ++ 46 ∷ [])) s
line_inside pass side scope prefix instance block u us typed found s =
    let n = name_of instance in
    let kept : kept_between side scope (inside instance s) ≡ kept_between (side_after side n) (record { before = us; unit = u }) s =
    paths_after s.shape n (names_of s) (λ path. same_lead (side_lead side path) (lead_from path scope.before scope.unit))
    ∙ (λ i. list_all (λ path. step_kept side scope n block u us typed found path i) (paths_of s))
    in
    let rest = flat_map (λ (i : List ℕ). i ++ 46 ∷ []) s.instances in
    let path : prefix ++ path_text (inside instance s) ≡ (prefix ++ (instance ++ 46 ∷ [])) ++ path_text s =
    ap (λ x. prefix ++ x) (append_assoc (instance ++ 46 ∷ []) rest s.name) ∙ sym (append_assoc prefix (instance ++ 46 ∷ []) (rest ++ s.name))
    in
    ap (λ k. pass_text pass k (prefix ++ path_text (inside instance s)) s.shape (side_found side (names_of (inside instance s)))) kept
    ∙ ap (λ p. pass_text pass (kept_between (side_after side n) (record { before = us; unit = u }) s) p s.shape (side_found side (names_of (inside instance s)))) path
    ∙ ap (pass_text pass (kept_between (side_after side n) (record { before = us; unit = u }) s) ((prefix ++ (instance ++ 46 ∷ [])) ++ path_text s) s.shape) (step_found side n s.instances (name_of s.name))

pub lines_inside : (pass : Pass) (side : Option Scope) (scope : Scope) (prefix instance : List ℕ) (block : Name) (u : ProgramUnit) (us : List ProgramUnit) → type_of scope (name_of instance) ≡ Some (Block block) → block_named scope.before block ≡ Some (u, us) → (ss : List Shown) →
    flat_map (line_between pass side scope prefix) (map (inside instance) ss) ≡ flat_map (line_between pass (side_after side (name_of instance)) (record { before = us; unit = u }) (prefix ++ (instance ++ 46 ∷ []))) ss
lines_inside pass side scope prefix instance block u us typed found ss =
    flat_map-map (line_between pass side scope prefix) (inside instance) ss ∙ (λ i. flat_map (λ s. line_inside pass side scope prefix instance block u us typed found s i) ss)

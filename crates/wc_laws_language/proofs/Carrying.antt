-- What a change of the text does to the kinds of places, and to the fields of a standard block.
use Rattle.wc_model.proofs.Common.{◌≡◌, Bool, true, false, ◌&&◌, ◌||◌, List, [], ◌∷◌, ◌++◌, map, Option, Some, None, refl, sym, ap, subst, ◌∙◌, ◌⊎◌, inl, inr, if◌then◌else◌, reverse, list_any}
use Rattle.std.proofs.lemmas.List.{append-nil}
use Rattle.std.specs.Option.{option_map}
use Rattle.wc_model.specs.Definitions.{Lead, ToPlace, ToField, carried, direct_lead, field_lead, keeps, lead_by, lead_from, lead_of, path_lead, plain_lead, same_block, same_lead, Variable, VariableType, Elementary, Standard, Block, block_named, same_name, type_named, variable_named, direct_variables, kind_of_direct, is_kind, Name, initial_of, initial_of_reversed, Location, Direct, Path, Content, Store, block_places, first_content, initial_store, same_direct, standard_fields, unit_places, variable_places, ProgramUnit, Text, IsProgramLast}
use Rattle.wc_model.specs.declared.block.StandardBlock.{StandardBlock}
use Rattle.wc_model.specs.declared.block.StandardBlock.TheVariants.{RTrig, Sr, Rs, Ctu, Ton, Tof, Tp}
use Rattle.wc_model.specs.declared.kind.Kind.{Kind}
use Rattle.wc_model.specs.declared.kind.Kind.TheVariants.{Bool as KindBool, Dint as KindDint, Time as KindTime}
use Rattle.wc_model.specs.declared.kind.SlotKind.{SlotKind}
use Rattle.wc_laws_language.proofs.Places.{block_places-found, first_content-slot, own_content}
use Rattle.wc_laws_language.proofs.Programs.{first_store_fits}
use Rattle.wc_laws_language.proofs.Texts.{turned}
use Rattle.wc_laws_language.specs.Typing.{AStandardBlockIsKeptWhole, ATextForItselfIsNoChange, CarriedStoreHoldsItsKinds, HoldsTheSameFields, slot_of_kind, slot_of, slot_at, content_at}

-- the paths of a standard block's fields
abbrev pub field_paths : StandardBlock → List (List Name × Content)
field_paths block = map (λ f. (f.0 ∷ [], f.1)) (standard_fields block)

-- a name is that of a field
abbrev pub is_field : StandardBlock → Name → Bool
is_field block field = list_any (λ f. same_name f.0 field) (standard_fields block)

-- the last of some names
abbrev pub last_of : List Name → Name
last_of [] = []
last_of (name ∷ []) = name
last_of (name ∷ next ∷ names) = last_of (next ∷ names)

-- what is where names lead is of the place's kind, or is the block's own field
abbrev IsLed : Lead → List Name → Content → Type 0
IsLed (ToPlace kind) names content = slot_of content ≡ slot_of_kind kind
IsLed (ToField block) names content = content_at (field_paths block) (last_of names ∷ []) ≡ Some content

record Led (before : List ProgramUnit) (unit : ProgramUnit) (names : List Name) (lead : Lead) : Type 0 where
  content : Content
  there : content_at (unit_places before unit) names ≡ Some content
  led : IsLed lead names content

-- a field has a content
field_there : (fields : List (Name × Content)) (field : Name) → list_any (λ f. same_name f.0 field) fields ≡ true → (content : Content) × (content_at (map (λ f. (f.0 ∷ [], f.1)) fields) (field ∷ []) ≡ Some content)
field_there [] field e = cc
field_there (f ∷ fields) field e = step (same_name f.0 field) e (field_there fields field)
  where
    step : (b : Bool) → (b || list_any (λ g. same_name g.0 field) fields) ≡ true → (list_any (λ g. same_name g.0 field) fields ≡ true → (content : Content) × (content_at (map (λ g. (g.0 ∷ [], g.1)) fields) (field ∷ []) ≡ Some content)) →
        (content : Content) × ((if b && true then Some f.1 else content_at (map (λ g. (g.0 ∷ [], g.1)) fields) (field ∷ [])) ≡ Some content)
    step true e onward = (f.1, refl)
    step false e onward = onward e

-- names that lead to a plain variable
led_plain : (before : List ProgramUnit) (unit : ProgramUnit) (name : Name) (names : List Name) (v : Variable) (kind : Kind) (lead : Lead) → variable_named unit name ≡ Some v → type_named before v.type_name ≡ Some (Elementary kind) → plain_lead kind names ≡ Some lead → Led before unit (name ∷ names) lead
led_plain before unit name [] v kind (ToPlace k) found typed e =
    let same : kind ≡ k = cc in
    record {
      content = first_content kind v.initial;
      there = own_content before unit name v [] (first_content kind v.initial) found (ap (λ t. content_at (variable_places (block_places before) t v.initial) []) typed);
      led = first_content-slot kind v.initial ∙ ap slot_of_kind same;
    }
led_plain before unit name [] v kind (ToField b) found typed e = cc
led_plain before unit name (other ∷ names) v kind lead found typed e = cc

-- names that lead into a standard block
led_field : (before : List ProgramUnit) (unit : ProgramUnit) (name : Name) (names : List Name) (v : Variable) (block : StandardBlock) (lead : Lead) → variable_named unit name ≡ Some v → type_named before v.type_name ≡ Some (Standard block) → field_lead block names ≡ Some lead → Led before unit (name ∷ names) lead
led_field before unit name [] v block lead found typed e = cc
led_field before unit name (field ∷ other ∷ names) v block lead found typed e = cc
led_field before unit name (field ∷ []) v block lead found typed e = step (is_field block field) refl lead e
  where
    step : (b : Bool) → is_field block field ≡ b → (l : Lead) → (if b then Some (ToField block) else None) ≡ Some l → Led before unit (name ∷ field ∷ []) l
    step false is l f = cc
    step true is l f =
        let same : ToField block ≡ l = cc in
        let there = field_there (standard_fields block) field is in
        subst (Led before unit (name ∷ field ∷ [])) same (record {
          content = there.0;
          there = own_content before unit name v (field ∷ []) there.0 found (ap (λ t. content_at (variable_places (block_places before) t v.initial) (field ∷ [])) typed ∙ there.1);
          led = there.1;
        })

-- what is led to from a block, after the name of its instance
led_after : (before : List ProgramUnit) (unit : ProgramUnit) (name : Name) (names : List Name) (v : Variable) (block : Name) (inner : ProgramUnit) (earlier : List ProgramUnit) (lead : Lead) → variable_named unit name ≡ Some v → type_named before v.type_name ≡ Some (Block block) → block_named before block ≡ Some (inner, earlier) → Led earlier inner names lead → lead_from names earlier inner ≡ Some lead → Led before unit (name ∷ names) lead
led_after before unit name [] v block inner earlier lead found typed named led e = cc
led_after before unit name (next ∷ names) v block inner earlier lead found typed named led e = record {
  content = led.content;
  there = own_content before unit name v (next ∷ names) led.content found
      (ap (λ t. content_at (variable_places (block_places before) t v.initial) (next ∷ names)) typed ∙ ap (λ places. content_at places (next ∷ names)) (block_places-found before block inner earlier named) ∙ led.there);
  led = same lead led.led;
}
  where
    same : (l : Lead) → IsLed l (next ∷ names) led.content → IsLed l (name ∷ next ∷ names) led.content
    same (ToPlace kind) h = h
    same (ToField b) h = h

-- wherever names lead, there is a content of that kind
led_to : (names : List Name) (before : List ProgramUnit) (unit : ProgramUnit) (lead : Lead) → lead_from names before unit ≡ Some lead → Led before unit names lead
led_to [] before unit lead e = cc
led_to (name ∷ names) before unit lead e = at_variable (variable_named unit name) refl e (λ b u l f. led_to names b u l f)
  where
    at_block : (v : Variable) (block : Name) (o : Option (ProgramUnit × List ProgramUnit)) → variable_named unit name ≡ Some v → type_named before v.type_name ≡ Some (Block block) → block_named before block ≡ o →
        (elim o [ Some found ↦ lead_from names found.1 found.0 | None ↦ None ]) ≡ Some lead → ((b : List ProgramUnit) (u : ProgramUnit) (l : Lead) → lead_from names b u ≡ Some l → Led b u names l) → Led before unit (name ∷ names) lead
    at_block v block None found typed named f onward = cc
    at_block v block (Some (inner, earlier)) found typed named f onward = led_after before unit name names v block inner earlier lead found typed named (onward earlier inner lead f) f

    at_type : (v : Variable) (t : Option VariableType) → variable_named unit name ≡ Some v → type_named before v.type_name ≡ t → lead_by (lead_from names) before t names ≡ Some lead → ((b : List ProgramUnit) (u : ProgramUnit) (l : Lead) → lead_from names b u ≡ Some l → Led b u names l) → Led before unit (name ∷ names) lead
    at_type v None found typed f onward = cc
    at_type v (Some (Elementary kind)) found typed f onward = led_plain before unit name names v kind lead found typed f
    at_type v (Some (Standard block)) found typed f onward = led_field before unit name names v block lead found typed f
    at_type v (Some (Block block)) found typed f onward = at_block v block (block_named before block) found typed refl f onward

    at_variable : (o : Option Variable) → variable_named unit name ≡ o → (elim o [ Some v ↦ lead_by (lead_from names) before (type_named before v.type_name) names | None ↦ None ]) ≡ Some lead → ((b : List ProgramUnit) (u : ProgramUnit) (l : Lead) → lead_from names b u ≡ Some l → Led b u names l) → Led before unit (name ∷ names) lead
    at_variable None found f onward = cc
    at_variable (Some v) found f onward = at_type v (type_named before v.type_name) found refl f onward

-- the kind of slot to which a lead leads
abbrev pub FitsLead : Lead → Location → SlotKind → Type 0
FitsLead (ToPlace k) place kind = kind ≡ slot_of_kind k
FitsLead (ToField block) (Path names) kind = option_map slot_of (content_at (field_paths block) (last_of names ∷ [])) ≡ Some kind
FitsLead (ToField block) (Direct v) kind = ⊥

-- a store holds that kind there
pub record Holding (store : Store) (place : Location) (lead : Lead) : Type 0 where
  pub kind : SlotKind
  pub held : slot_at store place ≡ Some kind
  pub fits : FitsLead lead place kind

led_fits : (names : List Name) (lead : Lead) (content : Content) → IsLed lead names content → FitsLead lead (Path names) (slot_of content)
led_fits names (ToPlace kind) content h = h
led_fits names (ToField block) content h = ap (option_map slot_of) h

-- a text whose program is the last of its units, newest first
record Ending (units : List ProgramUnit) : Type 0 where
  program : ProgramUnit
  before : List ProgramUnit
  are : units ≡ program ∷ before

ends : (text : Text) → IsProgramLast text → Ending (reverse text)
ends [] last = absurd last
ends (unit ∷ units) last = subst Ending (turned unit units [] ∙ append-nil (reverse (unit ∷ units))) (prefix (reverse units))
  where
    prefix : (us : List ProgramUnit) → Ending (us ++ unit ∷ [])
    prefix [] = record { program = unit; before = []; are = refl }
    prefix (u ∷ us) = record { program = u; before = us ++ unit ∷ []; are = refl }

-- what a place is, if the program and the units before it are known
abbrev lead_at : List ProgramUnit → Location → Option Lead
lead_at units (Direct v) = direct_lead v
lead_at units (Path names) = path_lead units names

lead_is : (text : Text) (place : Location) → lead_of text place ≡ lead_at (reverse text) place
lead_is text (Direct v) = refl
lead_is text (Path names) = refl

-- wherever names and addresses lead, the first store holds such a kind
program_holds : (before : List ProgramUnit) (program : ProgramUnit) (place : Location) (lead : Lead) → lead_at (program ∷ before) place ≡ Some lead → Holding (initial_store before program) place lead
program_holds before program (Direct v) lead e = direct (list_any (same_direct v) direct_variables) refl lead e
  where
    direct : (b : Bool) → list_any (same_direct v) direct_variables ≡ b → (l : Lead) → (if b then Some (ToPlace (kind_of_direct v)) else None) ≡ Some l → Holding (initial_store before program) (Direct v) l
    direct false is l f = cc
    direct true is l f =
        let same : ToPlace (kind_of_direct v) ≡ l = cc in
        subst (Holding (initial_store before program) (Direct v)) same (record { kind = slot_of_kind (kind_of_direct v); held = (first_store_fits before program).direct v is; fits = refl })
program_holds before program (Path names) lead e =
    let led = led_to names before program lead e in
    record { kind = slot_of led.content; held = (first_store_fits before program).own names led.content led.there; fits = led_fits names lead led.content led.led }

pub first_holds : (text : Text) (place : Location) (lead : Lead) → IsProgramLast text → lead_of text place ≡ Some lead → Holding (initial_of text) place lead
first_holds text place lead last e =
    let end = ends text last in
    let P : List ProgramUnit → Type 0 = λ units. lead_at units place ≡ Some lead → Holding (initial_of_reversed units) place lead in
    subst P (sym end.are) (program_holds end.before end.program place lead) (sym (lead_is text place) ∙ e)

-- two leads that are the same lead to one kind
one_kind : (a b : Kind) → is_kind a b ≡ true → a ≡ b
one_kind KindBool KindBool e = refl
one_kind KindDint KindDint e = refl
one_kind KindTime KindTime e = refl
one_kind a b e = cc

pub one_block : (a b : StandardBlock) → same_block a b ≡ true → a ≡ b
one_block RTrig RTrig e = refl
one_block Sr Sr e = refl
one_block Rs Rs e = refl
one_block Ctu Ctu e = refl
one_block Ton Ton e = refl
one_block Tof Tof e = refl
one_block Tp Tp e = refl
one_block a b e = cc

one_lead : (a b : Lead) → same_lead (Some a) (Some b) ≡ true → a ≡ b
one_lead (ToPlace a) (ToPlace b) e = ap ToPlace (one_kind a b e)
one_lead (ToField a) (ToField b) e = ap ToField (one_block a b e)
one_lead a b e = cc

pub one_fits : (lead : Lead) (place : Location) (a b : SlotKind) → FitsLead lead place a → FitsLead lead place b → a ≡ b
one_fits (ToPlace k) place a b e f = e ∙ sym f
one_fits (ToField block) (Path names) a b e f = let same : Some a ≡ Some b = sym e ∙ f in cc
one_fits (ToField block) (Direct v) a b e f = absurd e

-- what keeps its value is of one kind in both texts
pub record Kept (old new : Text) (place : Location) : Type 0 where
  pub lead : Lead
  pub old_lead : lead_of old place ≡ Some lead
  pub new_lead : lead_of new place ≡ Some lead

pub kept_leads : (old new : Text) (place : Location) → keeps old new place ≡ true → Kept old new place
kept_leads old new place e = by (lead_of old place) (lead_of new place) refl refl e
  where
    by : (a b : Option Lead) → lead_of old place ≡ a → lead_of new place ≡ b → same_lead a b ≡ true → Kept old new place
    by (Some a) (Some b) from to e = record { lead = a; old_lead = from; new_lead = to ∙ ap Some (sym (one_lead a b e)) }
    by (Some (ToPlace k)) None from to e = absurd (let g : false ≡ true = e in let h : ⊥ = cc in h)
    by (Some (ToField b)) None from to e = absurd (let g : false ≡ true = e in let h : ⊥ = cc in h)
    by None b from to e = absurd (let g : false ≡ true = e in let h : ⊥ = cc in h)

pub carried_holds : CarriedStoreHoldsItsKinds
carried_holds old new store old_last new_last same = λ place. by place (keeps old new place) refl
  where
    by : (place : Location) (b : Bool) → keeps old new place ≡ b → option_map slot_of (if b then store place else initial_of new place) ≡ slot_at (initial_of new) place
    by place false is = refl
    by place true is =
        let kept = kept_leads old new place is in
        let from = first_holds old place kept.lead old_last kept.old_lead in
        let to = first_holds new place kept.lead new_last kept.new_lead in
        same place ∙ from.held ∙ ap Some (one_fits kept.lead place from.kind to.kind from.fits to.fits) ∙ sym to.held

-- a text that takes its own place
same_as_itself : (lead : Lead) → same_lead (Some lead) (Some lead) ≡ true
same_as_itself (ToPlace KindBool) = refl
same_as_itself (ToField RTrig) = refl
same_as_itself third = refl

pub kept_by_itself : ATextForItselfIsNoChange
kept_by_itself text store place lead e =
    let P : Option Lead → Type 0 = λ l. (if same_lead l l then store place else initial_of text place) ≡ store place in
    subst P (sym e) (ap (λ b. if b then store place else initial_of text place) (same_as_itself lead))

-- a field of one block is another's if both are led to
shown : (block b : StandardBlock) (field : Name) (t : Bool) → is_field b field ≡ t → (if t then Some (ToField b) else None) ≡ Some (ToField block) → (b ≡ block) × (is_field block field ≡ true)
shown block b field false is e = absurd (cc)
shown block b field true is e = let same : b ≡ block = cc in (same, subst (λ x. is_field x field ≡ true) same is)

-- in an instance of a standard block
in_standard : (names : List Name) (block b : StandardBlock) (field : Name) → field_lead b (names ++ field ∷ []) ≡ Some (ToField block) → (is_field block field ≡ true) × ((other : Name) → is_field block other ≡ true → field_lead b (names ++ other ∷ []) ≡ Some (ToField block))
in_standard [] block b field e =
    let both = shown block b field (is_field b field) refl e in
    (both.1, λ other is. ap (λ x. if x then Some (ToField b) else None) (subst (λ x. is_field x other ≡ true) (sym both.0) is) ∙ ap (λ x. Some (ToField x)) both.0)
in_standard (n ∷ []) block b field e = absurd (cc)
in_standard (n ∷ m ∷ names) block b field e = absurd (cc)

-- in a plain variable there is none
in_plain : (names : List Name) (kind : Kind) (block : StandardBlock) (field : Name) → plain_lead kind (names ++ field ∷ []) ≡ Some (ToField block) → ⊥
in_plain [] kind block field e = cc
in_plain (n ∷ names) kind block field e = cc

-- what is said of a field: it is one of the block's, and the block's others are led to with it
abbrev IsOneOf : (Name → Option Lead) → StandardBlock → Name → Type 0
IsOneOf lead block field = lead field ≡ Some (ToField block) → (is_field block field ≡ true) × ((other : Name) → is_field block other ≡ true → lead other ≡ Some (ToField block))

-- straight from a unit no field is led to
pub at_once : (before : List ProgramUnit) (o : Option Variable) (block : StandardBlock) → (elim o [ Some v ↦ lead_by (lead_from []) before (type_named before v.type_name) [] | None ↦ None ]) ≡ Some (ToField block) → ⊥
at_once before None block e = cc
at_once before (Some v) block e = by (type_named before v.type_name) e
  where
    inside : (o : Option (ProgramUnit × List ProgramUnit)) → (elim o [ Some found ↦ lead_from [] found.1 found.0 | None ↦ None ]) ≡ Some (ToField block) → ⊥
    inside None e = cc
    inside (Some found) e = cc

    by : (t : Option VariableType) → lead_by (lead_from []) before t [] ≡ Some (ToField block) → ⊥
    by None e = cc
    by (Some (Elementary kind)) e = cc
    by (Some (Standard b)) e = cc
    by (Some (Block name)) e = inside (block_named before name) e

-- along names
one_of : (instance : List Name) (before : List ProgramUnit) (unit : ProgramUnit) (block : StandardBlock) (field : Name) → IsOneOf (λ n. lead_from (instance ++ n ∷ []) before unit) block field
one_of [] before unit block field e = absurd (at_once before (variable_named unit field) block e)
one_of (name ∷ names) before unit block field e = at_variable (variable_named unit name) (λ b u. one_of names b u block field) e
  where
    at_block : (o : Option (ProgramUnit × List ProgramUnit)) → ((b : List ProgramUnit) (u : ProgramUnit) → IsOneOf (λ n. lead_from (names ++ n ∷ []) b u) block field) →
        IsOneOf (λ n. elim o as (λ x. Option Lead) [ Some found ↦ lead_from (names ++ n ∷ []) found.1 found.0 | None ↦ None ]) block field
    at_block None onward e = absurd (cc)
    at_block (Some found) onward e = onward found.1 found.0 e

    at_type : (t : Option VariableType) → ((b : List ProgramUnit) (u : ProgramUnit) → IsOneOf (λ n. lead_from (names ++ n ∷ []) b u) block field) → IsOneOf (λ n. lead_by (lead_from (names ++ n ∷ [])) before t (names ++ n ∷ [])) block field
    at_type None onward e = absurd (cc)
    at_type (Some (Elementary kind)) onward e = absurd (in_plain names kind block field e)
    at_type (Some (Standard b)) onward e = in_standard names block b field e
    at_type (Some (Block n)) onward e = at_block (block_named before n) onward e

    at_variable : (o : Option Variable) → ((b : List ProgramUnit) (u : ProgramUnit) → IsOneOf (λ n. lead_from (names ++ n ∷ []) b u) block field) →
        IsOneOf (λ n. elim o as (λ x. Option Lead) [ Some v ↦ lead_by (lead_from (names ++ n ∷ [])) before (type_named before v.type_name) (names ++ n ∷ []) | None ↦ None ]) block field
    at_variable None onward e = absurd (cc)
    at_variable (Some v) onward e = at_type (type_named before v.type_name) onward e

-- and in a whole text
one_of_text : (text : Text) (instance : List Name) (block : StandardBlock) (field : Name) → IsOneOf (λ n. lead_of text (Path (instance ++ n ∷ []))) block field
one_of_text text instance block field = at (reverse text)
  where
    at : (units : List ProgramUnit) → IsOneOf (λ n. path_lead units (instance ++ n ∷ [])) block field
    at [] e = absurd (cc)
    at (program ∷ before) e = one_of instance before program block field e

-- a field that keeps its value, and one next to it
kept_alongside : (old new : Text) (instance : List Name) (block : StandardBlock) (field other : Name) → lead_of new (Path (instance ++ field ∷ [])) ≡ Some (ToField block) → is_field block other ≡ true → keeps old new (Path (instance ++ field ∷ [])) ≡ true → keeps old new (Path (instance ++ other ∷ [])) ≡ true
kept_alongside old new instance block field other e is kept =
    let k = kept_leads old new (Path (instance ++ field ∷ [])) kept in
    let same : Some k.lead ≡ Some (ToField block) = sym k.new_lead ∙ e in
    let from = (one_of_text old instance block field (k.old_lead ∙ same)).1 other is in
    let to = (one_of_text new instance block field e).1 other is in
    ap (λ l. same_lead l (lead_of new (Path (instance ++ other ∷ [])))) from ∙ ap (λ l. same_lead (Some (ToField block)) l) to ∙ same_as_itself (ToField block)

-- what is at a place that keeps its value, and at one that does not
carried_there : (old new : Text) (store : Store) (place : Location) (b : Bool) → keeps old new place ≡ b → carried old store new place ≡ (if b then store place else initial_of new place)
carried_there old new store place b is = ap (λ x. if x then store place else initial_of new place) is

pub kept_whole : AStandardBlockIsKeptWhole
kept_whole old new store instance block field e = by (keeps old new (Path (instance ++ field ∷ []))) refl
  where
    never : (other : Name) (b : Bool) → keeps old new (Path (instance ++ field ∷ [])) ≡ false → is_field block other ≡ true → keeps old new (Path (instance ++ other ∷ [])) ≡ b → b ≡ false
    never other false is there kept = refl
    never other true is there kept =
        let to = (one_of_text new instance block field e).1 other there in
        let back = kept_alongside old new instance block other field to (one_of_text new instance block field e).0 kept in
        sym back ∙ is

    by : (b : Bool) → keeps old new (Path (instance ++ field ∷ [])) ≡ b → HoldsTheSameFields (carried old store new) store instance block ⊎ HoldsTheSameFields (carried old store new) (initial_of new) instance block
    by true is = inl (λ other there. carried_there old new store (Path (instance ++ other ∷ [])) true (kept_alongside old new instance block field other e there is))
    by false is = inr (λ other there. carried_there old new store (Path (instance ++ other ∷ [])) false (never other (keeps old new (Path (instance ++ other ∷ []))) is there refl))

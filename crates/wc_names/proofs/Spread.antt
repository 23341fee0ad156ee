-- The slots of a frame, variable by variable.
use Rattle.wc_model.proofs.Common.{◌≡◌, ℕ, ◌+◌, ◌<◌, Bool, true, false, List, [], ◌∷◌, ◌++◌, map, drop, get_or, length, Some, option_map, append_assoc, length-append, refl, sym, ap, subst, ◌∙◌, arith, if◌then◌else◌, slice_get, slice_get_within}
use Rattle.std.proofs.lemmas.List.{append-nil, map-append}
use Rattle.wc_model.specs.Definitions.{Variable, is_block, type_named, places_of_type, content_number, first_numbers, frame_of, slot_kind_of, slot_kinds, Name, Scope, Location, Path, Content, below, block_places, first_content, program_frame, standard_fields, unit_places, variable_places, ProgramUnit}
use Rattle.wc_model.specs.declared.block.StandardBlock.{StandardBlock}
use Rattle.wc_model.specs.declared.kind.Kind.{Kind}
use Rattle.wc_names.specs.{AreFinished, EachHoldsFirst, HoldsFirst, IsStarted, IsGrown, direct_contents, contents_of, AreRows, IsRow, Represents, type_at}
use Rattle.wc_names.specs.declared.declared_type.DeclaredType.{DeclaredType}
use Rattle.wc_names.specs.declared.declared_type.DeclaredType.TheVariants as numbered
use Rattle.wc_names.specs.declared.frame.Frame.{Frame}
use Rattle.wc_names.specs.declared.unit_table.UnitTable.{UnitTable}
use Rattle.wc_names.specs.declared.variable.Variable.{Variable as Row}
use Rattle.wc_names.proofs.Frames.{own_places, places_of}
use Rattle.wc_names.proofs.Lists.{LastOr, among, found_within, from_index_or, last, last_or, nothing}
use Rattle.wc_names.proofs.Places.{TypeCase, found_block, of_block, of_elementary, of_standard, holds_further, type_case, units_length}

-- a list that goes on is the whole; a part of what follows is added
pub chunk_added : {X : Type 0} (old new own rest whole : List X) → old ++ (own ++ rest) ≡ whole → new ≡ old ++ own → new ++ rest ≡ whole
chunk_added old new own rest whole on e = ap (λ xs. xs ++ rest) e ∙ (append_assoc old own rest ∙ on)

-- names do not change what places hold
contents_below : (name : Name) (places : List (List Name × Content)) → contents_of (below name places) ≡ contents_of places
contents_below name [] = refl
contents_below name (p ∷ places) = ap (λ cs. p.1 ∷ cs) (contents_below name places)

-- what variables hold, the first one's first
pub contents_next : (before : List ProgramUnit) (v : Variable) (vs : List Variable) → contents_of (places_of before (v ∷ vs)) ≡ contents_of (own_places before v) ++ contents_of (places_of before vs)
contents_next before v vs =
    map-append (λ (p : List Name × Content). p.1) (below v.name (own_places before v)) (places_of before vs)
    ∙ ap (λ cs. cs ++ contents_of (places_of before vs)) (contents_below v.name (own_places before v))

-- what a function gives of them, the first variable's first
pub reported_next : {X : Type 0} (f : Content → X) (before : List ProgramUnit) (v : Variable) (vs : List Variable) (own : List Content) → contents_of (own_places before v) ≡ own →
    map f (contents_of (places_of before (v ∷ vs))) ≡ map f own ++ map f (contents_of (places_of before vs))
reported_next f before v vs own e =
    ap (map f) (contents_next before v vs)
    ∙ (map-append f (contents_of (own_places before v)) (contents_of (places_of before vs)) ∙ ap (λ cs. map f cs ++ map f (contents_of (places_of before vs))) e)

-- after a frame that is started come the slots of the variables left, whose rows these are
pub record SpreadsOn (before : List ProgramUnit) (u : ProgramUnit) (old now : Frame) (rows : List Row) : Type 0 where
  pub first : ℕ
  pub left : List Variable
  pub are : AreRows before first left rows
  pub kinds : now.kinds.items ++ map slot_kind_of (contents_of (places_of before left)) ≡ old.kinds.items ++ map slot_kind_of (contents_of (unit_places before u))
  pub initials : now.initials.items ++ map content_number (contents_of (places_of before left)) ≡ old.initials.items ++ map content_number (contents_of (unit_places before u))

-- one variable more
pub spreads_next : (before : List ProgramUnit) (u : ProgramUnit) (old now new : Frame) (row : Row) (rows : List Row) (h : SpreadsOn before u old now (row ∷ rows)) →
    ((v : Variable) (first : ℕ) → IsRow before first v row → (own : List Content) × (contents_of (own_places before v) ≡ own) × IsGrown now new own) → SpreadsOn before u old new rows
spreads_next before u old now new row rows h grown = by h.left h.are h.kinds h.initials
  where
    by : (vs : List Variable) → AreRows before h.first vs (row ∷ rows) →
        now.kinds.items ++ map slot_kind_of (contents_of (places_of before vs)) ≡ old.kinds.items ++ map slot_kind_of (contents_of (unit_places before u)) →
        now.initials.items ++ map content_number (contents_of (places_of before vs)) ≡ old.initials.items ++ map content_number (contents_of (unit_places before u)) → SpreadsOn before u old new rows
    by [] are kinds initials = absurd are
    by (v ∷ vs) are kinds initials =
        let g = grown v h.first are.0 in
        record {
          first = h.first + places_of_type before v.type_name;
          left = vs;
          are = are.1;
          kinds = chunk_added now.kinds.items new.kinds.items (map slot_kind_of g.0) (map slot_kind_of (contents_of (places_of before vs))) (old.kinds.items ++ map slot_kind_of (contents_of (unit_places before u)))
              (ap (λ xs. now.kinds.items ++ xs) (sym (reported_next slot_kind_of before v vs g.0 g.1)) ∙ kinds) g.2.kinds;
          initials = chunk_added now.initials.items new.initials.items (map content_number g.0) (map content_number (contents_of (places_of before vs))) (old.initials.items ++ map content_number (contents_of (unit_places before u)))
              (ap (λ xs. now.initials.items ++ xs) (sym (reported_next content_number before v vs g.0 g.1)) ∙ initials) g.2.initials;
        }

-- the same by the number of its row
pub spreads_at : (before : List ProgramUnit) (u : ProgramUnit) (old now new : Frame) (items : List Row) (i : ℕ) (d : Row) → i < length items → SpreadsOn before u old now (drop i items) → (declared : DeclaredType) → (get_or items i d).declared ≡ declared →
    ((v : Variable) → (get_or items i d).initial ≡ option_map (λ l. l.value) v.initial → type_at before v.type_name ≡ Some declared → (own : List Content) × (contents_of (own_places before v) ≡ own) × IsGrown now new own) → SpreadsOn before u old new (drop (i + 1) items)
spreads_at before u old now new items i d within h declared is grown =
    spreads_next before u old now new (get_or items i d) (drop (i + 1) items) (subst (λ rows. SpreadsOn before u old now rows) (from_index_or items i d within) h)
    (λ v first row. grown v row.initial (row.declared ∙ ap Some is))

-- none left
pub spreads_end : (before : List ProgramUnit) (u : ProgramUnit) (old now : Frame) → SpreadsOn before u old now [] → IsGrown old now (contents_of (unit_places before u))
spreads_end before u old now h = by h.left h.are h.kinds h.initials
  where
    by : (vs : List Variable) → AreRows before h.first vs [] →
        now.kinds.items ++ map slot_kind_of (contents_of (places_of before vs)) ≡ old.kinds.items ++ map slot_kind_of (contents_of (unit_places before u)) →
        now.initials.items ++ map content_number (contents_of (places_of before vs)) ≡ old.initials.items ++ map content_number (contents_of (unit_places before u)) → IsGrown old now (contents_of (unit_places before u))
    by [] are kinds initials = record { kinds = sym (append-nil now.kinds.items) ∙ kinds; initials = sym (append-nil now.initials.items) ∙ initials }
    by (v ∷ vs) are kinds initials = absurd are

-- what a variable holds, by its type
pub held_elementary : (before : List ProgramUnit) (v : Variable) (kind : Kind) → type_at before v.type_name ≡ Some (numbered.Elementary kind) → contents_of (own_places before v) ≡ first_content kind v.initial ∷ []
held_elementary before v kind e = by (type_case before (type_named before v.type_name) (numbered.Elementary kind) e)
  where
    by : TypeCase before (type_named before v.type_name) (numbered.Elementary kind) → contents_of (own_places before v) ≡ first_content kind v.initial ∷ []
    by (of_elementary k t d) =
        let same : kind ≡ k = cc in
        ap (λ x. contents_of (variable_places (block_places before) x v.initial)) t ∙ ap (λ x. first_content x v.initial ∷ []) (sym same)
    by (of_standard b t d) = cc
    by (of_block n u us t f d) = cc

-- what the fields of a standard block hold
fields_held : (fields : List (Name × Content)) → contents_of (map (λ f. (f.0 ∷ [], f.1)) fields) ≡ map (λ f. f.1) fields
fields_held [] = refl
fields_held (f ∷ fields) = ap (λ cs. f.1 ∷ cs) (fields_held fields)

pub held_standard : (before : List ProgramUnit) (v : Variable) (block : StandardBlock) → type_at before v.type_name ≡ Some (numbered.Standard block) → contents_of (own_places before v) ≡ map (λ f. f.1) (standard_fields block)
held_standard before v block e = by (type_case before (type_named before v.type_name) (numbered.Standard block) e)
  where
    by : TypeCase before (type_named before v.type_name) (numbered.Standard block) → contents_of (own_places before v) ≡ map (λ f. f.1) (standard_fields block)
    by (of_elementary k t d) = cc
    by (of_standard b t d) =
        let same : block ≡ b = cc in
        ap (λ x. contents_of (variable_places (block_places before) x v.initial)) t ∙ (fields_held (standard_fields b) ∙ ap (λ x. map (λ f. f.1) (standard_fields x)) (sym same))
    by (of_block n u us t f d) = cc

-- a block of the text, and what its instance holds
pub record HeldBlock (units : List UnitTable) (before : List ProgramUnit) (v : Variable) (number : ℕ) : Type 0 where
  pub unit : ProgramUnit
  pub earlier : List ProgramUnit
  pub represents : Represents units earlier unit
  pub counted : number ≡ length earlier
  pub below : number < length before
  pub held : contents_of (own_places before v) ≡ contents_of (unit_places earlier unit)

pub held_block : (units : List UnitTable) (before : List ProgramUnit) (u : ProgramUnit) → Represents units before u → (v : Variable) (number : ℕ) → type_at before v.type_name ≡ Some (numbered.Block number) → HeldBlock units before v number
held_block units before u h v number e = by (type_case before (type_named before v.type_name) (numbered.Block number) e)
  where
    by : TypeCase before (type_named before v.type_name) (numbered.Block number) → HeldBlock units before v number
    by (of_elementary k t d) = cc
    by (of_standard b t d) = cc
    by (of_block m unit us t f d) =
        let found = found_block before h.others m unit us h.earlier f in
        let count : number ≡ length us = cc in
        record {
          unit = unit;
          earlier = us;
          represents = holds_further h.others units us unit h.prefix found.represents;
          counted = count;
          below =
              let l = slice_get_within h.others (length us) found.represents.table found.represents.there in
              let n = units_length before h.others h.earlier in
              omega (arith, l, n, count);
          held = ap (λ x. contents_of (variable_places (block_places before) x v.initial)) t ∙ ap contents_of found.places;
        }

-- the finished slots of a block are those of an instance
pub finished_more : (units : List UnitTable) (before : List ProgramUnit) (u : ProgramUnit) (count : ℕ) (frames : List Frame) (v : Variable) (number : ℕ) (old new : Frame) → (b : HeldBlock units before v number) → count ≡ length before → AreFinished units count frames →
    ((more : Frame) → slice_get frames number ≡ Some more → new.kinds.items ≡ old.kinds.items ++ more.kinds.items) →
    ((more : Frame) → slice_get frames number ≡ Some more → new.initials.items ≡ old.initials.items ++ more.initials.items) → IsGrown old new (contents_of (unit_places b.earlier b.unit))
finished_more units before u count frames v number old new b e done kinds initials =
    let within : number < length frames = (let n = done.counted in let l = b.below in omega (arith, n, l, e)) in
    let there = found_within frames number within in
    let same = ap (slice_get frames) (sym b.counted) ∙ there.1 in
    record {
      kinds = kinds there.0 there.1 ∙ ap (λ xs. old.kinds.items ++ xs) (done.kinds b.earlier b.unit there.0 b.represents same);
      initials = initials there.0 there.1 ∙ ap (λ xs. old.initials.items ++ xs) (done.initials b.earlier b.unit there.0 b.represents same);
    }

-- one unit's more
pub finished_on : (units : List UnitTable) (count : ℕ) (frames more : List Frame) (none frame : Frame) → none.kinds.items ≡ [] → none.initials.items ≡ [] → more ≡ frames ++ frame ∷ [] →
    ((before : List ProgramUnit) (u : ProgramUnit) → Represents units before u → count ≡ length before → IsGrown none frame (contents_of (unit_places before u))) → AreFinished units count frames → AreFinished units (count + 1) more
finished_on units count frames more none frame kinds initials is grown done = record {
  counted = ap length is ∙ (let l : length (frames ++ frame ∷ []) ≡ length frames + length (frame ∷ []) = length-append frames (frame ∷ []) in let n = done.counted in let g : length (frames ++ frame ∷ []) ≡ count + 1 = omega (arith, l, n) in g);
  kinds = λ before u f represents there. (by before u f represents (last_or frames frame (length before) f (ap (λ fs. slice_get fs (length before)) (sym is) ∙ there))).0;
  initials = λ before u f represents there. (by before u f represents (last_or frames frame (length before) f (ap (λ fs. slice_get fs (length before)) (sym is) ∙ there))).1;
}
  where
    by : (before : List ProgramUnit) (u : ProgramUnit) (f : Frame) → Represents units before u → LastOr frames frame (length before) f →
        (f.kinds.items ≡ map slot_kind_of (contents_of (unit_places before u))) × (f.initials.items ≡ map content_number (contents_of (unit_places before u)))
    by before u f represents (among there) = (done.kinds before u f represents there, done.initials before u f represents there)
    by before u f represents (last at e) =
        let n = done.counted in
        let g = grown before u represents (let c : count ≡ length before = omega (arith, at, n) in c) in (
          ap (λ (x : Frame). x.kinds.items) e ∙ (g.kinds ∙ ap (λ xs. xs ++ map slot_kind_of (contents_of (unit_places before u))) kinds),
          ap (λ (x : Frame). x.initials.items) e ∙ (g.initials ∙ ap (λ xs. xs ++ map content_number (contents_of (unit_places before u))) initials),
        )

-- each frame holds what it may at first, one more with the others
pub first_on : (frames more : List Frame) (frame : Frame) → more ≡ frames ++ frame ∷ [] → HoldsFirst frame → EachHoldsFirst frames → EachHoldsFirst more
first_on frames more frame is held each = λ k f there. by k f (last_or frames frame k f (ap (λ fs. slice_get fs k) (sym is) ∙ there))
  where
    by : (k : ℕ) (f : Frame) → LastOr frames frame k f → HoldsFirst f
    by k f (among there) = each k f there
    by k f (last at e) = subst HoldsFirst (sym e) held

-- before the first unit none is finished
pub none_finished : (units : List UnitTable) (frames : List Frame) → frames ≡ [] → AreFinished units 0 frames
none_finished units frames none = record {
  counted = ap length none;
  kinds = λ before u frame represents there. absurd (nothing frames frame (length before) none there);
  initials = λ before u frame represents there. absurd (nothing frames frame (length before) none there);
}

pub none_first : (frames : List Frame) → frames ≡ [] → EachHoldsFirst frames
none_first frames none = λ k frame there. absurd (nothing frames frame k none there)

-- the whole frame, from one that is started
pub frame_spread : (scope : Scope) (started new : Frame) → IsStarted (is_block scope.unit) started → IsGrown started new (contents_of (unit_places scope.before scope.unit)) →
    (new.kinds.items ≡ slot_kinds (frame_of scope)) × (new.initials.items ≡ first_numbers (frame_of scope))
frame_spread scope started new begins grown = by (is_block scope.unit) begins
  where
    places : List (List Name × Content)
    places = unit_places scope.before scope.unit

    reported_paths : {X : Type 0} (f : Content → X) (ps : List (List Name × Content)) → map f (contents_of ps) ≡ map (λ (entry : Location × Content). f entry.1) (map (λ p. (Path p.0, p.1)) ps)
    reported_paths f [] = refl
    reported_paths f (p ∷ ps) = ap (λ xs. f p.1 ∷ xs) (reported_paths f ps)

    frame : Bool → List (Location × Content)
    frame b = if b then map (λ p. (Path p.0, p.1)) places else program_frame scope.before scope.unit

    by : (b : Bool) → IsStarted b started → (new.kinds.items ≡ slot_kinds (frame b)) × (new.initials.items ≡ first_numbers (frame b))
    by true is = (
      grown.kinds ∙ (ap (λ xs. xs ++ map slot_kind_of (contents_of places)) is.kinds ∙ reported_paths slot_kind_of places),
      grown.initials ∙ (ap (λ xs. xs ++ map content_number (contents_of places)) is.initials ∙ reported_paths content_number places),
    )
    by false is = (
      grown.kinds ∙ (ap (λ xs. xs ++ map slot_kind_of (contents_of places)) is.kinds ∙ ap (λ xs. map slot_kind_of (direct_contents false) ++ xs) (reported_paths slot_kind_of places)),
      grown.initials ∙ (ap (λ xs. xs ++ map content_number (contents_of places)) is.initials ∙ ap (λ xs. map content_number (direct_contents false) ++ xs) (reported_paths content_number places)),
    )

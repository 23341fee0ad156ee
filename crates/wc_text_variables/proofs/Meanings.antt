-- What a path leads to in a text, by numbers.
use Rattle.wc_model.proofs.Common.{◌≡◌, ℕ, Bool, Bor, List, map, true, false, Option, Some, None, refl, sym, ap, ◌∙◌, map-map}
use Rattle.std.specs.Prelude.{if◌then◌else◌, ◌&&◌, option_and_then, reverse, slice_get, not}
use Rattle.std.specs.Option.{is_none, option_map}
use Rattle.wc_built_in.specs.Fields.{field_seen, is_named, member_seen, named_seen, value_kind}
use Rattle.wc_built_in.specs.declared.fields.StandardField.{StandardField}
use Rattle.wc_text_flat.proofs.Images.{first_of_reversed}
use Rattle.wc_model.specs.Definitions.{frame_of_text, Member, DirectVariable, variable_at, place_number, slot_kind_of, slot_kinds, name_of, initial_of, Text}
use Rattle.wc_model.specs.Language.Store.{Location, Direct, Path, Content, Plain, Moment, Phase}
use Rattle.wc_model.specs.declared.kind.Kind.{Kind}
use Rattle.wc_model.specs.declared.value.Value.TheVariants.{Bool as Truth, Dint, Time}
use Rattle.wc_text_variables.specs.Names.{variable_at_location, variable_named, numbered_variable, if_readable, is_address, is_hidden, is_value, parts_in}
use Rattle.wc_text_variables.specs.declared.variables.NamedVariable.{NamedVariable}

-- a field that texts see is a member, and another one is not
pub unnamed : (f : StandardField) (o : Option Member) → named_seen f ≡ option_map member_seen o → not (is_named f.section) ≡ is_none o
unnamed f o e = by (is_named f.section) o e
  where
    by : (b : Bool) (m : Option Member) → (if b then Some (field_seen f) else None) ≡ option_map member_seen m → not b ≡ is_none m
    by true None e = cc
    by true (Some m) e = refl
    by false None e = refl
    by false (Some m) e = cc

-- what is watched at a place of that number and that kind
abbrev pub of_kind : ℕ → Option Kind → Option NamedVariable
of_kind n kind = option_map (λ k. record { place = record { 0 = n }; kind = k }) kind

-- a path without a number leads to nothing
pub unnumbered : (text : Text) (location : Option Location) → option_and_then (place_number (frame_of_text text)) location ≡ None
    → None ≡ option_and_then (variable_at_location text) location
unnumbered text None e = refl
unnumbered text (Some place) e = by (initial_of text place) ∙ ap (numbered_variable (initial_of text place)) (sym e)
  where
    by : (content : Option Content) → None ≡ numbered_variable content None
    by (Some (Plain value)) = refl
    by content = refl

-- one with a number to what its slot holds
pub numbered : (text : Text) (location : Option Location) (n : ℕ) (kind : Option Kind) → option_and_then (place_number (frame_of_text text)) location ≡ Some n
    → kind ≡ option_and_then value_kind (slice_get (slot_kinds (frame_of_text text)) n) → of_kind n kind ≡ option_and_then (variable_at_location text) location
numbered text None n kind e k = cc
numbered text (Some place) n kind e k =
    ap (of_kind n) (k ∙ ap (option_and_then value_kind) ((first_of_reversed (reverse text)).kinds place n e))
    ∙ by (initial_of text place) ∙ ap (λ m. numbered_variable (initial_of text place) m) (sym e)
  where
    by : (content : Option Content) → of_kind n (option_and_then value_kind (option_map slot_kind_of content)) ≡ numbered_variable content (Some n)
    by None = refl
    by (Some (Plain (Truth b))) = refl
    by (Some (Plain (Dint d))) = refl
    by (Some (Plain (Time t))) = refl
    by (Some (Moment moment)) = refl
    by (Some (Phase phase)) = refl

-- a place that is not hidden means what is watched there, and one that is hidden nothing
place_means : (text : Text) (place : Location) (hidden : Bool) → is_hidden text place ≡ hidden
    → (if hidden then None else variable_at_location text place) ≡ option_and_then (variable_at_location text) (if_readable text place)
place_means text place hidden is =
    by hidden (initial_of text place) refl ∙ ap (λ h. option_and_then (variable_at_location text) (if is_value (initial_of text place) && not h then Some place else None)) (sym is)
  where
    by : (hidden : Bool) (content : Option Content) → initial_of text place ≡ content → (if hidden then None else numbered_variable content (place_number (frame_of_text text) place))
        ≡ option_and_then (variable_at_location text) (if is_value content && not hidden then Some place else None)
    by false (Some (Plain value)) there = ap (λ content. numbered_variable content (place_number (frame_of_text text) place)) (sym there)
    by true (Some (Plain value)) there = refl
    by hidden content there = refl

-- what a name means that is an address
pub by_address : (text : Text) (name : List ℕ) → is_address name ≡ true → option_and_then (variable_at_location text) (option_map Direct (variable_at (name_of name))) ≡ variable_named text name
by_address text name is = rw is (by (variable_at (name_of name)))
  where
    by : (v : Option DirectVariable) → option_and_then (variable_at_location text) (option_map Direct v)
        ≡ option_and_then (variable_at_location text) (option_and_then (if_readable text) (option_map Direct v))
    by None = refl
    by (Some v) = place_means text (Direct v) false refl

-- and one that is not, by its parts
abbrev pub path_of : List (Bor (List ℕ)) → Location
path_of parts = Path (map (λ part. name_of part.now) parts)

pub by_parts : (text : Text) (name : List ℕ) (parts : List (Bor (List ℕ))) (hidden : Bool) → is_address name ≡ false → map (λ part. part.now) parts ≡ parts_in name
    → is_hidden text (path_of parts) ≡ hidden → (if hidden then None else variable_at_location text (path_of parts)) ≡ variable_named text name
by_parts text name parts hidden other are is =
    rw other (place_means text (path_of parts) hidden is
    ∙ ap (λ names. option_and_then (variable_at_location text) (if_readable text (Path names))) (sym (map-map name_of (λ (part : Bor (List ℕ)). part.now) parts) ∙ ap (map name_of) are))

-- The value that a name leads to in the program of a scale, or that it leads nowhere.
use Rattle.std.proofs.Common.{◌≡◌, ◌∙◌, ℕ, ℤ, List, false, Option, Some, None, ap, inr, pos, refl, subst, sym, is_some}
use Rattle.wc_text_flat.specs.Contents.{frame_of_text, number_in}
use Rattle.wc_machine.specs.Machines.{MachineState, RepresentsText}
use Rattle.wc_model.specs.Definitions.{PlateData, content_number, place_number, Text, text_view}
use Rattle.wc_model.specs.Language.Store.{Location, Plain, Store}
use Rattle.wc_model.specs.declared.source.Source.{Source}
use Rattle.wc_run.specs.OpenScales.{Came, IsRunning, Running}
use Rattle.wc_run.specs.declared.open_scale.OpenScale.{OpenScale}
use Rattle.wc_scale.proofs.Opened.{is_allowed_in}
use Rattle.wc_scale.specs.Representation.{Represents, machine_in, IsValueOf, OfProgram, RefusesValue, kind_number}
use Rattle.wc_scale.specs.declared.results.VariableRead.{VariableRead}
use Rattle.wc_scale.specs.declared.scale.Scale.{Scale}
use Rattle.wc_store.specs.declared.slot_store.SlotStore.{SlotStore}
use Rattle.wc_text_variables.proofs.Readings.{Reads, known, reads}
use Rattle.wc_text_variables.specs.Names.{named_location, variable_named}
use Rattle.wc_text_variables.specs.declared.variables.NamedVariable.{NamedVariable}

module _ (scale : Scale) (opened : OpenScale SlotStore) (machine : MachineState) (is : scale.opened ≡ Some opened) (has : opened.machine ≡ Some machine) where
  -- the machine runs the program that the scale has
  runs : (plate : PlateData) (came : Came) (running : Running) → came.program ≡ Some running → Represents scale plate came → RepresentsText machine running.text running.store
  runs plate came running there represents =
      let entity_at = is_allowed_in scale.opened opened plate came is represents in
      subst (λ (p : Option Running). IsRunning (Some machine) p) there (subst (λ (m : Option MachineState). IsRunning m came.program) has entity_at.program)

  -- what the name means in the text that was loaded is what it means in the program
  same_meaning : (source : Source) (name : List ℕ) (running : Running) → source ≡ machine.source → RepresentsText machine running.text running.store
      → variable_named (text_view source) name ≡ variable_named running.text name
  same_meaning source name running same at = ap (λ s. variable_named (text_view s) name) same ∙ ap (λ t. variable_named t name) at.same_text

  -- the number at the place of the name is that of the value there
  pub is_value : (source : Source) (name : List ℕ) (variable : NamedVariable) (kind : ℕ) (number : ℤ) → source ≡ machine.source → Some variable ≡ variable_named (text_view source) name
      → ((text : Text) (store : Store) (place : Location) → RepresentsText machine text store → place_number (frame_of_text text) place ≡ Some variable.place.0 → Some number ≡ number_in store place)
      → kind ≡ kind_number variable.kind → OfProgram scale (λ running. IsValueOf (record { status = 0; kind = kind; number = number }) running name)
  is_value source name variable kind number same means numbered kind_is = λ plate came running there represents.
      let at : RepresentsText machine running.text running.store = runs plate came running there represents in
      let r : Reads running.text running.store name variable =
      reads running.text running.store name variable at.slots (sym (means ∙ same_meaning source name running same at)) in
      let n : Some number ≡ Some (content_number (Plain r.value)) = numbered running.text running.store r.place at r.number ∙ r.held in record {
        place = r.place;
        named = r.is;
        value = r.value;
        held = r.there;
        kind = kind_is ∙ ap kind_number (sym r.kind);
        number = cc (n);
      }

  -- a variable has a number
  pub has_number : (source : Source) (name : List ℕ) (variable : NamedVariable) → source ≡ machine.source → Some variable ≡ variable_named (text_view source) name
      → ((text : Text) (store : Store) (place : Location) → RepresentsText machine text store → place_number (frame_of_text text) place ≡ Some variable.place.0 → None ≡ number_in store place)
      → OfProgram scale (λ running. named_location running.text name ≡ None)
  has_number source name variable same means numbered = λ plate came running there represents.
      let at : RepresentsText machine running.text running.store = runs plate came running there represents in
      let r : Reads running.text running.store name variable =
      reads running.text running.store name variable at.slots (sym (means ∙ same_meaning source name running same at)) in
      let n : None ≡ Some (content_number (Plain r.value)) = numbered running.text running.store r.place at r.number ∙ r.held in absurd (cc (n))

  none_there : (place : Option Location) → is_some place ≡ false → place ≡ None
  none_there None e = refl
  none_there (Some place) e = absurd (cc (e))

  -- a name with no variable leads nowhere
  pub leads_nowhere : (source : Source) (name : List ℕ) → source ≡ machine.source → None ≡ variable_named (text_view source) name
      → OfProgram scale (λ running. named_location running.text name ≡ None)
  leads_nowhere source name same means = λ plate came running there represents.
      let at : RepresentsText machine running.text running.store = runs plate came running there represents in
      none_there (named_location running.text name) (sym (known running.text name) ∙ ap is_some (sym (means ∙ same_meaning source name running same at)))

  -- so it is refused
  pub refuses_value : (name : List ℕ) (read : VariableRead) → read ≡ record { status = 12; kind = 0; number = pos 0 }
      → OfProgram scale (λ running. named_location running.text name ≡ None) → RefusesValue scale name read
  refuses_value name read e nowhere = subst (λ (r : VariableRead). RefusesValue scale name r) (sym e) (record {
    closed = λ closed. absurd (let n : None ≡ Some opened = sym closed ∙ is in cc (n));
    program = λ _ none. absurd (let n : None ≡ Some machine = sym (subst (λ held. machine_in held ≡ None) is none) ∙ has in cc (n));
    unknown = λ _. nowhere;
    known = λ plate came running there represents named. absurd (named (nowhere plate came running there represents));
    else = λ _ _. inr (inr refl);
    empty = λ _. (refl, refl);
  })

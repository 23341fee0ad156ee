-- What is seen of flat calls is what is seen of the calls that they represent.
use Rattle.std.proofs.Common.{◌≡◌, ℕ, ◌+◌, Bool, true, false, List, [], ◌∷◌, ◌++◌, map, length, Option, Some, None, Result, Ok, Err, ℤ, append_assoc, refl, sym, ap, subst, ◌∙◌, arith}
use Rattle.std.proofs.lemmas.List.{length-append, length-map}
use Rattle.std.specs.Option.{option_map}
use Rattle.wc_text_flat.proofs.BlockLines.{CalledAs, block_follows, fields_at}
use Rattle.wc_text_flat.proofs.CallLines.{argument_follows, output_follows, instance_based, answer_given, all_parts, lowered_after}
use Rattle.wc_text_flat.proofs.Lines.{WritesAs}
use Rattle.wc_text_flat.proofs.Sides.{Sides, flat, BodyFollows, AreAlike, state_of}
use Rattle.wc_text_flat.proofs.Values.{value_number, acts_follow}
use Rattle.wc_text_flat.specs.{AreContents, State, Skips, Ran, goes_on, with_all, turns, returns, line_runs, Operand, Number, At as AtPlace, argument_line, AreArguments, AreOutputs, IsCallLowered, IsUnitBody, IsBodyOf, block_called, given, acts}
use Rattle.wc_model.specs.Definitions.{standard_called, VariableType, Elementary, Standard, Block, Member, members_of, block_named, slot_kinds, Outcome, Done, Stuck, Effect, Goes, Fails, Running, from_store, chosen, assigned_one, assigned, given_one, given_out, call_trace, body_outcome, made, called_type, call_effect, step_effect, Name, Reason, NoSuchPlace, type_of, Store, Item, At, Argument, StandardBody, Called, GivenOut, Assignment, inputs_of, outputs_of, Call, ProgramUnit}
use Rattle.wc_model.specs.Language.Meaning as meaning
use Rattle.wc_model.specs.declared.block.StandardBlock.{StandardBlock}
use Rattle.wc_model.specs.declared.code.Code.{Code}
use Rattle.wc_model.specs.declared.code.Code.TheVariants.{Call as CallLine, Body}
use Rattle.wc_model.specs.declared.operator.Condition.{Condition}
use Rattle.wc_model.specs.declared.place.Place.{Place}
use Rattle.wc_model.specs.declared.value.Value.{Value}
use Rattle.wc_laws_language.proofs.CallSteps.{IsInstance, type_of-found}
use Rattle.wc_text_flat.proofs.SeenSides.{OutcomeSeen, AreSeenAlike, OnwardSeen, seen_append, seen_deeper, IsNoBody, entry, line_then, passed_unseen}
use Rattle.wc_text_flat.specs.FlatSeen.{FlatSeen, FlatSeenCalls, deeper, flat_seen_from, flat_seen, is_body_line, IsItem, AreSeenAs}
use Rattle.wc_text_flat.specs.Seen.{Seen, SeenCalls, seen_at, seen_called, seen_store, seen_inputs, seen_outputs, seen_block, seen_after, seen_with, seen_made, seen_call, seen_step}

-- what is seen of lines after which the result is the same is what is seen of a store that is written
abbrev pub AssignsSeen : Sides → FlatSeenCalls → List ℕ → List Code → Option Value → List ℤ → List ℤ → Result Store Reason → List Seen → Type 0
AssignsSeen w flats sources code result put_by numbers (Ok new) seen =
    (after : List ℤ) × AreContents w.frame new after × ((fs : List FlatSeen) × AreSeenAs w.frame seen fs
    × ((more : List ℕ) (others : List Code) → flat_seen (flat w) flats (sources ++ more) (code ++ others) (Skips 0) (state_of result put_by numbers) ≡ fs ++ flat_seen (flat w) flats more others (Skips 0) (state_of result put_by after)))
AssignsSeen w flats sources code result put_by numbers (Err reason) seen = Unit {0}

-- a part of a call that is not a line of the body
abbrev pub IsPart : Item → ℕ → Code → Type 0
IsPart item source line = IsItem item 0 source line × IsNoBody line

-- one line more before lines that follow
pub moved_seen : (w : Sides) (flats : FlatSeenCalls) (item : Item) (source : ℕ) (sources : List ℕ) (result : Option Value) (put_by numbers : List ℤ) (line : Code) (lines : List Code) → IsPart item source line → (one : Result Store Reason) (rest : Store → Result Store Reason) (seen : Store → List Seen) → WritesAs w (state_of result put_by numbers) one (line_runs (flat w) (state_of result put_by numbers) line) → ((new : Store) (after : List ℤ) → AreContents w.frame new after → AssignsSeen w flats sources lines result put_by after (rest new) (seen new)) → AssignsSeen w flats (source ∷ sources) (line ∷ lines) result put_by numbers (elim one as (λ x. Result Store Reason) [ Ok new ↦ rest new | Err reason ↦ Err reason ]) (seen_store item result one seen)
moved_seen w flats item source sources result put_by numbers line lines part (Err reason) rest seen h onward = tt
moved_seen w flats item source sources result put_by numbers line lines part (Ok new) rest seen h onward = first (rest new) (onward new h.0 h.1)
  where
    first : (r : Result Store Reason) → AssignsSeen w flats sources lines result put_by h.0 r (seen new) → AssignsSeen w flats (source ∷ sources) (line ∷ lines) result put_by numbers r (seen_at item result new ∷ seen new)
    first (Err reason) k = tt
    first (Ok last) k = (
      k.0,
      k.1,
      (
        entry w source line (state_of result put_by numbers) (state_of result put_by h.0) ∷ k.2.0,
        (record { item = part.0; result = refl; contents = h.1 }, k.2.1),
        λ more others. line_then w flats source line (state_of result put_by numbers) _ part.1 h.2 (sources ++ more) (lines ++ others)
            ∙ ap (λ (l : List FlatSeen). entry w source line (state_of result put_by numbers) (state_of result put_by h.0) ∷ l) (k.2.2 more others),
      ),
    )

-- the line of an input or an output is not a line of the body
pub input_part : (source : ℕ) (operand : Operand) (target : Place) → IsPart Argument source (argument_line operand target)
input_part source (Number n) target = ((refl, refl), tt)
input_part source (AtPlace place) target = ((refl, refl), tt)

pub output_part : (source : ℕ) (operand : Operand) (target : Place) → IsPart GivenOut source (argument_line operand target)
output_part source (Number n) target = ((refl, refl), tt)
output_part source (AtPlace place) target = ((refl, refl), tt)

-- nothing is seen of no lines
pub none_seen : (w : Sides) (flats : FlatSeenCalls) (result : Option Value) (put_by : List ℤ) (store : Store) (numbers : List ℤ) → AreContents w.frame store numbers → AssignsSeen w flats [] [] result put_by numbers (Ok store) []
none_seen w flats result put_by store numbers contents = (numbers, contents, ([], tt, λ more others. refl))

-- all inputs
pub inputs_seen : (w : Sides) → AreAlike w → (flats : FlatSeenCalls) (source : ℕ) (result : Option Value) (put_by : List ℤ) (members : List Member) (instance : Name) (inputs : List Assignment) (code : List Code) → AreArguments w.here.scope instance inputs code → (store : Store) (numbers : List ℤ) → AreContents w.frame store numbers → AssignsSeen w flats (map (λ input. source) inputs) code result put_by numbers (assigned w.here members instance inputs store) (seen_inputs w.here members instance result inputs store)
inputs_seen w alike flats source result put_by members instance [] [] are store numbers contents = none_seen w flats result put_by store numbers contents
inputs_seen w alike flats source result put_by members instance [] (line ∷ lines) are store numbers contents = absurd are
inputs_seen w alike flats source result put_by members instance (input ∷ inputs) [] are store numbers contents = absurd are
inputs_seen w alike flats source result put_by members instance (input ∷ inputs) (line ∷ lines) are store numbers contents =
    moved_seen w flats Argument source (map (λ i. source) inputs) result put_by numbers line lines
    (subst (IsPart Argument source) (sym are.0.4) (input_part source are.0.0 are.0.1))
    (assigned_one w.here store members instance input) (assigned w.here members instance inputs) (seen_inputs w.here members instance result inputs)
    (argument_follows w alike result put_by store numbers contents members instance input line are.0)
    (λ new after held. inputs_seen w alike flats source result put_by members instance inputs lines are.1 new after held)

-- all outputs
pub outputs_seen : (w : Sides) → AreAlike w → (flats : FlatSeenCalls) (source : ℕ) (result : Option Value) (put_by : List ℤ) (instance : Name) (outputs : List Assignment) (code : List Code) → AreOutputs w.here.scope instance outputs code → (store : Store) (numbers : List ℤ) → AreContents w.frame store numbers → AssignsSeen w flats (map (λ output. source) outputs) code result put_by numbers (given_out w.here instance outputs store) (seen_outputs w.here instance result outputs store)
outputs_seen w alike flats source result put_by instance [] [] are store numbers contents = none_seen w flats result put_by store numbers contents
outputs_seen w alike flats source result put_by instance [] (line ∷ lines) are store numbers contents = absurd are
outputs_seen w alike flats source result put_by instance (output ∷ outputs) [] are store numbers contents = absurd are
outputs_seen w alike flats source result put_by instance (output ∷ outputs) (line ∷ lines) are store numbers contents =
    moved_seen w flats GivenOut source (map (λ o. source) outputs) result put_by numbers line lines
    (subst (IsPart GivenOut source) (sym are.0.4) (output_part source are.0.0 are.0.1))
    (given_one w.here store instance output) (given_out w.here instance outputs) (seen_outputs w.here instance result outputs)
    (output_follows w alike result put_by store numbers contents instance output line are.0)
    (λ new after held. outputs_seen w alike flats source result put_by instance outputs lines are.1 new after held)

-- what is seen of a line is what is seen of the body of a block, and the result is the caller's
abbrev pub BlockSeen : Sides → FlatSeenCalls → ℕ → Code → Option Value → List ℤ → List ℤ → Outcome → List Seen → Type 0
BlockSeen w flats source line result put_by numbers (Done inner new trace) seen =
    (after : List ℤ) × AreContents w.frame new after × ((fs : List FlatSeen) × AreSeenAs w.frame seen fs
    × ((more : List ℕ) (others : List Code) → flat_seen (flat w) flats (source ∷ more) (line ∷ others) (Skips 0) (state_of result put_by numbers) ≡ fs ++ flat_seen (flat w) flats more others (Skips 0) (state_of result put_by after)))
BlockSeen w flats source line result put_by numbers (Stuck reason) seen = Unit {0}

-- the body of a standard block
pub standard_seen : (w : Sides) → AreAlike w → (flats : FlatSeenCalls) (source : ℕ) (result : Option Value) (put_by : List ℤ) (store : Store) (numbers : List ℤ) → AreContents w.frame store numbers → (instance : Name) (block : StandardBlock) → IsInstance w.here.scope instance (Standard block) → (line : Code) → IsBodyOf w.here.scope instance (Some (Standard block)) line → (calls : SeenCalls) → BlockSeen w flats source line result put_by numbers (body_outcome w.here (Standard block) instance store) (seen_block w.here calls result (Standard block) instance store)
standard_seen w alike flats source result put_by store numbers contents instance block is line lowered calls =
    step (standard_called block w.here.now store (w.here.instance ++ instance ∷ []))
    (block_follows w.frame block w.here.now store numbers contents (w.here.instance ++ instance ∷ []) (w.base + lowered.0.0) (fields_at w.frame w.here.scope w.here.instance w.base alike.based instance is.variable is.found block is.typed lowered.0.0 lowered.1))
  where
    state : State
    state = state_of result put_by numbers

    step : (r : Result Store Reason) → CalledAs w.frame r (block_called block w.here.now (slot_kinds w.frame) numbers (w.base + lowered.0.0)) → BlockSeen w flats source line result put_by numbers (elim r as (λ x. Outcome) [ Ok new ↦ Done None new (StandardBody ∷ []) | Err reason ↦ Stuck reason ]) (seen_store StandardBody result r (λ new. []))
    step (Err reason) h = tt
    step (Ok new) h = (
      h.0,
      h.1,
      (
        entry w source line state (state_of result put_by h.0) ∷ [],
        (record { item = (refl, subst (λ (l : Code). is_body_line l ≡ false) (sym lowered.2) refl); result = refl; contents = h.1 }, tt),
        λ more others. line_then w flats source line state _ (subst IsNoBody (sym lowered.2) tt)
            (ap (line_runs (flat w) state) lowered.2 ∙ ap (λ (o : Option (List ℤ)). given o (λ ns. goes_on (with_all state ns))) h.2) more others,
      ),
    )

-- the body of a block of the text
pub unit_seen : (w : Sides) (calls : SeenCalls) (flats : FlatSeenCalls) → AreSeenAlike w calls flats → (source : ℕ) (result : Option Value) (put_by : List ℤ) (store : Store) (numbers : List ℤ) → AreContents w.frame store numbers → (instance name : Name) → IsInstance w.here.scope instance (Block name) → (line : Code) → IsBodyOf w.here.scope instance (Some (Block name)) line → BlockSeen w flats source line result put_by numbers (body_outcome w.here (Block name) instance store) (seen_block w.here calls result (Block name) instance store)
unit_seen w calls flats alike source result put_by store numbers contents instance name is line lowered = by_block (block_named w.here.scope.before name) refl lowered
  where
    names : List Name
    names = w.here.instance ++ instance ∷ []

    state : State
    state = state_of result put_by numbers

    by_outcome : (earlier : List ProgramUnit) (at : Place) → line ≡ Body (length earlier) at → (o : Outcome) (seen : List Seen) → BodyFollows w.frame o (w.calls (length earlier) (w.base + at.0) numbers) → OutcomeSeen w.frame o seen (flats (length earlier) (w.base + at.0) numbers) → BlockSeen w flats source line result put_by numbers (elim o as (λ x. Outcome) [ Done inner new trace ↦ Done None new (map Called trace) | Stuck reason ↦ Stuck reason ]) (map seen_called seen)
    by_outcome earlier at is_line (Stuck reason) seen h k = tt
    by_outcome earlier at is_line (Done inner new trace) seen h k = (
      h.0.numbers,
      h.3,
      (
        map deeper (flats (length earlier) (w.base + at.0) numbers),
        seen_deeper w.frame seen (flats (length earlier) (w.base + at.0) numbers) k,
        λ more others. ap (λ (l : Code). flat_seen (flat w) flats (source ∷ more) (l ∷ others) (Skips 0) state) is_line
            ∙ ap (λ (o : Option Ran). map deeper (flats (length earlier) (w.base + at.0) numbers) ++ flat_seen_from (given o (λ ran. returns state ran)) (flat_seen (flat w) flats more others)) h.1,
      ),
    )

    by_block : (b : Option (ProgramUnit × List ProgramUnit)) → block_named w.here.scope.before name ≡ b → IsUnitBody w.here.scope instance b line → BlockSeen w flats source line result put_by numbers (body_outcome w.here (Block name) instance store) (seen_block w.here calls result (Block name) instance store)
    by_block None e body = absurd body
    by_block (Some found) e body =
        by_outcome found.1 body.0 body.2 (w.here.calls name names store) (calls name names store)
        (alike.alike.calls_follow name found.0 found.1 e names (w.base + body.0.0) (instance_based w alike.alike instance name is body.0.0 body.1 found.0 found.1 e) store numbers contents)
        (alike.seen_follow name found.0 found.1 e names (w.base + body.0.0) (instance_based w alike.alike instance name is body.0.0 body.1 found.0 found.1 e) store numbers contents)

-- the body of whatever is called
pub block_seen : (w : Sides) (calls : SeenCalls) (flats : FlatSeenCalls) → AreSeenAlike w calls flats → (source : ℕ) (result : Option Value) (put_by : List ℤ) (store : Store) (numbers : List ℤ) → AreContents w.frame store numbers → (instance : Name) (type : VariableType) → type_of w.here.scope instance ≡ Some type → (line : Code) → IsBodyOf w.here.scope instance (Some type) line → BlockSeen w flats source line result put_by numbers (body_outcome w.here type instance store) (seen_block w.here calls result type instance store)
block_seen w calls flats alike source result put_by store numbers contents instance (Elementary kind) e line lowered = absurd lowered
block_seen w calls flats alike source result put_by store numbers contents instance (Standard block) e line lowered = standard_seen w alike.alike flats source result put_by store numbers contents instance block (type_of-found w.here.scope instance (Standard block) e) line lowered calls
block_seen w calls flats alike source result put_by store numbers contents instance (Block name) e line lowered = unit_seen w calls flats alike source result put_by store numbers contents instance name (type_of-found w.here.scope instance (Block name) e) line lowered

-- the lines of the text at which a call's flat lines are
abbrev pub call_sources : ℕ → List Assignment → List ℕ
call_sources number arguments = number ∷ map (λ input. number) (inputs_of arguments) ++ number ∷ map (λ output. number) (outputs_of arguments)

-- what is seen of a call that is made: its line, its inputs, its block's body, its outputs
pub made_seen : (w : Sides) (flats : FlatSeenCalls) (own_line body : Code) (lines given : List Code) (number : ℕ) (instance : Name) (arguments : List Assignment) (result : Option Value) (put_by : List ℤ) (store : Store) (numbers : List ℤ) → AreContents w.frame store numbers → is_body_line own_line ≡ true → IsNoBody own_line → line_runs (flat w) (state_of result put_by numbers) own_line ≡ goes_on (state_of result put_by numbers) →
    (inputs : List Seen) (after : List ℤ) (fs : List FlatSeen) → AreSeenAs w.frame inputs fs →
    ((more : List ℕ) (others : List Code) → flat_seen (flat w) flats (map (λ input. number) (inputs_of arguments) ++ more) (lines ++ others) (Skips 0) (state_of result put_by numbers) ≡ fs ++ flat_seen (flat w) flats more others (Skips 0) (state_of result put_by after)) →
    (o : Outcome) (block : List Seen) → BlockSeen w flats number body result put_by after o block →
    ((new : Store) (last : List ℤ) → AreContents w.frame new last → AssignsSeen w flats (map (λ output. number) (outputs_of arguments)) given result put_by last (given_out w.here instance (outputs_of arguments) new) (seen_outputs w.here instance result (outputs_of arguments) new)) →
    OnwardSeen w flats (call_sources number arguments) (own_line ∷ lines ++ body ∷ given) put_by (state_of result put_by numbers) (made w.here instance o number arguments result) (seen_at (At number) result store ∷ inputs ++ (block ++ seen_after o (seen_outputs w.here instance result (outputs_of arguments))))
made_seen w flats own_line body lines given number instance arguments result put_by store numbers contents is no_body acting inputs after fs are inputs_so (Stuck reason) block h outputs = tt
made_seen w flats own_line body lines given number instance arguments result put_by store numbers contents is no_body acting inputs after fs are inputs_so (Done inner new trace) block h outputs =
    by_store (given_out w.here instance (outputs_of arguments) new) (seen_outputs w.here instance result (outputs_of arguments) new) (outputs new h.0 h.1)
  where
    state : State
    state = state_of result put_by numbers

    by_store : (r : Result Store Reason) (seen : List Seen) → AssignsSeen w flats (map (λ output. number) (outputs_of arguments)) given result put_by h.0 r seen → OnwardSeen w flats (call_sources number arguments) (own_line ∷ lines ++ body ∷ given) put_by state (from_store r (λ last. Goes (Running result) last (call_trace number arguments trace))) (seen_at (At number) result store ∷ inputs ++ (block ++ seen))
    by_store (Err reason) seen k = tt
    by_store (Ok last) seen k = (
      k.0,
      k.1,
      (
        entry w number own_line state state ∷ fs ++ (h.2.0 ++ k.2.0),
        (record { item = (refl, refl, is); result = refl; contents = contents }, seen_append w.frame inputs (block ++ seen) fs (h.2.0 ++ k.2.0) are (seen_append w.frame block seen h.2.0 k.2.0 h.2.1 k.2.1)),
        λ more others. line_then w flats number own_line state _ no_body acting ((map (λ input. number) (inputs_of arguments) ++ number ∷ map (λ output. number) (outputs_of arguments)) ++ more) ((lines ++ body ∷ given) ++ others)
            ∙ ap (λ (l : List FlatSeen). entry w number own_line state state ∷ l)
            (ap (λ (s : List ℕ). flat_seen (flat w) flats s ((lines ++ body ∷ given) ++ others) (Skips 0) state) (append_assoc (map (λ input. number) (inputs_of arguments)) (number ∷ map (λ output. number) (outputs_of arguments)) more)
            ∙ (ap (λ (c : List Code). flat_seen (flat w) flats (map (λ input. number) (inputs_of arguments) ++ (number ∷ map (λ output. number) (outputs_of arguments) ++ more)) c (Skips 0) state) (append_assoc lines (body ∷ given) others)
            ∙ (inputs_so (number ∷ map (λ output. number) (outputs_of arguments) ++ more) (body ∷ given ++ others)
            ∙ (ap (λ (l : List FlatSeen). fs ++ l) (h.2.2 (map (λ output. number) (outputs_of arguments) ++ more) (given ++ others))
            ∙ (ap (λ (l : List FlatSeen). fs ++ (h.2.0 ++ l)) (k.2.2 more others)
            ∙ (ap (λ (l : List FlatSeen). fs ++ l) (sym (append_assoc h.2.0 k.2.0 (left more others)))
            ∙ sym (append_assoc fs (h.2.0 ++ k.2.0) (left more others)))))))),
      ),
    )
      where
        left : List ℕ → List Code → List FlatSeen
        left more others = flat_seen (flat w) flats more others (Skips 0) (state_of result put_by k.0)

-- a call that is made
pub acting_seen : (w : Sides) (calls : SeenCalls) (flats : FlatSeenCalls) → AreSeenAlike w calls flats → (number : ℕ) (result : Option Value) (put_by : List ℤ) (store : Store) (numbers : List ℤ) → AreContents w.frame store numbers → (condition : Condition) (instance : Name) (arguments : List Assignment) (own : List Code) (lowered : IsCallLowered w.here.scope condition instance arguments own) → acts condition (option_map value_number result) ≡ Some true → OnwardSeen w flats (call_sources number arguments) (CallLine condition (1 + length arguments) ∷ lowered.assigned ++ lowered.body ∷ lowered.given) put_by (state_of result put_by numbers) (call_effect w.here number instance arguments result store) (seen_call w.here calls number instance arguments result store)
acting_seen w calls flats alike number result put_by store numbers contents condition instance arguments own lowered acting = by_type (type_of w.here.scope instance) refl lowered.called
  where
    own_line : Code
    own_line = CallLine condition (1 + length arguments)

    onward : line_runs (flat w) (state_of result put_by numbers) own_line ≡ goes_on (state_of result put_by numbers)
    onward = ap (λ (b : Option Bool). turns (state_of result put_by numbers) b (Skips 0) (Skips (1 + length arguments))) acting

    by_store : (type : VariableType) → type_of w.here.scope instance ≡ Some type → IsBodyOf w.here.scope instance (Some type) lowered.body → (r : Result Store Reason) (inputs : List Seen) → AssignsSeen w flats (map (λ input. number) (inputs_of arguments)) lowered.assigned result put_by numbers r inputs → OnwardSeen w flats (call_sources number arguments) (own_line ∷ lowered.assigned ++ lowered.body ∷ lowered.given) put_by (state_of result put_by numbers) (from_store r (λ new. made w.here instance (body_outcome w.here type instance new) number arguments result)) (seen_at (At number) result store ∷ inputs ++ seen_with r (λ new. seen_block w.here calls result type instance new ++ seen_after (body_outcome w.here type instance new) (seen_outputs w.here instance result (outputs_of arguments))))
    by_store type e is (Err reason) inputs h = tt
    by_store type e is (Ok new) inputs h =
        made_seen w flats own_line lowered.body lowered.assigned lowered.given number instance arguments result put_by store numbers contents refl tt onward inputs h.0 h.2.0 h.2.1 h.2.2 (body_outcome w.here type instance new) (seen_block w.here calls result type instance new)
        (block_seen w calls flats alike number result put_by new h.0 h.1 instance type e lowered.body is)
        (λ last after held. outputs_seen w alike.alike flats number result put_by instance (outputs_of arguments) lowered.given lowered.outputs last after held)

    by_type : (t : Option VariableType) → type_of w.here.scope instance ≡ t → IsBodyOf w.here.scope instance t lowered.body → OnwardSeen w flats (call_sources number arguments) (own_line ∷ lowered.assigned ++ lowered.body ∷ lowered.given) put_by (state_of result put_by numbers) (elim t as (λ x. Effect) [ Some type ↦ called_type w.here type number instance arguments result store | None ↦ Fails NoSuchPlace ]) (elim t as (λ x. List Seen) [ Some type ↦ seen_made w.here calls type number instance arguments result store | None ↦ [] ])
    by_type None e is = absurd is
    by_type (Some type) e is = by_store type e is (assigned w.here (members_of w.here.scope.before type) instance (inputs_of arguments) store) (seen_inputs w.here (members_of w.here.scope.before type) instance result (inputs_of arguments) store) (inputs_seen w alike.alike flats number result put_by (members_of w.here.scope.before type) instance (inputs_of arguments) lowered.assigned lowered.inputs store numbers contents)

-- what follows of either choice, and of what is seen of it
pub by_seen_choice : (P : Effect → List Seen → Type 0) → ((reason : Reason) → P (Fails reason) []) → (r : Result Bool Reason) (acting passing : Effect) (seen_acting seen_passing : List Seen) → (r ≡ Ok true → P acting seen_acting) → (r ≡ Ok false → P passing seen_passing) → P (chosen r acting passing) (elim r as (λ x. List Seen) [ Ok b ↦ elim b as (λ x. List Seen) [ true ↦ seen_acting | false ↦ seen_passing ] | Err reason ↦ [] ])
by_seen_choice P fails (Ok true) acting passing seen_acting seen_passing act pass = act refl
by_seen_choice P fails (Ok false) acting passing seen_acting seen_passing act pass = pass refl
by_seen_choice P fails (Err reason) acting passing seen_acting seen_passing act pass = fails reason

-- as many lines of the text as flat lines after a call's own
pub call_sources_after : (number : ℕ) (arguments : List Assignment) → length (map (λ input. number) (inputs_of arguments) ++ number ∷ map (λ output. number) (outputs_of arguments)) ≡ 1 + length arguments
call_sources_after number arguments =
    let a = length-append (map (λ input. number) (inputs_of arguments)) (number ∷ map (λ output. number) (outputs_of arguments)) in
    let b = length-map (inputs_of arguments) (λ input. number) in
    let c = length-map (outputs_of arguments) (λ output. number) in
    let d = all_parts arguments in
    let e : length (number ∷ map (λ output. number) (outputs_of arguments)) ≡ 1 + length (map (λ output. number) (outputs_of arguments)) = omega arith in
    omega (arith, a, b, c, d, e)

-- a call, made or not
pub call_seen : (w : Sides) (calls : SeenCalls) (flats : FlatSeenCalls) → AreSeenAlike w calls flats → (number : ℕ) (result : Option Value) (put_by : List ℤ) (store : Store) (numbers : List ℤ) → AreContents w.frame store numbers → (condition : Condition) (instance : Name) (arguments : List Assignment) (own : List Code) (lowered : IsCallLowered w.here.scope condition instance arguments own) → OnwardSeen w flats (call_sources number arguments) (CallLine condition (1 + length arguments) ∷ lowered.assigned ++ lowered.body ∷ lowered.given) put_by (state_of result put_by numbers) (step_effect w.here number (Call condition instance arguments) result store) (seen_step w.here calls number (Call condition instance arguments) result store)
call_seen w calls flats alike number result put_by store numbers contents condition instance arguments own lowered =
    by_seen_choice (OnwardSeen w flats (call_sources number arguments) (CallLine condition (1 + length arguments) ∷ following) put_by state) (λ reason. tt)
    (meaning.acts condition result) (call_effect w.here number instance arguments result store) (Goes (Running result) store (At number ∷ [])) (seen_call w.here calls number instance arguments result store) (seen_at (At number) result store ∷ [])
    (λ e. acting_seen w calls flats alike number result put_by store numbers contents condition instance arguments own lowered (answer_given (meaning.acts condition result) (acts condition (option_map value_number result)) true (acts_follow condition result) e))
    (λ e. (
      numbers,
      contents,
      (
        entry w number own_line state state ∷ [],
        (record { item = (refl, refl, refl); result = refl; contents = contents }, tt),
        passing (answer_given (meaning.acts condition result) (acts condition (option_map value_number result)) false (acts_follow condition result) e),
      ),
    ))
  where
    following : List Code
    following = lowered.assigned ++ lowered.body ∷ lowered.given

    after_sources : List ℕ
    after_sources = map (λ input. number) (inputs_of arguments) ++ number ∷ map (λ output. number) (outputs_of arguments)

    own_line : Code
    own_line = CallLine condition (1 + length arguments)

    state : State
    state = state_of result put_by numbers

    passing : acts condition (option_map value_number result) ≡ Some false → (more : List ℕ) (others : List Code) → flat_seen (flat w) flats (call_sources number arguments ++ more) ((own_line ∷ following) ++ others) (Skips 0) state ≡ (entry w number own_line state state ∷ []) ++ flat_seen (flat w) flats more others (Skips 0) state
    passing e more others =
        line_then w flats number own_line state _ tt (ap (λ (b : Option Bool). turns state b (Skips 0) (Skips (1 + length arguments))) e) (after_sources ++ more) (following ++ others)
        ∙ ap (λ (l : List FlatSeen). entry w number own_line state state ∷ l)
        (ap (λ n. flat_seen (flat w) flats (after_sources ++ more) (following ++ others) (Skips n) state) so_many ∙ passed_unseen (flat w) flats after_sources more following others same 0 state)
      where
        so_many : 1 + length arguments ≡ length following + 0
        so_many = let a = lowered_after w.here.scope condition instance arguments own lowered in omega (arith, a)

        same : length after_sources ≡ length following
        same = call_sources_after number arguments ∙ sym (lowered_after w.here.scope condition instance arguments own lowered)

use Rattle.wc_model.proofs.Common.{◌≡◌, ◌+◌, ◌++◌, get_or, ◌∷◌, [], drop, map, ap, refl, sym, ◌∙◌, ℤ, map-map}
use Rattle.std.proofs.lemmas.List.{append-nil, drop_all}
use Rattle.wc_model.specs.Definitions.{content_number, slot_kind_of, Name, Content, standard_fields}
use Rattle.wc_built_in.specs.Fields.{field_content, zero_content}
use Rattle.wc_model.specs.declared.kind.SlotKind.{SlotKind}
use Rattle.wc_built_in.specs.declared.fields.StandardField.{StandardField}
use Rattle.wc_names.proofs.FirstSlots.{slot_of_zero, zero_is_first, zero_number}
use Rattle.wc_names.proofs.Lists.{from_index_or}
use Rattle.wc_names.proofs.Spread.{chunk_added}
use Rattle.wc_names.proofs.frame.push_standard.Goals as goal

abbrev slot : StandardField → SlotKind
slot f = slot_kind_of (zero_content f.slot)

abbrev number : StandardField → ℤ
number f = content_number (zero_content f.slot)

pub loop-field-init : goal.loop-field-init
loop-field-init c = record { kinds = refl; initials = refl; first = λ h. h }

pub loop-field-preserved : goal.loop-field-preserved
loop-field-preserved c =
    let i = c.loop-field.field-index in
    let items = c.standard_fields-field-items.result.now in
    let old = c.loop-field.frame in
    let new = c.push.new.frame in
    let field = get_or items i _ in
    let cut = from_index_or items i _ c.loop-field-test.true in
    record {
      kinds =
          chunk_added old.kinds.items new.kinds.items (slot field ∷ []) (map slot (drop (i + 1) items)) (c.args.frame.now.kinds.items ++ map slot items)
          (ap (λ xs. old.kinds.items ++ map slot xs) (sym cut) ∙ c.loop-field.invariant.kinds) (c.in_ok-push.ensures.kinds ∙ ap (λ k. old.kinds.items ++ k ∷ []) (sym (slot_of_zero field.slot)));
      initials =
          chunk_added old.initials.items new.initials.items (number field ∷ []) (map number (drop (i + 1) items)) (c.args.frame.now.initials.items ++ map number items)
          (ap (λ xs. old.initials.items ++ map number xs) (sym cut) ∙ c.loop-field.invariant.initials) (c.in_ok-push.ensures.initials ∙ ap (λ n. old.initials.items ++ n ∷ []) (sym (zero_number field.slot)));
      first = λ h. c.in_ok-push.ensures.first (zero_is_first field.slot) (c.loop-field.invariant.first h);
    }

pub returns-clause-grown : goal.returns-clause-grown
returns-clause-grown c =
    let items = c.standard_fields-field-items.result.now in
    let old = c.args.frame.now in
    let end : drop c.loop-field.field-index items ≡ [] = drop_all c.loop-field.field-index items c.loop-field-test.false in
    let all : map (λ (f : Name × Content). f.1) (standard_fields c.args.block) ≡ map (λ (f : StandardField). zero_content f.slot) items =
    ap (map (λ (f : Name × Content). f.1)) (sym c.standard_fields-field-items.ensures.fields) ∙ map-map (λ (f : Name × Content). f.1) field_content items
    in
    record {
      kinds = sym (append-nil c.loop-field.frame.kinds.items) ∙ ap (λ xs. c.loop-field.frame.kinds.items ++ map slot xs) (sym end) ∙ c.loop-field.invariant.kinds
          ∙ ap (λ ks. old.kinds.items ++ ks) (sym (ap (map slot_kind_of) all ∙ map-map slot_kind_of (λ (f : StandardField). zero_content f.slot) items));
      initials = sym (append-nil c.loop-field.frame.initials.items) ∙ ap (λ xs. c.loop-field.frame.initials.items ++ map number xs) (sym end) ∙ c.loop-field.invariant.initials
          ∙ ap (λ ns. old.initials.items ++ ns) (sym (ap (map content_number) all ∙ map-map content_number (λ (f : StandardField). zero_content f.slot) items));
    }

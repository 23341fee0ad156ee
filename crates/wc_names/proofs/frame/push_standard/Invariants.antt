use Rattle.std.proofs.Common.{◌≡◌, ◌++◌, drop, map}
use Rattle.wc_model.specs.Language.Frames.{content_number, slot_kind_of}
use Rattle.wc_built_in.specs.Fields.{zero_content}
use Rattle.wc_names.specs.Carrying.{HoldsFirst}
use Rattle.wc_names.proofs.frame.push_standard.Given as goal

-- with the fields that are left all are added, and each slot may hold its number
pub record Adds (l : goal.Live-loop-field) : Type 0 where
  pub kinds : l.frame.kinds.items ++ map (λ f. slot_kind_of (zero_content f.slot)) (drop l.field-index l.field-items) ≡ l.initial.frame.kinds.items ++ map (λ f. slot_kind_of (zero_content f.slot)) l.field-items
  pub initials : l.frame.initials.items ++ map (λ f. content_number (zero_content f.slot)) (drop l.field-index l.field-items) ≡ l.initial.frame.initials.items ++ map (λ f. content_number (zero_content f.slot)) l.field-items
  pub first : HoldsFirst l.initial.frame → HoldsFirst l.frame

abbrev pub invariant-loop-field : goal.invariant-loop-field
invariant-loop-field l = Adds l

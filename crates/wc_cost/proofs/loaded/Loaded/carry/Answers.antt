use Rattle.wc_model.proofs.Common.{◌≡◌, ◌-◌, ◌<◌, length, option_map, Some, sym, subst, ap, ◌∙◌, rules, IfSome, slice_get}
use Rattle.wc_cost.proofs.CarriedKinds.{kind_answered, kind_kept}
use Rattle.wc_cost.proofs.WholeTexts.{carried_alike, lowered_count, last_unit}
use Rattle.wc_cost.specs.LoadedTexts.{LoadedText}
use Rattle.wc_model.specs.Definitions.{carried_number, frame_of_text, place_number, slot_kinds, Location, Content, text_view}
use Rattle.wc_model.specs.declared.place.Place.{Place}
use Rattle.wc_names.specs.RepresentsText.{AreTables}
use Rattle.wc_cost.proofs.loaded.Loaded.carry.Goals as goal

pub returns-clause-carried : goal.returns-clause-carried
returns-clause-carried c =
    let inside = c.self.inside in
    let old = c.old.inside in
    let new_text = text_view inside.checked.source in
    let old_text = text_view old.checked.source in
    let counted : c.len.result ≡ length inside.units.items = search rules in
    let old_counted : c.len-2.result ≡ length old.units.items = search rules in
    let last : c.saturating_sub-last.result ≡ length new_text - 1 = c.saturating_sub-last.ensures ∙ ap (λ n. n - 1) (counted ∙ lowered_count new_text inside.units.items c.self.invariant.sound.lowered) in
    let old_last : c.saturating_sub-old_last.result ≡ length old_text - 1 = c.saturating_sub-old_last.ensures ∙ ap (λ n. n - 1) (old_counted ∙ lowered_count old_text old.units.items c.old.invariant.sound.lowered) in
    let tables = subst (λ t. AreTables t new_text) (sym c.tables.ensures.tables) c.tables.ensures.occur in
    let old_tables = subst (λ t. AreTables t old_text) (sym c.tables-2.ensures.tables) c.tables-2.ensures.occur in
    let to = last_unit new_text c.self.invariant.sound.read.1.spelled.order c.saturating_sub-last.result last in
    let from = last_unit old_text c.old.invariant.sound.read.1.spelled.order c.saturating_sub-old_last.result old_last in
    let within : c.args.place.0 < length (frame_of_text new_text) = subst (λ (v : LoadedText). c.args.place.0 < length (frame_of_text (text_view v.source))) (sym c.self.view_is) c.requires in
    let answered = c.carry.ensures.carried new_text to.scope old_text from.scope tables to.is to.no_block old_tables from.is from.no_block (subst (λ frame. c.args.place.0 < length frame) (sym to.frame) within) ∙ carried_alike old_text new_text c.saturating_sub-old_last.result c.saturating_sub-last.result from to c.args.place.0 in
    subst (λ (v : LoadedText). option_map (λ (p : Place). p.0) c.carry.result ≡ carried_number (text_view c.args.old.now.source) (text_view v.source) c.args.place.0) c.self.view_is
    (subst (λ (v : LoadedText). option_map (λ (p : Place). p.0) c.carry.result ≡ carried_number (text_view v.source) new_text c.args.place.0) c.old.view_is answered)

pub returns-clause-kind : goal.returns-clause-kind
returns-clause-kind c =
    let inside = c.self.inside in
    let old = c.old.inside in
    let new_text = text_view inside.checked.source in
    let old_text = text_view old.checked.source in
    let counted : c.len.result ≡ length inside.units.items = search rules in
    let old_counted : c.len-2.result ≡ length old.units.items = search rules in
    let last : c.saturating_sub-last.result ≡ length new_text - 1 = c.saturating_sub-last.ensures ∙ ap (λ n. n - 1) (counted ∙ lowered_count new_text inside.units.items c.self.invariant.sound.lowered) in
    let old_last : c.saturating_sub-old_last.result ≡ length old_text - 1 = c.saturating_sub-old_last.ensures ∙ ap (λ n. n - 1) (old_counted ∙ lowered_count old_text old.units.items c.old.invariant.sound.lowered) in
    let tables = subst (λ t. AreTables t new_text) (sym c.tables.ensures.tables) c.tables.ensures.occur in
    let old_tables = subst (λ t. AreTables t old_text) (sym c.tables-2.ensures.tables) c.tables-2.ensures.occur in
    let to = last_unit new_text c.self.invariant.sound.read.1.spelled.order c.saturating_sub-last.result last in
    let from = last_unit old_text c.old.invariant.sound.read.1.spelled.order c.saturating_sub-old_last.result old_last in
    let own = λ (entry : Location × Content) (there : slice_get (frame_of_text new_text) c.args.place.0 ≡ Some entry).
    subst (λ frame. place_number frame entry.0 ≡ Some c.args.place.0) to.frame (c.carry.ensures.own new_text to.scope entry tables to.is to.no_block (subst (λ frame. slice_get frame c.args.place.0 ≡ Some entry) (sym to.frame) there))
    in
    let answered = subst (λ (v : LoadedText). option_map (λ (p : Place). p.0) c.carry.result ≡ carried_number (text_view v.source) new_text c.args.place.0) (sym c.old.view_is)
    (subst (λ (v : LoadedText). option_map (λ (p : Place). p.0) c.carry.result ≡ carried_number (text_view c.args.old.now.source) (text_view v.source) c.args.place.0) (sym c.self.view_is) (returns-clause-carried c))
    in
    let kind = kind_answered old_text new_text c.args.place.0 c.carry.result (kind_kept old_text new_text c.old.invariant.sound.read.1.spelled.order c.self.invariant.sound.read.1.spelled.order c.args.place.0 own) answered in
    subst (λ (v : LoadedText). IfSome c.carry.result (λ (p : Place). slice_get (slot_kinds (frame_of_text (text_view v.source))) c.args.place.0 ≡ slice_get (slot_kinds (frame_of_text (text_view c.args.old.now.source))) p.0)) c.self.view_is
    (subst (λ (v : LoadedText). IfSome c.carry.result (λ (p : Place). slice_get (slot_kinds (frame_of_text new_text)) c.args.place.0 ≡ slice_get (slot_kinds (frame_of_text (text_view v.source))) p.0)) c.old.view_is kind)

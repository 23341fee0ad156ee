use Rattle.wc_model.proofs.Common.{◌≡◌, ◌∙◌, [], ◌∷◌, None, Some, ap, append-nil, sym, ◌++◌, arith, to_z, of_z, w64, ints}
use Rattle.wc_view_changes.specs.ChangeReport.{content_text}
use Rattle.wc_model.specs.Language.Frames.{content_number}
use Rattle.wc_model.specs.Language.Store.{Plain}
use Rattle.wc_names.proofs.HandedOn.{on_ok}
use Rattle.wc_text_variables.proofs.Readings.{reads}
use Rattle.wc_view_watch.proofs.LookUps.{four_chunks}
use Rattle.wc_view_watch.proofs.ValueTexts.{not_shown, shown}
use Rattle.wc_view_watch.proofs.watched_names.put_named.Goals as goal

pub returns-in_default-clause-puts : goal.returns-in_default-clause-puts
returns-in_default-clause-puts c = λ text store represents e.
    sym (ap (λ t. c.args.line.now.items ++ t) (not_shown text store c.args.name.now (e ∙ c.in_default.is)) ∙ append-nil c.args.line.now.items)

pub returns-in_default-number-clause-puts : goal.returns-in_default-number-clause-puts
returns-in_default-number-clause-puts c = λ text store represents e.
    let r = reads text store c.args.name.now c.in-Some.watched represents.slots (e ∙ c.in-Some.is) in
    let never : None ≡ Some (content_number (Plain r.value)) = c.in_default-number.ensures text store r.place represents r.number ∙ r.held in
    absurd (cc (never))

pub returns-clause-puts : goal.returns-clause-puts
returns-clause-puts c = λ text store represents e.
    let r = reads text store c.args.name.now c.in-Some.watched represents.slots (e ∙ c.in-Some.is) in
    let found : Some c.in-Some-number.number ≡ Some (content_number (Plain r.value)) = c.in-Some-number.ensures text store r.place represents r.number ∙ r.held in
    let raw : to_z w64 (of_z w64 c.in-Some-number.number) ≡ c.in-Some-number.number = omega (arith, ints) in
    let number : to_z w64 (of_z w64 c.in-Some-number.number) ≡ content_number (Plain r.value) = raw ∙ cc (found) in
    on_ok c.put_literal.result
    (λ put. four_chunks c.args.line.now.items c.put_bytes.new.text.items c.put_bytes-2.new.text.items c.put_bytes-3.new.text.items c.put_literal.new.out.items
    (32 ∷ []) c.args.name.now (61 ∷ []) (content_text (Plain r.value))
    c.in_ok-put_bytes.ensures.bytes c.in_ok-put_bytes-2.ensures.bytes c.in_ok-put_bytes-3.ensures.bytes put
    ∙ ap (λ t. c.args.line.now.items ++ t) (sym (shown text store c.args.name.now c.in-Some.watched r)))
    (c.put_literal.ensures.value r.value r.kind number)

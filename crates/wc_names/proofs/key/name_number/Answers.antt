use Rattle.wc_model.proofs.Common.{◌≡◌, ◌+◌, ◌-◌, ◌<◌, ◌≤◌, [], length, get_or, take, drop, sym, ap, ◌∙◌, arith, drop_all, drop-drop, drop-map, length-drop, length-map, take_rest, to_ascii_lowercase}
use Rattle.wc_model.specs.Language.Names.{name_of}
use Rattle.wc_names.specs.Keys.{caseless, mix, number_after, word_of}
use Rattle.wc_names.proofs.KeyNames.{byte_next, word_next}
use Rattle.wc_names.proofs.Lists.{from_index_or}
use Rattle.wc_names.proofs.key.name_number.Goals as goal

pub loop-at-preserved-then-text-at-lt8 : goal.loop-at-preserved-then-text-at-lt8
loop-at-preserved-then-text-at-lt8 c =
    let text = c.args.text.now in
    let i = c.loop-at.at in
    let number = c.loop-at.number in
    let byte = to_ascii_lowercase (get_or text i 0) in
    let name = name_of (drop (i + 1) text) in
    let more = c.loop-at-test.true in
    let few = c.if-text-at-lt8.true in
    let size : length name ≡ length text - (i + 1) = length-map (drop (i + 1) text) to_ascii_lowercase ∙ length-drop (i + 1) text in
    let short : length name < 7 = omega (arith, size, few, more) in
    let mixed = c.mix-number.ensures ∙ ap (mix number) (c.from.ensures ∙ c.caseless.ensures) in
    let within : i + 1 ≤ length text = omega (arith, more) in (
      within,
      ap (λ n. number_after n name) mixed ∙ sym (byte_next number byte name short) ∙ ap (λ xs. number_after number (name_of xs)) (sym (from_index_or text i 0 more)) ∙ c.loop-at.invariant.1,
    )

pub loop-at-preserved : goal.loop-at-preserved
loop-at-preserved c =
    let text = c.args.text.now in
    let i = c.loop-at.at in
    let number = c.loop-at.number in
    let left = drop i text in
    let many = c.if-text-at-lt8.false in
    let size : length (name_of left) ≡ length text - i = length-map left to_ascii_lowercase ∙ length-drop i text in
    let long : 8 ≤ length (name_of left) = omega (arith, size, many) in
    let rest : drop 8 (name_of left) ≡ name_of (drop (i + 8) text) = drop-map to_ascii_lowercase 8 left ∙ ap name_of (drop-drop 8 i text) in
    let word = c.first_word.ensures ∙ ap (λ xs. word_of (take 8 (name_of xs))) (take_rest text i) in
    let mixed = c.mix-number-else-text-at-lt8.ensures ∙ ap (mix number) word in
    let within : i + 8 ≤ length text = omega (arith, many) in (
      within,
      ap (λ n. number_after n (name_of (drop (i + 8) text))) mixed ∙ ap (number_after (mix number (word_of (take 8 (name_of left))))) (sym rest) ∙ sym (word_next number (name_of left) long) ∙ c.loop-at.invariant.1,
    )

pub returns : goal.returns
returns c =
    let end : drop c.loop-at.at c.args.text.now ≡ [] = drop_all c.loop-at.at c.args.text.now c.loop-at-test.false in
    sym (ap (λ xs. number_after c.loop-at.number (name_of xs)) end) ∙ c.loop-at.invariant.1

use Rattle.wc_model.proofs.Common.{◌≡◌, ℕ, ◌<◌, length, ◌+◌, ◌++◌, [], ◌∷◌, List, map, drop, get_or, ap, sym, subst, ◌∙◌, flat_map}
use Rattle.std.proofs.lemmas.List.{drop_all, append-nil}
use Rattle.wc_model.specs.Definitions.{first_broken, positions_after, is_new, name_of_word, names_are_new, not_reserved, Name, Word as Named, word_view}
use Rattle.wc_model.specs.declared.operand.Word.{Word}
use Rattle.wc_names.proofs.Lists.{from_index_or}
use Rattle.wc_declare.proofs.NamesSoFar.{IsAfterRecords, at_first, one_after, name_checks}
use Rattle.wc_declare.proofs.Validation.{validates_on, validates_ok}
use Rattle.wc_declare.proofs.declaration.declare_names.Goals as goal

-- the words that are left begin with this one
begin : (start own : List Name) (all : List Named) (items : List Word) (i : ℕ) → i < length items →
    IsAfterRecords start own all (map word_view (drop i items)) → IsAfterRecords start own all (word_view (get_or items i (record { text = record { ref_ptr = (0, 0); now = [] }; line = 0 })) ∷ map word_view (drop (i + 1) items))
begin start own all items i below h = subst (λ xs. IsAfterRecords start own all (map word_view xs)) (from_index_or items i (record { text = record { ref_ptr = (0, 0); now = [] }; line = 0 }) below) h

pub loop-word-init : goal.loop-word-init
loop-word-init c = at_first c.args.names.now (map word_view c.deref-word-items.result.now)

pub returns-in_err-declare_name-clause-validated : goal.returns-in_err-declare_name-clause-validated
returns-in_err-declare_name-clause-validated c = λ known rest same.
    let i = c.loop-word.word-index in
    let items = c.deref-word-items.result.now in
    let word : Word = get_or items i (record { text = record { ref_ptr = (0, 0); now = [] }; line = 0 }) in
    let all = map word_view items in
    let left = map word_view (drop (i + 1) items) in
    let h = begin c.args.names.now c.loop-word.names all items i c.loop-word-test.true c.loop-word.invariant in
    let more = flat_map (name_checks known) (positions_after (word_view word ∷ h.before) left) ++ rest in
    validates_on (Unit {0}) (Unit {0}) (first_broken (names_are_new known (map word_view c.args.declaration.now.names.items) ++ rest))
    (first_broken (not_reserved (word_view word) ∷ is_new (map name_of_word h.before ++ known) (word_view word) ∷ more)) (first_broken more) (first_broken rest) c.in_err-declare_name.field-0.0 c.from_residual.result c.from_residual.ensures
    (ap (λ xs. first_broken (names_are_new known (map word_view xs) ++ rest)) (sym c.deref-word-items.ensures.value) ∙ h.found known rest same)
    (c.in_err-declare_name.ensures.validated (map name_of_word h.before ++ known) more (h.held known same))

pub loop-word-preserved : goal.loop-word-preserved
loop-word-preserved c =
    let i = c.loop-word.word-index in
    let items = c.deref-word-items.result.now in
    let word : Word = get_or items i (record { text = record { ref_ptr = (0, 0); now = [] }; line = 0 }) in
    let h = begin c.args.names.now c.loop-word.names (map word_view items) items i c.loop-word-test.true c.loop-word.invariant in
    one_after c.args.names.now c.loop-word.names c.declare_name.new.names (map word_view items) (word_view word) (map word_view (drop (i + 1) items)) h
    (λ known rest same. validates_ok (first_broken (not_reserved (word_view word) ∷ is_new known (word_view word) ∷ rest)) (first_broken rest) c.declare_name.result c.in_ok-declare_name.field-0 c.in_ok-declare_name.was
    (c.declare_name.ensures.validated known rest same))
    c.in_ok-declare_name.ensures.added c.in_ok-declare_name.ensures.new

pub returns-clause-validated : goal.returns-clause-validated
returns-clause-validated c = λ known rest same.
    let end : drop c.loop-word.word-index c.deref-word-items.result.now ≡ [] = drop_all c.loop-word.word-index c.deref-word-items.result.now c.loop-word-test.false in
    let h = subst (λ xs. IsAfterRecords c.args.names.now c.loop-word.names (map word_view c.deref-word-items.result.now) (map word_view xs)) end c.loop-word.invariant in
    ap (λ xs. first_broken (names_are_new known (map word_view xs) ++ rest)) (sym c.deref-word-items.ensures.value) ∙ h.found known rest same

pub returns-clause-added : goal.returns-clause-added
returns-clause-added c =
    let end : drop c.loop-word.word-index c.deref-word-items.result.now ≡ [] = drop_all c.loop-word.word-index c.deref-word-items.result.now c.loop-word-test.false in
    let h = subst (λ xs. IsAfterRecords c.args.names.now c.loop-word.names (map word_view c.deref-word-items.result.now) (map word_view xs)) end c.loop-word.invariant in
    sym (append-nil c.loop-word.names) ∙ h.joined ∙ ap (λ xs. c.args.names.now ++ map name_of_word (map word_view xs)) c.deref-word-items.ensures.value

pub returns-clause-different : goal.returns-clause-different
returns-clause-different c = c.loop-word.invariant.different

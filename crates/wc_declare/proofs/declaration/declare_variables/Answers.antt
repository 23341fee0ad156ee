use Rattle.std.proofs.Common.{◌≡◌, ℕ, ◌<◌, refl, length, ◌+◌, ◌++◌, [], ◌∷◌, List, map, drop, get_or, ap, sym, subst, ◌∙◌, arith}
use Rattle.std.proofs.lemmas.List.{drop_all, append-nil}
use Rattle.wc_model.specs.Definitions.{asks, first_broken, positions_after, and_more, has_capacity, capacity_checks, Declaration, Word as Named, declaration_view, word_view}
use Rattle.wc_model.specs.declared.operand.Word.{Word}
use Rattle.wc_declare.specs.SoFar.{HasTaken, HoldsRows}
use Rattle.wc_names.specs.declared.declared_type.DeclaredType.{DeclaredType}
use Rattle.wc_names.specs.declared.unit_table.UnitTable.{UnitTable}
use Rattle.wc_names.proofs.Lists.{from_index_or}
use Rattle.wc_declare.proofs.Validation.{validates_on, validates_ok}
use Rattle.wc_declare.proofs.RowsSoFar.{CapacityAfter, as_variable, one_further, capacity_first, capacity_more, capacity_of}
use Rattle.wc_names.specs.Spelled.{is_elementary, spelled_in_table, spelled_where}
use Rattle.wc_declare.proofs.SpelledSoFar.{spelled_all, spelled_on, where_more, where_none}
use Rattle.wc_declare.proofs.declaration.declare_variables.Goals as goal

-- the words that are left begin with this one
begin : (start own : UnitTable) (d : Declaration) (declared : DeclaredType) (width : ℕ) (all : List Named) (items : List Word) (i : ℕ) → i < length items →
    CapacityAfter start own d declared width all (map word_view (drop i items)) → CapacityAfter start own d declared width all (word_view (get_or items i (record { text = record { ref_ptr = (0, 0); now = [] }; line = 0 })) ∷ map word_view (drop (i + 1) items))
begin start own d declared width all items i below h = subst (λ xs. CapacityAfter start own d declared width all (map word_view xs)) (from_index_or items i (record { text = record { ref_ptr = (0, 0); now = [] }; line = 0 }) below) h

pub loop-word-init : goal.loop-word-init
loop-word-init c = (capacity_first c.args.table.now (declaration_view c.args.declaration.now) c.args.declared c.args.width (map word_view c.deref-word-items.result.now), refl)

pub returns-in_err-add_variable-clause-validated : goal.returns-in_err-add_variable-clause-validated
returns-in_err-add_variable-clause-validated c = λ t rest taken.
    let i = c.loop-word.word-index in
    let items = c.deref-word-items.result.now in
    let word : Word = get_or items i (record { text = record { ref_ptr = (0, 0); now = [] }; line = 0 }) in
    let left = map word_view (drop (i + 1) items) in
    let h = begin c.args.table.now c.loop-word.table (declaration_view c.args.declaration.now) c.args.declared c.args.width (map word_view items) items i c.loop-word-test.true c.loop-word.invariant.0 in
    let more = map (capacity_of t c.args.width) (positions_after (word_view word ∷ h.before) left) ++ rest in
    let now = and_more t (length h.before) c.args.width in
    validates_on (Unit {0}) (Unit {0}) (first_broken (capacity_checks t c.args.width (map word_view c.args.declaration.now.names.items) ++ rest))
    (first_broken (asks 306 word.line (has_capacity (and_more now 1 c.args.width)) ∷ more)) (first_broken more) (first_broken rest) c.in_err-add_variable.field-0.0 c.from_residual.result c.from_residual.ensures
    (ap (λ xs. first_broken (capacity_checks t c.args.width (map word_view xs) ++ rest)) (sym c.deref-word-items.ensures.value) ∙ h.found t rest taken ∙ ap (λ x. first_broken (asks 306 word.line (has_capacity x) ∷ more)) (one_further t (length h.before) c.args.width))
    (c.in_err-add_variable.ensures.validated now more (h.taken t taken))

pub loop-word-preserved : goal.loop-word-preserved
loop-word-preserved c =
    let i = c.loop-word.word-index in
    let items = c.deref-word-items.result.now in
    let word : Word = get_or items i (record { text = record { ref_ptr = (0, 0); now = [] }; line = 0 }) in
    let d = declaration_view c.args.declaration.now in
    let h = begin c.args.table.now c.loop-word.table d c.args.declared c.args.width (map word_view items) items i c.loop-word-test.true c.loop-word.invariant.0 in (
      capacity_more c.args.table.now c.loop-word.table c.add_variable.new.table d c.args.declared c.args.width (map word_view items) (word_view word) (map word_view (drop (i + 1) items))
          (record { section = c.args.declaration.now.section; declared = c.args.declared; first = c.loop-word.table.size; initial = c.literal-initial.result }) h
          (λ t rest taken. validates_ok (first_broken (asks 306 word.line (has_capacity (and_more t 1 c.args.width)) ∷ rest)) (first_broken rest) c.add_variable.result c.in_ok-add_variable.field-0 c.in_ok-add_variable.was (c.add_variable.ensures.validated t rest taken))
          refl refl refl c.literal-initial.ensures c.in_ok-add_variable.ensures.rows c.in_ok-add_variable.ensures.size c.in_ok-add_variable.ensures.fields c.in_ok-add_variable.ensures.names c.in_ok-add_variable.ensures.small c.in_ok-add_variable.ensures.is_block,
      spelled_on (spelled_in_table c.args.table.now) (spelled_in_table c.loop-word.table) (spelled_in_table c.add_variable.new.table) (spelled_where (is_elementary c.args.declared) (word ∷ [])) (spelled_where (is_elementary c.args.declared) (drop (i + 1) items)) (spelled_where (is_elementary c.args.declared) items)
          (ap (λ xs. spelled_in_table c.loop-word.table ++ xs) (sym (ap (spelled_where (is_elementary c.args.declared)) (from_index_or items i (record { text = record { ref_ptr = (0, 0); now = [] }; line = 0 }) c.loop-word-test.true) ∙ where_more (is_elementary c.args.declared) word (drop (i + 1) items))) ∙ c.loop-word.invariant.1)
          c.in_ok-add_variable.ensures.spelled,
    )

pub returns-clause-validated : goal.returns-clause-validated
returns-clause-validated c = λ t rest taken.
    let end : drop c.loop-word.word-index c.deref-word-items.result.now ≡ [] = drop_all c.loop-word.word-index c.deref-word-items.result.now c.loop-word-test.false in
    let h = subst (λ xs. CapacityAfter c.args.table.now c.loop-word.table (declaration_view c.args.declaration.now) c.args.declared c.args.width (map word_view c.deref-word-items.result.now) (map word_view xs)) end c.loop-word.invariant.0 in
    ap (λ xs. first_broken (capacity_checks t c.args.width (map word_view xs) ++ rest)) (sym c.deref-word-items.ensures.value) ∙ h.found t rest taken

pub returns-clause-taken : goal.returns-clause-taken
returns-clause-taken c = λ t taken.
    let end : drop c.loop-word.word-index c.deref-word-items.result.now ≡ [] = drop_all c.loop-word.word-index c.deref-word-items.result.now c.loop-word-test.false in
    let h = subst (λ xs. CapacityAfter c.args.table.now c.loop-word.table (declaration_view c.args.declaration.now) c.args.declared c.args.width (map word_view c.deref-word-items.result.now) (map word_view xs)) end c.loop-word.invariant.0 in
    let all : length h.before ≡ length (map word_view c.deref-word-items.result.now) = let e = h.counted in omega (arith, e) in
    subst (λ n. HasTaken (and_more t n c.args.width) c.loop-word.table) (all ∙ ap (λ xs. length (map word_view xs)) c.deref-word-items.ensures.value) (h.taken t taken)

pub returns-clause-held : goal.returns-clause-held
returns-clause-held c = λ before first vs type wide represents held.
    let end : drop c.loop-word.word-index c.deref-word-items.result.now ≡ [] = drop_all c.loop-word.word-index c.deref-word-items.result.now c.loop-word-test.false in
    let d = declaration_view c.args.declaration.now in
    let h = subst (λ xs. CapacityAfter c.args.table.now c.loop-word.table d c.args.declared c.args.width (map word_view c.deref-word-items.result.now) (map word_view xs)) end c.loop-word.invariant.0 in
    let all = sym (append-nil h.done) ∙ h.joined ∙ ap (λ xs. map (as_variable d) (map word_view xs)) c.deref-word-items.ensures.value in
    subst (λ xs. HoldsRows before first (vs ++ xs) c.loop-word.table) all (h.held before first vs type wide represents held)

pub returns-clause-spelled : goal.returns-clause-spelled
returns-clause-spelled c =
    let plain = is_elementary c.args.declared in
    let items = c.deref-word-items.result.now in
    let end : drop c.loop-word.word-index items ≡ [] = drop_all c.loop-word.word-index items c.loop-word-test.false in
    spelled_all (spelled_in_table c.args.table.now) (spelled_in_table c.loop-word.table) (spelled_where plain (drop c.loop-word.word-index items)) (spelled_where plain items)
    (ap (spelled_where plain) end ∙ where_none plain) c.loop-word.invariant.1
    ∙ ap (λ xs. spelled_in_table c.args.table.now ++ spelled_where plain xs) c.deref-word-items.ensures.value

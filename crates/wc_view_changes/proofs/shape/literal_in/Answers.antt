use Rattle.wc_model.proofs.Common.{◌≡◌, ◌+◌, ◌<◌, ◌∙◌, ℕ, Bool, List, ap, cond, drop, false, get_or, length, option_map, sym, true, drop_all}
use Rattle.wc_model.specs.Language.Names.{Name, name_of}
use Rattle.wc_model.specs.declared.source.Decl.{Decl}
use Rattle.wc_model.specs.declared.source.Initial.{Initial}
use Rattle.wc_names.proofs.Lists.{from_index}
use Rattle.wc_view_changes.proofs.Initials.{has_word, initial_in, one_initial}
use Rattle.wc_view_changes.proofs.shape.literal_in.Goals as goal

-- the declaration of that number has it, or those after it
next : (name : Name) (all ds : List Decl) (i : ℕ) (d : Decl) (has : Bool) → initial_in name all ≡ initial_in name (drop i ds) → i < length ds → d ≡ get_or ds i d → has ≡ has_word name d.names.items
    → initial_in name all ≡ cond has d.initial (initial_in name (drop (i + 1) ds))
next name all ds i d has so below is found =
    so ∙ ap (initial_in name) (from_index ds i d below is) ∙ one_initial name d (drop (i + 1) ds) ∙ ap (λ b. cond b d.initial (initial_in name (drop (i + 1) ds))) (sym found)

pub returns-then-declares : goal.returns-then-declares
returns-then-declares c =
    c.literal_of.ensures
    ∙ ap (option_map (λ (i : Initial). i.value)) (sym (next (name_of c.args.name.now) c.args.unit.now.declarations.items c.deref-declaration-items.result.now c.loop-declaration.declaration-index c.declaration-item.result true
    c.loop-declaration.invariant c.loop-declaration-test.true c.declaration-item.is (sym c.if-declares.true ∙ c.declares.ensures)))

pub loop-declaration-preserved : goal.loop-declaration-preserved
loop-declaration-preserved c =
    next (name_of c.args.name.now) c.args.unit.now.declarations.items c.deref-declaration-items.result.now c.loop-declaration.declaration-index c.declaration-item.result false
    c.loop-declaration.invariant c.loop-declaration-test.true c.declaration-item.is (sym c.if-declares.false ∙ c.declares.ensures)

pub returns : goal.returns
returns c =
    ap (option_map (λ (i : Initial). i.value)) (sym (c.loop-declaration.invariant ∙ ap (initial_in (name_of c.args.name.now)) (drop_all c.loop-declaration.declaration-index c.deref-declaration-items.result.now c.loop-declaration-test.false)))

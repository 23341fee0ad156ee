-- Histories go on over a call, and over a change.
use Rattle.wc_model.proofs.Common.{◌≡◌, Bool, true, false, List, [], ◌∷◌, ◌++◌, Option, Some, None, refl, sym, ap, ◌∙◌, ◌⊎◌, inl, inr, if◌then◌else◌}
use Rattle.wc_laws_language.specs.{of_block, HasHistory, Holds, ACallAddsToTheHistory, HistoriesGoOnOverAChange, KeepsInstance, HoldsTheSameFields}
use Rattle.wc_laws_language.proofs.Fields.{AreFields, are_fields, called, stepped, written}
use Rattle.wc_laws_language.proofs.Fitting.{fits_next}
use Rattle.wc_laws_language.proofs.Carrying.{kept_whole}
use Rattle.wc_model.specs.Definitions.{with_fields, ToField, carried, keeps, lead_of, same_lead, Name, initial_of, Location, Path, Content, Moment, Store, Text}
use Rattle.wc_model.specs.declared.block.StandardBlock.{StandardBlock}
use Rattle.wc_model.specs.declared.block.StandardBlock.TheVariants.{RTrig}

pub adds : ACallAddsToTheHistory
adds store instance block calls h = λ other call now set.
    let f = (of_block block).set_up call h.fields in
    let moment = (of_block block).moment now call in
    let after = (of_block block).contents (stepped block moment f) in
    record {
      after = with_fields other instance after;
      called = called block moment f other instance (set h.fields h.held);
      history = record {
        fields = stepped block moment f;
        held = written block after other instance (are_fields block (stepped block moment f));
        fits = fits_next block now calls call h.fields h.fits;
      };
    }

-- a store that holds the same in the fields of a block as another holds the same contents
same_held : (a b : Store) (instance : List Name) (block : StandardBlock) (fields : List (Name × Content)) → AreFields block fields → HoldsTheSameFields a b instance block → Holds b instance fields → Holds a instance fields
same_held a b instance block [] are same held = tt
same_held a b instance block (f ∷ fields) are same held = (same f.0 are.0 ∙ held.0, same_held a b instance block fields are.2 same held.1)

-- a content that is not the one given
abbrev other_than : Option Content → Option Content
other_than None = Some (Moment 0)
other_than (Some content) = None

differs : (content : Option Content) → content ≡ other_than content → ⊥
differs None e = cc
differs (Some content) e = cc

-- what is in another store than the first of the new text was kept
was_kept : (b : Bool) (first : Option Content) → (if b then other_than first else first) ≡ other_than first → b ≡ true
was_kept true first e = refl
was_kept false first e = absurd (differs first e)

same_block_lead : (block : StandardBlock) → same_lead (Some (ToField block)) (Some (ToField block)) ≡ true
same_block_lead RTrig = refl
same_block_lead other = refl

-- all fields of an instance that is kept are kept: a block is kept whole, and one of them is
fields_kept : (old new : Text) (store : Store) (instance : List Name) (block : StandardBlock) → KeepsInstance old new instance block → HoldsTheSameFields (carried old store new) store instance block
fields_kept old new store instance block k = whole (kept_whole old new unlike instance block k.field k.after)
  where
    unlike : Store
    unlike = λ place. other_than (initial_of new place)

    at : Name → Location
    at name = Path (instance ++ name ∷ [])

    kept : keeps old new (at k.field) ≡ true
    kept = ap (λ l. same_lead l (lead_of new (at k.field))) k.before ∙ ap (same_lead (Some (ToField block))) k.after ∙ same_block_lead block

    whole : HoldsTheSameFields (carried old unlike new) unlike instance block ⊎ HoldsTheSameFields (carried old unlike new) (initial_of new) instance block → HoldsTheSameFields (carried old store new) store instance block
    whole (inl same) = λ name is. ap (λ b. if b then store (at name) else initial_of new (at name)) (was_kept (keeps old new (at name)) (initial_of new (at name)) (same name is))
    whole (inr first) = absurd (differs (initial_of new (at k.field)) (sym (first k.field k.named) ∙ ap (λ b. if b then unlike (at k.field) else initial_of new (at k.field)) kept))

pub goes_on : HistoriesGoOnOverAChange
goes_on old new store instance block calls k h =
    let history : HasHistory (carried old store new) instance block calls = record {
      fields = h.fields;
      held = same_held (carried old store new) store instance block ((of_block block).contents h.fields) (are_fields block h.fields) (fields_kept old new store instance block k) h.held;
      fits = h.fits;
    } in
    record { history = history; next = adds (carried old store new) instance block calls history }

-- What a call of a standard block writes to the places of its instance.
use Rattle.wc_model.proofs.Common.{◌≡◌, ℕ, Bool, true, false, ◌&&◌, ◌||◌, List, [], ◌∷◌, ◌++◌, Some, Ok, refl, ap, ◌∙◌, if◌then◌else◌, list_any}
use Rattle.wc_laws_language.specs.HistoryLaws.{of_block, Holds}
use Rattle.wc_laws_language.proofs.Tests.{same_name-refl}
use Rattle.wc_model.specs.Definitions.{field_at, with_fields, standard_called, r_trig_step, sr_step, rs_step, ctu_step, ton_step, tof_step, tp_step, same_name, Name, Path, Content, Store, same_path, standard_fields, with_content}
use Rattle.wc_model.specs.declared.block.StandardBlock.{StandardBlock}
use Rattle.wc_model.specs.declared.block.StandardBlock.TheVariants.{RTrig, Sr, Rs, Ctu, Ton, Tof, Tp}

-- one path below an instance is another if their last names are the same
and_true : (b : Bool) → (b && true) ≡ b
and_true true = refl
and_true false = refl

one_path : (instance : List Name) (a b : Name) → same_path (instance ++ a ∷ []) (instance ++ b ∷ []) ≡ same_name a b
one_path [] a b = and_true (same_name a b)
one_path (name ∷ instance) a b = rw (same_name-refl name) (one_path instance a b)

neither : (a b : Bool) → (a || b) ≡ false → (a ≡ false) × (b ≡ false)
neither true b e = cc
neither false b e = (refl, e)

-- a field that is not written stays
left : (fields : List (Name × Content)) (store : Store) (instance : List Name) (name : Name) → list_any (λ f. same_name f.0 name) fields ≡ false → field_at (with_fields store instance fields) instance name ≡ field_at store instance name
left [] store instance name e = refl
left (f ∷ fields) store instance name e =
    let none = neither (same_name f.0 name) (list_any (λ g. same_name g.0 name) fields) e in
    left fields (with_content store (Path (instance ++ f.0 ∷ [])) f.1) instance name none.1
    ∙ ap (λ b. if b then Some f.1 else field_at store instance name) (one_path instance f.0 name ∙ none.0)

-- a name is that of a field
abbrev pub is_field : StandardBlock → Name → Bool
is_field block name = list_any (λ f. same_name f.0 name) (standard_fields block)

-- these are fields of a block, each once
abbrev pub AreFields : StandardBlock → List (Name × Content) → Type 0
AreFields block [] = Unit {0}
AreFields block (f ∷ fields) = (is_field block f.0 ≡ true) × (list_any (λ g. same_name g.0 f.0) fields ≡ false) × AreFields block fields

pub are_fields : (block : StandardBlock) (f : (of_block block).Fields) → AreFields block ((of_block block).contents f)
are_fields RTrig f = (refl, refl, (refl, refl, (refl, refl, tt)))
are_fields Sr f = (refl, refl, (refl, refl, (refl, refl, tt)))
are_fields Rs f = (refl, refl, (refl, refl, (refl, refl, tt)))
are_fields other f = (refl, refl, (refl, refl, (refl, refl, (refl, refl, (refl, refl, (refl, refl, tt))))))

-- what is written is held
pub written : (block : StandardBlock) (fields : List (Name × Content)) (store : Store) (instance : List Name) → AreFields block fields → Holds (with_fields store instance fields) instance fields
written block [] store instance are = tt
written block (f ∷ fields) store instance are =
    let next : Store = with_content store (Path (instance ++ f.0 ∷ [])) f.1 in (
      left fields next instance f.0 are.1 ∙ ap (λ b. if b then Some f.1 else field_at store instance f.0) (one_path instance f.0 f.0 ∙ same_name-refl f.0),
      written block fields next instance are.2,
    )

-- a step of each block
abbrev pub stepped : (block : StandardBlock) → ℕ → (of_block block).Fields → (of_block block).Fields
stepped RTrig now f = r_trig_step f
stepped Sr now f = sr_step f
stepped Rs now f = rs_step f
stepped Ctu now f = ctu_step f
stepped Ton now f = ton_step now f
stepped Tof now f = tof_step now f
stepped Tp now f = tp_step now f

-- a call writes the fields after it
pub called : (block : StandardBlock) (now : ℕ) (f : (of_block block).Fields) (store : Store) (instance : List Name) → Holds store instance ((of_block block).contents f) → standard_called block now store instance ≡ Ok (with_fields store instance ((of_block block).contents (stepped block now f)))
called RTrig now f store instance h = rw (h.0, h.1.0, h.1.1.0) refl
called Sr now f store instance h = rw (h.0, h.1.0, h.1.1.0) refl
called Rs now f store instance h = rw (h.0, h.1.0, h.1.1.0) refl
called other now f store instance h = rw (h.0, h.1.0, h.1.1.0, h.1.1.1.0, h.1.1.1.1.0, h.1.1.1.1.1.0) refl

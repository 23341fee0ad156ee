-- N function blocks.
use Rattle.std.proofs.Common.{◌≡◌, ◌≤◌, ℕ, zero, suc, List, [], ◌∷◌, refl, inl, arith}
use Rattle.std.specs.Prelude.{codes, length}
use Rattle.wc_model.specs.Definitions.{ProgramUnit, units, IsRaised, TooMany}
use Rattle.wc_model.specs.declared.source.UnitKind.TheVariants.{Program}
use Rattle.wc_laws_grammar.proofs.Languages.{next, pass, regroup}
use Rattle.wc_examples_language.specs.{ident, block_b, blocks}

-- the trees of n blocks
abbrev block_list : ℕ → List ProgramUnit
block_list zero = []
block_list (suc n) = block_b ∷ block_list n

length_of_blocks : (n : ℕ) → length (block_list n) ≡ n
length_of_blocks zero = refl
length_of_blocks (suc n) = let h : length (block_list n) ≡ n = length_of_blocks n in omega arith

-- the tokens spell them
whole_blocks : (n : ℕ) → units (block_list n) (blocks n)
whole_blocks zero = pass refl tt
whole_blocks (suc n) =
    regroup (regroup (pass tt (regroup (regroup (next (refl, refl) (regroup (next (refl, refl, refl) (pass ([], refl, refl) (regroup (pass tt (next refl (whole_blocks n))))))))))))

-- one more unit is too many
pub one_unit_more : (n line : ℕ) → 64 ≤ n → IsRaised TooMany (blocks n) (ident (codes "PROGRAM") line ∷ ident (codes "P") line ∷ []) line line
one_unit_more n line many =
    let h : length (block_list n) ≡ n = length_of_blocks n in
    (inl (block_list n, whole_blocks n, omega arith, (Program, refl)), refl)

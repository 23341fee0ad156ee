-- The bound of a unit is the only one, and that of a text's last unit is its program's.
use Rattle.std.proofs.Common.{◌≡◌, ℕ, suc, zero, ◌≤◌, List, [], ◌∷◌, ◌++◌, length, reverse, subst, arith}
use Rattle.std.specs.Prelude.{IfSome, slice_get}
use Rattle.std.proofs.lemmas.List.{append-nil}
use Rattle.wc_laws_language.specs.Laws.{AUnitHasOneBound, ThePrintedBoundIsThePrograms}
use Rattle.wc_model.specs.Definitions.{positions_after, IsLongest, IsBoundOfLast, Scope, ProgramUnit, IsBoundOf}
use Rattle.wc_laws_language.proofs.Texts.{turned}

-- no longest path is longer than another
pub at_most : (scope : Scope) (m n : ℕ) → IsLongest scope m → IsLongest scope n → m ≤ n
at_most scope m n one other = subst (λ (k : ℕ). k ≤ n) one.reached (other.greatest one.path one.is_path)

-- a unit has one bound
pub one_bound : AUnitHasOneBound
one_bound scope m n one other =
    let low = at_most scope m n one other in
    let high = at_most scope n m other one in
    omega arith

-- so has the last of some units
pub one_last : (units : List ProgramUnit) (m n : ℕ) → IsBoundOfLast units m → IsBoundOfLast units n → m ≡ n
one_last [] m n one other = absurd one
one_last (program ∷ before) m n one other = one_bound (record { before = before; unit = program }) m n one other

-- the bound at the last place, after units that come before
pub last_bound : (before units : List ProgramUnit) (place n : ℕ) → length units ≡ suc place
    → IfSome (slice_get (positions_after before units) place) (λ position. IsBoundOf position n) → IsBoundOfLast (reverse units ++ before) n
last_bound before [] place n long bound = absurd (omega (arith, long))
last_bound before (unit ∷ []) zero n long bound = bound
last_bound before (unit ∷ []) (suc place) n long bound = absurd (omega (arith, long))
last_bound before (unit ∷ other ∷ units) zero n long bound = absurd (omega (arith, long))
last_bound before (unit ∷ other ∷ units) (suc place) n long bound =
    subst (λ (us : List ProgramUnit). IsBoundOfLast us n) (turned unit (other ∷ units) before)
    (last_bound (unit ∷ before) (other ∷ units) place n (omega (arith, long)) bound)

-- what is printed last is the program's bound, and the only one
pub printed_bound : ThePrintedBoundIsThePrograms
printed_bound text place n long bound =
    let is = subst (λ (us : List ProgramUnit). IsBoundOfLast us n) (append-nil (reverse text)) (last_bound [] text place n long bound) in
    (is, λ m other. one_last (reverse text) m n other is)

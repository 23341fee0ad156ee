use Rattle.wc_model.proofs.Common.{◌≡◌, [], ◌∷◌, Some, ap, subst, ◌∙◌, IfSome}
use Rattle.wc_model.specs.Language.Names.{name_of}
use Rattle.wc_names.proofs.Formals.{within_fields}
use Rattle.wc_names.proofs.MemberTables.{members_by}
use Rattle.wc_names.proofs.member.member_of.Goals as goal

pub returns-in-Standard-clause-place : goal.returns-in-Standard-clause-place
returns-in-Standard-clause-place c = λ before u type h e.
    subst (λ place. IfSome c.standard_member.result (λ m. m.place ≡ place)) (within_fields before type c.in-Standard.block (name_of c.args.name.now) (e ∙ ap Some c.in-Standard.is)) c.standard_member.ensures.place

pub returns-in-Block-clause-seen : goal.returns-in-Block-clause-seen
returns-in-Block-clause-seen c = λ before u type h e.
    let m = members_by c.args.units.now before u h type c.in-Block.block (name_of c.args.name.now) (e ∙ ap Some c.in-Block.is) in
    c.block_member.ensures.seen m.earlier m.unit m.represents m.counted ∙ m.members

pub returns-in-Block-clause-place : goal.returns-in-Block-clause-place
returns-in-Block-clause-place c = λ before u type h e.
    let m = members_by c.args.units.now before u h type c.in-Block.block (name_of c.args.name.now) (e ∙ ap Some c.in-Block.is) in
    subst (λ place. IfSome c.block_member.result (λ m. m.place ≡ place)) (m.places (name_of c.args.name.now ∷ [])) (c.block_member.ensures.place m.earlier m.unit m.represents m.counted)

-- A closed scale is made and written to the buffer at the pointer.
use Rattle.narbeddo.proofs.Steps.{List, [], ◌∷◌, ◌++◌, refl, proved, full_share, id⊢, sep, ftrue, Val, fact, tables, sem, ‵, raw, ◌⊛◌, some, later, prop, ◌$◌, ◌∵◌, !, qed, done, move, keep, drop, use1, use2, split, join, pick, show, await, regoal, suffices, frame, group, enter, of_opd, stop, no_more, and_then, returns, alloc_all, pass_all, free_all, look_at, get, through, sets, lands_as, yes, Is, shows, Ptr, RawPtr, block_ptr, lies_at, in_a_block, rawptr_vals, rawptr_Tells, plain, nothing, heard, peeks, calls_at, lasts, triple_of, Stays, walk_of, says, stay_dropped, Goes-dropped, ends_at, framed, WpFn, feq_i}
use types.Run.{unit_lit, assigns, init}
use mir.Val.{vunit}
use Rattle.wc_scale.specs.Representation.{IsClosed}
use borrow.Table.OneValue.{part_in}
use denote.RawPtr.{room_at}
use Rattle.std.specs.contracts.alloc.Global.{the_row as Z}
use Rattle.std.proofs.alloc.Global.TheLaws.{lowers, the_row_laws as Z-laws}
use Rattle.wc_scale.specs.contracts.scale.Scale.{the_row as R}
use Rattle.wc_scale.proofs.scale.Scale.TheLaws.{the_row_laws as R-laws}
use Rattle.narbeddo.specs.contracts.making.narbeddo_make as f
use Rattle.narbeddo.proofs.making.narbeddo_make.Statement.{statement}
use Rattle.narbeddo.proofs.making.narbeddo_make.Code as code
use Rattle.wc_scale.specs.contracts.scale.Scale.new as g
use Rattle.wc_scale.proofs.scale.Scale.new.Met.{met}

abbrev alloc_vals : Z.Denot → List Val
alloc_vals x = lowers.lowered x ∷ []

pub narbeddo_make_spec : {M : Type 1} → statement M
narbeddo_make_spec 𝓤 𝓛 𝓜 𝓡 wired =
    let stayed : Stays f.ended.signature.params f.ended.kept = (stay_dropped _ yes, (stay_dropped _ yes, tt)) in
    let c = f.clauses 𝓛 𝓜.mem 𝓡.returns in let W = walk_of 𝓛 f.ended stayed c in let 𝓣 = tables 𝓤 𝓛.H 𝓜 𝓡 𝓡.env in
    proved 𝓛 f.ended stayed c 𝓜 𝓡 (Goes-dropped 𝓛 0 (plain (λ _. Z)) yes (λ κs x w. refl), (Goes-dropped 𝓛 0 (plain (λ _. RawPtr)) yes (λ κs x w. refl), tt))
    f.Key.name code.function (code.unfolded 𝓤 𝓛.H 𝓜 𝓡 wired)
    (λ κs. (alloc_vals, (rawptr_vals, tt))) (λ κs. (lowers.val_is, (rawptr_Tells, tt))) (λ κs qs bounds a _ are.
    let alloc = a.0 in
    let y : Ptr → W.Ghost = λ p. ((κs, qs, bounds, (alloc, (p, tt)), (alloc_vals alloc, (rawptr_vals p, tt))), tt) in
    qed 𝓛 ((‵ ftrue ⊛ ‵ (Z.own_val alloc (alloc_vals alloc)) ⊛ ‵ (RawPtr.own_val a.1.0 (rawptr_vals a.1.0)) ⊛ ‵ ftrue) ∷ ‵ (room_at R a.1.0) ∷ []) ∵
    split ! $ move ! (1 ∷ []) $ split ! $ keep ! (3 ∷ 0 ∷ []) $
    in_a_block ! a.1.0 (λ p. room_at R p) (id⊢ 𝓤 _) (λ b o e.
    regoal ! (λ p. prop (WpFn 𝓤 𝓛.H 𝓣.C 𝓣.Λ code.function (alloc_vals alloc ++ (rawptr_vals p ++ [])) (W.post (y p)))) e refl $
    enter ! _ _ _ _ _ $ alloc_all ! (λ l. pass_all ! refl (((Z-laws.lawful 𝓛).typed alloc _ are.0).0, ((tt, tt), tt)) $
    sets ! (of_opd ! (get ! refl)) refl (tt, tt) $
    let G = triple_of 𝓛 g.signature (g.spec 𝓛 𝓜.mem 𝓡.returns) in
    let z : G.Ghost = ((tt, tt, tt, (alloc, tt), (alloc_vals alloc, tt)), tt) in
    -- [the buffer; the allocator]
    nothing ! $ move ! (2 ∷ 0 ∷ []) $ join ! $ nothing ! $ join ! $ nothing ! $ move ! (1 ∷ 0 ∷ []) $ use2 𝓛 (raw (G.pre z)) (id⊢ 𝓤 _) $
    calls_at ! (framed 𝓤 𝓛.H 𝓜 (tables 𝓤 𝓛.H 𝓜 𝓡 𝓡.env)) G (met 𝓤 𝓛 𝓜 𝓡 (code.calls-wc_scale::scale::Scale::new 𝓡.env wired)) z
    (and_then ! (get ! refl) (no_more !)) (λ v.
    use1 𝓛 (later (some (λ (r : R.Denot). (‵ ftrue ⊛ ‵ (R.own_val r (v ∷ []))) ⊛
    some (λ (ws : Unit {0} × Unit {0}). ‵ (lasts g.ended z.0.0 z.0.3 ws) ⊛ raw (fact 𝓤 (IsClosed r)))))) (id⊢ 𝓤 _) $
    await ! tt $ pick ! (λ r. split ! $ split ! $ drop ! $
    -- [the value; its facts; the buffer]
    peeks ! R (Is R) (shows 𝓛 R) r (v ∷ []) (λ is. let typed = ((R-laws.lawful 𝓛).typed r _ is).0 in lands_as ! refl refl typed $
    move ! (1 ∷ []) $ pick ! (λ ws. split ! $ drop ! $ heard ! _ (λ none.
    assigns ! (of_opd ! (get ! refl)) (through ! refl (stop !)) (init ! 1 refl typed) $
    sets ! (of_opd ! (unit_lit !)) refl (tt, tt) $
    returns ! (look_at ! 0 refl) $ free_all ! refl $ keep ! (1 ∷ 0 ∷ []) $
    use2 𝓛 (‵ (lies_at R full_share (block_ptr b o) r)) (part_in 𝓛 R refl full_share r b o v) $
    suffices ! _ (ends_at 𝓛 f.ended stayed c (y (block_ptr b o)) vunit tt (tt, (tt, tt)) (tt, (tt, tt))) $
    feq_i ! _ (vunit ∷ []) _ refl $ nothing ! $ nothing ! $ join ! $ nothing ! $ join ! $ nothing ! $ group ! 3 $ frame ! $
    show ! (λ (k : R.Denot). sep 𝓤 (sem 𝓛 (lies_at R full_share (block_ptr b o) k)) (fact 𝓤 (IsClosed k))) r $ says ! none $ done !))))))))

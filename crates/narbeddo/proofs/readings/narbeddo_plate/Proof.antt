-- The scale at the pointer is borrowed for one call of `engraved_of`.
use Rattle.narbeddo.proofs.Steps.{◌≡◌, [], ◌∷◌, ◌++◌, refl, proved, full_share, id⊢, sep, GName, ftrue, flft, flent, named, vptr, fact, tables, sem, Body, lft_new, lft_end, ‵, raw, ◌⊛◌, some, later, prop, ◌$◌, ◌∵◌, !, qed, done, move, keep, drop, use1, use2, use3, split, join, fsplit, pick, show, await, regoal, suffices, frame, group, enter, of_opd, addr, stop, no_more, and_then, returns, alloc_all, pass_all, free_all, look_at, get, through, sets, lands_as, yes, Is, shows, lends_ref, ref_back, mem, Ptr, RawPtr, block_ptr, lies_at, in_a_block, rawptr_vals, rawptr_Tells, MutRef, plain, nothing, heard, peeks, calls_at, lasts, on_entry, triple_of, Stays, walk_of, says, stay_dropped, Goes-dropped, ends_at, framed, WpFn}
use Rattle.wc_scale.specs.contracts.scale.Scale.{the_row as R}
use Rattle.wc_scale.specs.{ShowsNoPlate, ReportsEngraved, IsClosed}
use Rattle.wc_scale.specs.contracts.results.Engraved.{the_row as T}
use Rattle.wc_scale.proofs.results.Engraved.TheLaws.{the_row_laws as T-laws}
use Rattle.narbeddo.specs.contracts.readings.narbeddo_plate as f
use Rattle.narbeddo.proofs.readings.narbeddo_plate.Statement.{statement}
use Rattle.narbeddo.proofs.readings.narbeddo_plate.Code as code
use Rattle.narbeddo.specs.contracts.readings.engraved_of as g
use Rattle.narbeddo.proofs.readings.engraved_of.Met.{met}

pub narbeddo_plate_spec : {M : Type 1} → statement M
narbeddo_plate_spec 𝓤 𝓛 𝓜 𝓡 wired =
    let stayed : Stays f.ended.signature.params f.ended.kept = (stay_dropped _ yes, tt) in
    let c = f.clauses 𝓛 𝓜.mem 𝓡.returns in let W = walk_of 𝓛 f.ended stayed c in let 𝓣 = tables 𝓤 𝓛.H 𝓜 𝓡 𝓡.env in
    proved 𝓛 f.ended stayed c 𝓜 𝓡 (Goes-dropped 𝓛 0 (plain (λ _. RawPtr)) yes (λ κs x w. refl), tt)
    f.Key.name code.function (code.unfolded 𝓤 𝓛.H 𝓜 𝓡 wired)
    (λ κs. (rawptr_vals, tt)) (λ κs. (rawptr_Tells, tt)) (λ κs qs bounds a h are.
    let y : Ptr → W.Ghost = λ p. ((κs, qs, bounds, (p, tt), (rawptr_vals p, tt)), h) in
    qed 𝓛 (raw (on_entry 𝓛 f.signature κs qs a (y a.0).0.4) ∷ ‵ (lies_at R full_share a.0 h) ∷ []) ∵ drop ! $
    in_a_block ! a.0 (λ p. lies_at R full_share p h) (id⊢ 𝓤 _) (λ b o e.
    regoal ! (λ p. prop (WpFn 𝓤 𝓛.H 𝓣.C 𝓣.Λ code.function (rawptr_vals p ++ []) (W.post (y p)))) e refl $
    enter ! _ _ _ _ _ $ alloc_all ! (λ l. pass_all ! refl ((tt, tt), tt) $
    sets ! (of_opd ! (get ! refl)) refl (tt, tt) $ sets ! (addr ! (through ! refl (stop !))) refl (tt, tt) $
    lft_new ! tt (λ α. move ! (1 ∷ []) $
    let Ref = λ (δ : GName). (MutRef (named 0) (α ∷ []) R).own_val (record { ref_ptr = (b, o); ghost_name = δ; now = h }) (vptr b o ∷ []) in
    use1 𝓛 (later (some (λ (δ : GName). ‵ (Ref δ) ⊛ ‵ (flent (α ∷ []) (Body (mem R) b o δ))))) (lends_ref 𝓛 R (named 0) (α ∷ []) h b o) $ await ! tt $ pick ! (λ δ. split ! $
    -- [the loan; what the lender keeps; the token of α]
    let G = triple_of 𝓛 g.signature (g.spec 𝓛 𝓜.mem 𝓡.returns) in
    let z : G.Ghost = (((α ∷ [], tt), (full_share, tt), tt, (record { ref_ptr = (b, o); ghost_name = δ; now = h }, tt), (vptr b o ∷ [], tt)), tt) in
    nothing ! $ move ! (1 ∷ 0 ∷ []) $ join ! $ nothing ! $ move ! (3 ∷ 0 ∷ []) $ join ! $ join ! $
    nothing ! $ move ! (1 ∷ 0 ∷ []) $ use2 𝓛 (raw (G.pre z)) (id⊢ 𝓤 _) $
    calls_at ! (framed 𝓤 𝓛.H 𝓜 (tables 𝓤 𝓛.H 𝓜 𝓡 𝓡.env)) G (met 𝓤 𝓛 𝓜 𝓡 (code.calls-narbeddo::readings::engraved_of 𝓡.env wired)) z
    (and_then ! (get ! refl) (no_more !)) (λ v.
    use1 𝓛 (later (some (λ (r : T.Denot). ((‵ (flft (α ∷ []) full_share) ⊛ ‵ ftrue) ⊛ ‵ (T.own_val r (v ∷ []))) ⊛
    some (λ (ws : (R.Denot × Unit {0})). ‵ (lasts g.ended z.0.0 z.0.3 ws) ⊛ (raw (fact 𝓤 (ReportsEngraved h r)) ⊛ (raw (fact 𝓤 (IsClosed h → ShowsNoPlate r)) ⊛ raw (fact 𝓤 (ws.0 ≡ h)))))))) (id⊢ 𝓤 _) $
    await ! tt $ pick ! (λ r. split ! $ split ! $ split ! $ lft_end ! tt $
    -- [α is over; the other tokens; the result; its facts; what the lender keeps]
    move ! (2 ∷ []) $ peeks ! T (Is T) (shows 𝓛 T) r (v ∷ []) (λ is. lands_as ! refl refl ((T-laws.lawful 𝓛).typed r _ is).0 $
    move ! (3 ∷ []) $ pick ! (λ ws. split ! $ move ! (1 ∷ []) $ split ! $ heard ! _ (λ f0. split ! $ heard ! _ (λ f1. heard ! _ (λ f2. fsplit ! $ fsplit ! $
    -- [the last value; its borrow; nothing; the result; α is over; the other tokens; what the lender keeps]
    move ! (4 ∷ 6 ∷ 0 ∷ []) $ use3 𝓛 (later (‵ (lies_at R full_share (block_ptr b o) ws.0))) (ref_back 𝓛 R (α ∷ []) δ ws.0 b o) $ await ! tt $
    returns ! (look_at ! 0 refl) $ free_all ! refl $ keep ! (3 ∷ 0 ∷ []) $
    suffices ! _ (ends_at 𝓛 f.ended stayed c (y (block_ptr b o)) v r (tt, tt) (tt, tt)) $
    nothing ! $ nothing ! $ join ! $ nothing ! $ group ! 3 $ frame ! $
    show ! (λ (k : R.Denot). sep 𝓤 (sem 𝓛 (lies_at R full_share (block_ptr b o) k)) (fact 𝓤 ((ReportsEngraved h r) × (IsClosed h → ShowsNoPlate r) × (k ≡ h)))) ws.0 $ says ! (f0, f1, f2) $ done !))))))))))))

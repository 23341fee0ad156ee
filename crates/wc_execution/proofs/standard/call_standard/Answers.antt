-- The slots are those of the block.
use Rattle.std.proofs.Common.{IsSome, ap, ◌∙◌, subst}
use Rattle.wc_text_flat.specs.NumberBlocks.{block_called}
use Rattle.wc_execution.proofs.BlockSlots.{slots_there}
use Rattle.wc_execution.proofs.standard.call_standard.Goals as goal
use Rattle.wc_model.specs.declared.block.StandardBlock.TheVariants as blocks

pub call-requires-clause-capacity : goal.call-requires-clause-capacity
call-requires-clause-capacity g c = c.requires.capacity

pub call-requires-clause-slots : goal.call-requires-clause-slots
call-requires-clause-slots g c =
    slots_there blocks.RTrig c.args.now (g.S.Store.slot_kinds c.args.store.now) (g.S.Store.numbers c.args.store.now) c.args.at
    (subst (λ b. IsSome (block_called b c.args.now (g.S.Store.slot_kinds c.args.store.now) (g.S.Store.numbers c.args.store.now) c.args.at)) c.in-RTrig.is c.requires.there)

pub call-requires-clause-moment : goal.call-requires-clause-moment
call-requires-clause-moment g c = c.requires.moment

pub call-requires-clause-forward : goal.call-requires-clause-forward
call-requires-clause-forward g c = c.requires.forward

pub returns-in-RTrig-clause-called : goal.returns-in-RTrig-clause-called
returns-in-RTrig-clause-called g c =
    ap (λ b. block_called b c.args.now (g.S.Store.slot_kinds c.args.store.now) (g.S.Store.numbers c.args.store.now) c.args.at) c.in-RTrig.is ∙ c.call.ensures.called

pub returns-in-RTrig-clause-kinds : goal.returns-in-RTrig-clause-kinds
returns-in-RTrig-clause-kinds g c = c.call.ensures.kinds

pub returns-in-RTrig-clause-moments : goal.returns-in-RTrig-clause-moments
returns-in-RTrig-clause-moments g c = c.call.ensures.moments

pub call-requires-in-Sr-clause-capacity : goal.call-requires-in-Sr-clause-capacity
call-requires-in-Sr-clause-capacity g c = c.requires.capacity

pub call-requires-in-Sr-clause-slots : goal.call-requires-in-Sr-clause-slots
call-requires-in-Sr-clause-slots g c =
    slots_there blocks.Sr c.args.now (g.S.Store.slot_kinds c.args.store.now) (g.S.Store.numbers c.args.store.now) c.args.at
    (subst (λ b. IsSome (block_called b c.args.now (g.S.Store.slot_kinds c.args.store.now) (g.S.Store.numbers c.args.store.now) c.args.at)) c.in-Sr.is c.requires.there)

pub call-requires-in-Sr-clause-moment : goal.call-requires-in-Sr-clause-moment
call-requires-in-Sr-clause-moment g c = c.requires.moment

pub call-requires-in-Sr-clause-forward : goal.call-requires-in-Sr-clause-forward
call-requires-in-Sr-clause-forward g c = c.requires.forward

pub returns-in-Sr-clause-called : goal.returns-in-Sr-clause-called
returns-in-Sr-clause-called g c =
    ap (λ b. block_called b c.args.now (g.S.Store.slot_kinds c.args.store.now) (g.S.Store.numbers c.args.store.now) c.args.at) c.in-Sr.is ∙ c.call-in-Sr.ensures.called

pub returns-in-Sr-clause-kinds : goal.returns-in-Sr-clause-kinds
returns-in-Sr-clause-kinds g c = c.call-in-Sr.ensures.kinds

pub returns-in-Sr-clause-moments : goal.returns-in-Sr-clause-moments
returns-in-Sr-clause-moments g c = c.call-in-Sr.ensures.moments

pub call-requires-in-Rs-clause-capacity : goal.call-requires-in-Rs-clause-capacity
call-requires-in-Rs-clause-capacity g c = c.requires.capacity

pub call-requires-in-Rs-clause-slots : goal.call-requires-in-Rs-clause-slots
call-requires-in-Rs-clause-slots g c =
    slots_there blocks.Rs c.args.now (g.S.Store.slot_kinds c.args.store.now) (g.S.Store.numbers c.args.store.now) c.args.at
    (subst (λ b. IsSome (block_called b c.args.now (g.S.Store.slot_kinds c.args.store.now) (g.S.Store.numbers c.args.store.now) c.args.at)) c.in-Rs.is c.requires.there)

pub call-requires-in-Rs-clause-moment : goal.call-requires-in-Rs-clause-moment
call-requires-in-Rs-clause-moment g c = c.requires.moment

pub call-requires-in-Rs-clause-forward : goal.call-requires-in-Rs-clause-forward
call-requires-in-Rs-clause-forward g c = c.requires.forward

pub returns-in-Rs-clause-called : goal.returns-in-Rs-clause-called
returns-in-Rs-clause-called g c =
    ap (λ b. block_called b c.args.now (g.S.Store.slot_kinds c.args.store.now) (g.S.Store.numbers c.args.store.now) c.args.at) c.in-Rs.is ∙ c.call-in-Rs.ensures.called

pub returns-in-Rs-clause-kinds : goal.returns-in-Rs-clause-kinds
returns-in-Rs-clause-kinds g c = c.call-in-Rs.ensures.kinds

pub returns-in-Rs-clause-moments : goal.returns-in-Rs-clause-moments
returns-in-Rs-clause-moments g c = c.call-in-Rs.ensures.moments

pub call-requires-in-Ctu-clause-capacity : goal.call-requires-in-Ctu-clause-capacity
call-requires-in-Ctu-clause-capacity g c = c.requires.capacity

pub call-requires-in-Ctu-clause-slots : goal.call-requires-in-Ctu-clause-slots
call-requires-in-Ctu-clause-slots g c =
    slots_there blocks.Ctu c.args.now (g.S.Store.slot_kinds c.args.store.now) (g.S.Store.numbers c.args.store.now) c.args.at
    (subst (λ b. IsSome (block_called b c.args.now (g.S.Store.slot_kinds c.args.store.now) (g.S.Store.numbers c.args.store.now) c.args.at)) c.in-Ctu.is c.requires.there)

pub call-requires-in-Ctu-clause-moment : goal.call-requires-in-Ctu-clause-moment
call-requires-in-Ctu-clause-moment g c = c.requires.moment

pub call-requires-in-Ctu-clause-forward : goal.call-requires-in-Ctu-clause-forward
call-requires-in-Ctu-clause-forward g c = c.requires.forward

pub returns-in-Ctu-clause-called : goal.returns-in-Ctu-clause-called
returns-in-Ctu-clause-called g c =
    ap (λ b. block_called b c.args.now (g.S.Store.slot_kinds c.args.store.now) (g.S.Store.numbers c.args.store.now) c.args.at) c.in-Ctu.is ∙ c.call-in-Ctu.ensures.called

pub returns-in-Ctu-clause-kinds : goal.returns-in-Ctu-clause-kinds
returns-in-Ctu-clause-kinds g c = c.call-in-Ctu.ensures.kinds

pub returns-in-Ctu-clause-moments : goal.returns-in-Ctu-clause-moments
returns-in-Ctu-clause-moments g c = c.call-in-Ctu.ensures.moments

pub call-requires-in-Ton-clause-capacity : goal.call-requires-in-Ton-clause-capacity
call-requires-in-Ton-clause-capacity g c = c.requires.capacity

pub call-requires-in-Ton-clause-slots : goal.call-requires-in-Ton-clause-slots
call-requires-in-Ton-clause-slots g c =
    slots_there blocks.Ton c.args.now (g.S.Store.slot_kinds c.args.store.now) (g.S.Store.numbers c.args.store.now) c.args.at
    (subst (λ b. IsSome (block_called b c.args.now (g.S.Store.slot_kinds c.args.store.now) (g.S.Store.numbers c.args.store.now) c.args.at)) c.in-Ton.is c.requires.there)

pub call-requires-in-Ton-clause-moment : goal.call-requires-in-Ton-clause-moment
call-requires-in-Ton-clause-moment g c = c.requires.moment

pub call-requires-in-Ton-clause-forward : goal.call-requires-in-Ton-clause-forward
call-requires-in-Ton-clause-forward g c = c.requires.forward

pub returns-in-Ton-clause-called : goal.returns-in-Ton-clause-called
returns-in-Ton-clause-called g c =
    ap (λ b. block_called b c.args.now (g.S.Store.slot_kinds c.args.store.now) (g.S.Store.numbers c.args.store.now) c.args.at) c.in-Ton.is ∙ c.call-in-Ton.ensures.called

pub returns-in-Ton-clause-kinds : goal.returns-in-Ton-clause-kinds
returns-in-Ton-clause-kinds g c = c.call-in-Ton.ensures.kinds

pub returns-in-Ton-clause-moments : goal.returns-in-Ton-clause-moments
returns-in-Ton-clause-moments g c = c.call-in-Ton.ensures.moments

pub call-requires-in-Tof-clause-capacity : goal.call-requires-in-Tof-clause-capacity
call-requires-in-Tof-clause-capacity g c = c.requires.capacity

pub call-requires-in-Tof-clause-slots : goal.call-requires-in-Tof-clause-slots
call-requires-in-Tof-clause-slots g c =
    slots_there blocks.Tof c.args.now (g.S.Store.slot_kinds c.args.store.now) (g.S.Store.numbers c.args.store.now) c.args.at
    (subst (λ b. IsSome (block_called b c.args.now (g.S.Store.slot_kinds c.args.store.now) (g.S.Store.numbers c.args.store.now) c.args.at)) c.in-Tof.is c.requires.there)

pub call-requires-in-Tof-clause-moment : goal.call-requires-in-Tof-clause-moment
call-requires-in-Tof-clause-moment g c = c.requires.moment

pub call-requires-in-Tof-clause-forward : goal.call-requires-in-Tof-clause-forward
call-requires-in-Tof-clause-forward g c = c.requires.forward

pub returns-in-Tof-clause-called : goal.returns-in-Tof-clause-called
returns-in-Tof-clause-called g c =
    ap (λ b. block_called b c.args.now (g.S.Store.slot_kinds c.args.store.now) (g.S.Store.numbers c.args.store.now) c.args.at) c.in-Tof.is ∙ c.call-in-Tof.ensures.called

pub returns-in-Tof-clause-kinds : goal.returns-in-Tof-clause-kinds
returns-in-Tof-clause-kinds g c = c.call-in-Tof.ensures.kinds

pub returns-in-Tof-clause-moments : goal.returns-in-Tof-clause-moments
returns-in-Tof-clause-moments g c = c.call-in-Tof.ensures.moments

pub call-requires-in-Tp-clause-capacity : goal.call-requires-in-Tp-clause-capacity
call-requires-in-Tp-clause-capacity g c = c.requires.capacity

pub call-requires-in-Tp-clause-slots : goal.call-requires-in-Tp-clause-slots
call-requires-in-Tp-clause-slots g c =
    slots_there blocks.Tp c.args.now (g.S.Store.slot_kinds c.args.store.now) (g.S.Store.numbers c.args.store.now) c.args.at
    (subst (λ b. IsSome (block_called b c.args.now (g.S.Store.slot_kinds c.args.store.now) (g.S.Store.numbers c.args.store.now) c.args.at)) c.in-Tp.is c.requires.there)

pub call-requires-in-Tp-clause-moment : goal.call-requires-in-Tp-clause-moment
call-requires-in-Tp-clause-moment g c = c.requires.moment

pub call-requires-in-Tp-clause-forward : goal.call-requires-in-Tp-clause-forward
call-requires-in-Tp-clause-forward g c = c.requires.forward

pub returns-in-Tp-clause-called : goal.returns-in-Tp-clause-called
returns-in-Tp-clause-called g c =
    ap (λ b. block_called b c.args.now (g.S.Store.slot_kinds c.args.store.now) (g.S.Store.numbers c.args.store.now) c.args.at) c.in-Tp.is ∙ c.call-in-Tp.ensures.called

pub returns-in-Tp-clause-kinds : goal.returns-in-Tp-clause-kinds
returns-in-Tp-clause-kinds g c = c.call-in-Tp.ensures.kinds

pub returns-in-Tp-clause-moments : goal.returns-in-Tp-clause-moments
returns-in-Tp-clause-moments g c = c.call-in-Tp.ensures.moments

-- What the proofs of the exports cite.
pub use Rattle.std.proofs.Common.{◌≡◌, ℕ, List, [], ◌∷◌, ◌++◌, refl, w8, w16, w32, w64}
pub use Rattle.std.proofs.raw_atomic.Walks.{proved}
pub use base.Fraction.{full_share}
pub use base.Logic.{id⊢, sep}
pub use base.Fml.{GName, ftrue, flft, flent}
pub use mir.Syntax.{named}
pub use mir.Val.{Val, vptr}
pub use contract.Monad.{fact}
pub use contract.Running.{tables}
pub use types.Logic.{sem}
pub use types.SemTy.{Body}
pub use types.Tokens.{lft_new, lft_end}
pub use types.Kit.{‵, raw, ◌⊛◌, some, later, prop, ◌$◌, ◌∵◌, !, qed, done, move, keep, drop, use1, use2, use3, split, join, fsplit, feq_i, pick, show, await, regoal, suffices, frame, group}
pub use types.Run.{enter, of_opd, addr, stop, no_more, and_then, returns}
pub use types.ByLocal.{alloc_all, pass_all, free_all, look_at, get, through, sets, lands_as}
pub use denote.Builtin.{u8, u16, u32, u64, i32}
pub use denote.Exit.{yes}
pub use denote.Laws.{Is, shows}
pub use denote.Lend.{lends_ref, ref_back}
pub use denote.Memory.{mem}
pub use denote.Plain.{uint_Makes, uint_vals, uint_Tells, uint_Lawful}
pub use denote.RawPtr.{Ptr, RawPtr, block_ptr, lies_at, in_a_block, rawptr_vals, rawptr_Tells}
pub use denote.Ref.{MutRef}
pub use denote.Signature.{plain, shr_slice_of, name_of}
pub use denote.Steps.{nothing, owned, heard, peeks}
pub use denote.Triple.Call.{calls_at}
pub use denote.Triple.Clauses.{lasts}
pub use denote.Triple.Entry.{on_entry}
pub use denote.Triple.Spec.{triple_of}
pub use denote.Triple.Walked.{Stays, walk_of, says, stay_dropped, Goes-dropped, ends_at}
pub use denote.Triple.Table.{framed}
pub use prog.Wp.{WpFn}
pub use denote.Signed.{sint_vals, sint_Tells, sint_Makes, sint_Lawful}
pub use denote.Slice.{ShrSlice, shr_slice_vals, shr_slice_Tells, shr_slice_Lawful}

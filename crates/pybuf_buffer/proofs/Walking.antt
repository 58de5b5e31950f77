-- One place for the names that the two walks by hand cite, and two facts on an answer.
use Rattle.std.proofs.Common.{T, not}
pub use Rattle.std.proofs.Common.{◌≡◌, ℕ, ◌<◌, ◌^◌, List, [], ◌∷◌, refl, sym, ap, ◌∙◌, subst, lit<, w64, MutBor, length, Bool, true, false, Option, Some, None}
pub use Rattle.std.proofs.Flags.{T_true}
pub use Rattle.std.proofs.raw_atomic.Walks.{proved}
pub use Rattle.std.proofs.VecSteps.Element.{Some-of, none_of}
pub use seplogic.Ra.Ura.{Ura}
pub use base.Fraction.{full_share}
pub use base.Logic.{SProp, ent, sep, emp, id⊢}
pub use base.Fml.{Lft, Share, ftrue, flft, fres}
pub use mir.Syntax.{named}
pub use mir.Val.{Val, vint, of_list}
pub use prog.Memory.{Memory}
pub use prog.Routine.{Routine}
pub use contract.Monad.{Fun, fact, fact_i}
pub use contract.Running.{tables}
pub use types.Logic.{Logic, sem}
pub use types.Kit.{‵, raw, ◌⊛◌, some, later, at_ret, ◌$◌, ◌∵◌, !, qed, by, done, move, keep, drop, rewrite, use0, use1, use2, use3, split, join, fsplit, fsplit3, fjoin, pick, await, suffices, frame}
pub use types.Match.{live}
pub use types.Part.{agg}
pub use types.Tokens.{lft_new, lft_end}
pub use types.Run.{enter, lit, addr, stop, first, branches, skips, exec, returns, returns_within, no_more, and_then}
pub use types.ByLocal.{alloc_all, pass_all, free_all, look_at, get, through, sets, lands_as, env}
pub use denote.Builtin.{u8, usize, bool}
pub use denote.Exit.{yes, no}
pub use denote.Laws.{shows}
pub use denote.RattleType.{RattleType}
pub use denote.Lend.{lends_again, comes_back, LentAgain}
pub use denote.Plain.{uint_Makes}
pub use denote.Follow.{follows}
pub use denote.Ref.{Bor, MutRef, ShrRef, mut_vals, mut_Tells, shr_vals, shr_Tells}
pub use denote.Slice.{MutSlice, slice_val}
pub use denote.Signature.{plain, shr_ref_to}
pub use denote.Steps.{nothing, owned, peeks, facts, heard, only}
pub use denote.Triple.Call.{calls_at}
pub use denote.Triple.Clauses.{Clauses, lasts}
pub use denote.Triple.Spec.{triple_of}
pub use denote.Triple.Table.{framed}
pub use denote.Triple.Walked.{Stays, walk_of, says, stay_dropped, Goes-dropped, Goes-spent_ref, ends_at}

pub T_false : (answer : Bool) → T (not answer) → answer ≡ false
T_false true t = absurd t
T_false false t = refl

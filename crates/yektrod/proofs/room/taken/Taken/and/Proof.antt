-- The struct has no bytes, and the text of it is the one that the clause names.
use mathlib.Core.Path.{refl}
use mathlib.Core.List.{[], ◌∷◌, ◌++◌}
use mir.Syntax.{named}
use mir.Val.{vstruct, vnil}
use base.Logic.{emp}
use types.Kit.{‵, raw, ◌⊛◌, ◌$◌, ◌∵◌, !, qed, done, keep, move, split, suffices}
use types.Part.{agg}
use types.Run.{no_more, returns, enter}
use types.ByLocal.{alloc_all, pass_all, free_all, look_at, sets}
use denote.Builtin.{u8}
use denote.Exit.{yes}
use denote.RattleType.{owns}
use denote.Ref.{shr_vals, shr_Tells}
use denote.Shadow.{pure_i}
use denote.Signature.{plain, types_at}
use denote.Slice.{shr_slice_vals, shr_slice_Tells}
use denote.Triple.Entry.{alive}
use denote.Triple.Walked.{Stays, says, stay_none_ref, stay_none_slice, walk_of, ends_at, Goes-none_ref, Goes-none_slice}
use Rattle.std.proofs.raw_atomic.Walks.{proved}
use Rattle.yektrod.specs.contracts.room.taken.Taken as Taken
use Rattle.yektrod.specs.contracts.room.taken.Taken.and as f
use Rattle.yektrod.proofs.room.taken.Taken.and.Statement.{statement}
use Rattle.yektrod.proofs.room.taken.Taken.and.Code as code

abbrev stayed : Stays f.ended.signature.params f.ended.kept
stayed = (stay_none_ref (0 ∷ []) tt (plain (λ _. Taken.the_row)) yes, (stay_none_slice (1 ∷ []) tt (plain (λ _. u8)) yes, tt))

pub and_spec : {M : Type 1} → statement M
and_spec 𝓤 𝓛 𝓜 𝓡 wired =
    let c = f.clauses 𝓛 𝓜.mem 𝓡.returns in let W = walk_of 𝓛 f.ended stayed c in
    proved 𝓛 f.ended stayed c 𝓜 𝓡
    (Goes-none_ref 𝓛 2 (0 ∷ []) tt (plain (λ _. Taken.the_row)) yes, (Goes-none_slice 𝓛 2 (1 ∷ []) tt (plain (λ _. u8)) yes, tt))
    f.Key.name code.function (code.unfolded 𝓤 𝓛.H 𝓜 𝓡 wired)
    (λ κs. (shr_vals, (shr_slice_vals, tt)))
    (λ κs. (shr_Tells (named 0) κs.0 Taken.the_row, (shr_slice_Tells (named 1) κs.1.0 u8, tt))) (λ κs qs bounds a n are.
    let y : W.Ghost = ((κs, qs, bounds, a, (shr_vals a.0, (shr_slice_vals a.1.0, tt))), n) in
    let longer : (Taken.the_row).Denot = record { text = a.0.now.text ++ a.1.0.now } in
    qed 𝓛 ((raw (alive 𝓛 f.signature κs qs) ⊛ ‵ (owns (types_at f.signature.params κs) a y.0.4)) ∷ raw (emp 𝓤) ∷ []) ∵
    keep ! (0 ∷ []) $ split ! $ enter ! _ _ _ _ _ $
    alloc_all ! (λ l. pass_all ! refl ((tt, tt), ((tt, (tt, (record { fits = are.1.0.0.1.0 }, tt))), tt)) $
    sets ! (agg ! (no_more !)) refl (tt, tt) $ returns ! (look_at ! 0 refl) $ free_all ! refl $
    suffices ! _ (ends_at 𝓛 f.ended stayed c y (vstruct vnil) longer (tt, (tt, tt)) (tt, (tt, tt))) $ says ! refl $
    pure_i ! ((Taken.the_row).own_val longer (vstruct vnil ∷ [])) ((λ vss. (tt, tt)), tt) ((tt, (refl, tt)), tt) $
    move ! (1 ∷ 2 ∷ 0 ∷ []) $ done !))

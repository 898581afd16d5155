-- The struct has no bytes, and the text of it is empty.
use mathlib.Core.Path.{refl}
use mathlib.Core.List.{[], ◌∷◌}
use mir.Val.{vstruct, vnil}
use base.Fml.{ftrue}
use base.Logic.{emp}
use types.Kit.{‵, raw, ◌⊛◌, ◌$◌, ◌∵◌, !, qed, done, keep, move, split, suffices}
use types.Part.{agg}
use types.Run.{no_more, returns, enter}
use types.ByLocal.{alloc_all, pass_all, free_all, look_at, sets}
use denote.Shadow.{pure_i}
use denote.Triple.Walked.{Stays, says, ends_at}
use Rattle.std.proofs.raw_atomic.Walks.{proved_at}
use Rattle.yektrod.specs.contracts.room.taken.Taken as Taken
use Rattle.yektrod.specs.contracts.room.taken.Taken.nothing as f
use Rattle.yektrod.proofs.room.taken.Taken.nothing.Statement.{statement}
use Rattle.yektrod.proofs.room.taken.Taken.nothing.Code as code

abbrev stayed : Stays f.ended.signature.params f.ended.kept
stayed = tt

pub nothing_spec : {M : Type 1} → statement M
nothing_spec 𝓤 𝓛 𝓜 𝓡 wired =
    let c = f.clauses 𝓛 𝓜.mem 𝓡.returns in
    let empty : (Taken.the_row).Denot = record { text = [] } in
    proved_at 𝓛 f.ended stayed c 𝓜 𝓡 tt
    f.Key.name code.function (code.unfolded 𝓤 𝓛.H 𝓜 𝓡 wired) (λ y are.
    qed 𝓛 ((‵ ftrue ⊛ ‵ ftrue) ∷ raw (emp 𝓤) ∷ []) ∵
    split ! $ keep ! (0 ∷ 1 ∷ []) $ enter ! _ _ _ _ _ $ alloc_all ! (λ l. pass_all ! refl tt $
    sets ! (agg ! (no_more !)) refl (tt, tt) $ returns ! (look_at ! 0 refl) $ free_all ! refl $
    suffices ! _ (ends_at 𝓛 f.ended stayed c y (vstruct vnil) empty tt tt) $ says ! refl $
    pure_i ! ((Taken.the_row).own_val empty (vstruct vnil ∷ [])) ((λ vss. (tt, tt)), tt) ((tt, (refl, tt)), tt) $
    move ! (1 ∷ 2 ∷ 0 ∷ []) $ done !))

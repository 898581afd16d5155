-- A handle with a null pointer owns nothing but its allocator.
use lib.Dec.{lit<}
use mathlib.Core.Bool.{false}
use mathlib.Core.Path.{refl}
use mathlib.Core.List.{List, [], ◌∷◌, ◌++◌}
use mir.Val.{Val, vnull, vstruct, vcons, vnil, has_ty}
use base.Fml.{ftrue, fsep}
use base.Logic.{emp}
use contract.Running.{tables}
use prog.Wp.{WpFn}
use types.Kit.{‵, raw, prop, ◌⊛◌, ◌$◌, ◌∵◌, !, qed, done, drop, feq_i, fjoin, fpack, fsplit, join, keep, move, regoal, split, suffices}
use types.Part.{agg}
use types.Run.{lit, no_more, and_then, returns, enter}
use types.ByLocal.{alloc_all, pass_all, free_all, look_at, get, sets}
use denote.Exit.{yes}
use denote.RattleType.{Valss}
use denote.RawPtr.{RawPtr, null_ptr}
use denote.Steps.{nothing}
use denote.Struct.Owning.{shape}
use denote.Struct.Struct.{within}
use denote.Triple.Walked.{Stays, says, stay_dropped, walk_of, ends_at, Goes-dropped}
use Rattle.std.proofs.raw_atomic.Walks.{proved_at}
use Rattle.core.proofs.alloc.Calls.{handle_tells, α}
use Rattle.std_alloc.proofs.BoxSteps.Form.{P}
use Rattle.std_alloc.proofs.ResultValues.{and_tt}
use Rattle.std_heap.specs.contracts.Global as Global
use Rattle.yektrod.proofs.BoxedEngine.{engine_box, of_global_type, unheld}
use Rattle.yektrod.specs.contracts.handle.Handle as Handle
use Rattle.yektrod.specs.contracts.handle.Handle.shut as f
use Rattle.yektrod.proofs.handle.Handle.shut.Statement.{statement}
use Rattle.yektrod.proofs.handle.Handle.shut.Code as code

abbrev stayed : Stays f.ended.signature.params f.ended.kept
stayed = (stay_dropped of_global_type yes, tt)

pub shut_spec : {M : Type 1} → statement M
shut_spec 𝓤 𝓛 𝓜 𝓡 wired =
    let c = f.clauses 𝓛 𝓜.mem 𝓡.returns in let 𝓣 = tables 𝓤 𝓛.H 𝓜 𝓡 𝓡.env in
    proved_at 𝓛 f.ended stayed c 𝓜 𝓡 (Goes-dropped 𝓛 0 of_global_type yes (λ κs x w. refl), tt)
    f.Key.name code.function (code.unfolded 𝓤 𝓛.H 𝓜 𝓡 wired) (λ y are.
    let alloc = y.0.3.0 in let passed = y.0.4.0 in let post = (walk_of 𝓛 f.ended stayed c).post y in
    let handle : (Handle.the_row).Denot = record { ptr = null_ptr; alloc = alloc; is_open = false; held = unheld } in
    qed 𝓛 ((‵ ftrue ⊛ ‵ (fsep ((P engine_box).own_val alloc passed) ftrue)) ∷ raw (emp 𝓤) ∷ []) ∵
    split ! $ drop ! $ fsplit ! $ handle_tells engine_box.al ! alloc passed (λ g is fits.
    let made : Val = vstruct (vcons vnull (vcons g vnil)) in
    regoal ! (λ vs. prop (WpFn 𝓤 𝓛.H 𝓣.C 𝓣.Λ code.function (vs ++ []) post)) is refl $
    enter ! _ _ _ _ _ $ alloc_all ! (λ l. pass_all ! refl (fits, tt) $
    sets ! (agg ! (and_then ! (lit ! tt) (and_then ! (get ! refl) (no_more !)))) refl
    (and_tt (has_ty (α engine_box.al) g) fits.0, (record { fits = lit< tt }, (fits.1, tt))) $
    returns ! (look_at ! 0 refl) $ free_all ! refl $ keep ! (0 ∷ []) $
    -- [the allocator], to which come the null pointer, the two as one value, and what is owned beside them, which is nothing
    nothing ! $ move ! (1 ∷ 0 ∷ []) $ fjoin ! $
    feq_i ! (List Val) (vnull ∷ []) (vnull ∷ []) refl $ fjoin ! $
    feq_i ! (List Val) (made ∷ []) (made ∷ []) refl $ fjoin ! $
    fpack ! (Valss (RawPtr ∷ Global.the_row ∷ []))
    (within (shape Handle.the_type) (null_ptr, (((tt, tt), tt), tt)) (made ∷ [])) (vnull ∷ [], (g ∷ [], tt)) $
    nothing ! $ move ! (1 ∷ 0 ∷ []) $ fjoin ! $
    suffices ! _ (ends_at 𝓛 f.ended stayed c y made handle (tt, tt) (tt, tt)) $ says ! refl $
    nothing ! $ nothing ! $ fjoin ! $ join ! $ nothing ! $ join ! $ done !)))

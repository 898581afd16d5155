-- The parts are moved into the handle, and what they own goes along.
use mathlib.Core.Bool.{true}
use mathlib.Core.Path.{refl}
use mathlib.Core.List.{[], ◌∷◌, ◌++◌}
use base.Fml.{ftrue, fsep}
use base.Logic.{emp, id⊢}
use contract.Running.{tables}
use prog.Wp.{WpFn}
use types.Kit.{‵, raw, prop, ◌⊛◌, ◌$◌, ◌∵◌, !, qed, done, drop, fjoin, fsplit, join, keep, regoal, split, suffices, use1}
use types.Part.{whole, sub, agg}
use types.Run.{stop, fld, no_more, and_then, of_opd, returns, enter}
use types.ByLocal.{alloc_all, pass_all, free_all, look_at, get, get_in, sets}
use denote.Exit.{yes}
use denote.Steps.{nothing}
use denote.Triple.Walked.{Stays, stay_dropped, walk_of, ends_at, Goes-dropped}
use Rattle.std.proofs.raw_atomic.Walks.{proved_at}
use Rattle.core.proofs.mem.Facts.{says_two}
use Rattle.std_alloc.proofs.BoxSteps.Form.{B, D, word, box_typed}
use Rattle.std_alloc.proofs.BoxSteps.Steps.{box_out, box_in}
use Rattle.yektrod.proofs.BoxedEngine.{engine_box, of_parts_type}
use Rattle.yektrod.specs.contracts.handle.Handle as Handle
use Rattle.yektrod.specs.contracts.handle.Handle.of_parts as f
use Rattle.yektrod.proofs.handle.Handle.of_parts.Statement.{statement}
use Rattle.yektrod.proofs.handle.Handle.of_parts.Code as code

abbrev stayed : Stays f.ended.signature.params f.ended.kept
stayed = (stay_dropped of_parts_type yes, tt)

pub of_parts_spec : {M : Type 1} → statement M
of_parts_spec 𝓤 𝓛 𝓜 𝓡 wired =
    let c = f.clauses 𝓛 𝓜.mem 𝓡.returns in let 𝓣 = tables 𝓤 𝓛.H 𝓜 𝓡 𝓡.env in
    proved_at 𝓛 f.ended stayed c 𝓜 𝓡 (Goes-dropped 𝓛 0 of_parts_type yes (λ κs x w. refl), tt)
    f.Key.name code.function (code.unfolded 𝓤 𝓛.H 𝓜 𝓡 wired) (λ y are.
    let parts = y.0.3.0 in let passed = y.0.4.0 in let post = (walk_of 𝓛 f.ended stayed c).post y in
    let box : D engine_box = record { ptr = parts.ptr; alloc = parts.alloc; value = parts.value } in
    let handle : (Handle.the_row).Denot = record { ptr = parts.ptr; alloc = parts.alloc; is_open = true; held = parts.value } in
    qed 𝓛 ((‵ ftrue ⊛ ‵ (fsep ((B engine_box).own_val box passed) ftrue)) ∷ raw (emp 𝓤) ∷ []) ∵
    split ! $ drop ! $ fsplit ! $ box_out engine_box ! box passed (λ b o g at is fits.
    regoal ! (λ vs. prop (WpFn 𝓤 𝓛.H 𝓣.C 𝓣.Λ code.function (vs ++ []) post)) is refl $
    enter ! _ _ _ _ _ $ alloc_all ! (λ l. pass_all ! refl (box_typed engine_box g b o fits, tt) $
    sets ! (of_opd ! (get_in ! (fld ! refl (stop !)) (sub ! 0 refl (whole !)))) refl (tt, tt) $
    sets ! (of_opd ! (get_in ! (fld ! refl (stop !)) (sub ! 1 refl (whole !)))) refl fits $
    sets ! (of_opd ! (get ! refl)) refl (tt, tt) $
    sets ! (agg ! (and_then ! (get ! refl) (and_then ! (get ! refl) (no_more !)))) refl (box_typed engine_box g b o fits) $
    returns ! (look_at ! 0 refl) $ free_all ! refl $
    -- [the engine; the right to free it; its allocator; two empty entries]
    box_in engine_box ! box b o box.value at refl $ keep ! (0 ∷ []) $
    use1 𝓛 (‵ ((Handle.the_row).own_val handle (word engine_box g b o ∷ []))) (id⊢ 𝓤 _) $
    suffices ! _ (ends_at 𝓛 f.ended stayed c y (word engine_box g b o) handle (tt, tt) (tt, tt)) $ says_two ! (refl, refl) $
    nothing ! $ nothing ! $ fjoin ! $ join ! $ nothing ! $ join ! $ done !)))

-- An open handle owns what the parts own that are made of it.
use mathlib.Core.Bool.{Bool, true}
use mathlib.Core.Path.{◌≡◌, refl}
use mathlib.Core.List.{[], ◌∷◌, ◌++◌}
use base.Fml.{ftrue, fsep}
use base.Logic.{id⊢}
use contract.Monad.{fact}
use contract.Running.{tables}
use prog.Wp.{WpFn}
use types.Kit.{‵, raw, prop, ◌⊛◌, ◌$◌, ◌∵◌, !, qed, done, drop, fjoin, fsplit, join, keep, move, regoal, rewrite, split, suffices, use1}
use types.Part.{whole, sub, agg}
use types.Run.{stop, fld, no_more, and_then, of_opd, returns, enter}
use types.ByLocal.{alloc_all, pass_all, free_all, look_at, get, get_in, sets}
use denote.Exit.{yes}
use denote.Steps.{heard, nothing}
use denote.Triple.Walked.{Stays, says, stay_dropped, walk_of, ends_at, Goes-dropped}
use Rattle.std.proofs.raw_atomic.Walks.{proved_at}
use Rattle.std_alloc.proofs.BoxSteps.Form.{D, word, box_typed}
use Rattle.std_alloc.proofs.BoxSteps.Steps.{box_out, box_in}
use Rattle.std_heap.specs.contracts.Global as Global
use Rattle.std_heap.specs.contracts.GlobalAllocator.TheImpl.{ghosts}
use Rattle.yektrod.specs.contracts.sourced.SourcedEngine as SourcedEngine
use Rattle.yektrod.proofs.BoxedEngine.{engine_box, of_handle_type}
use Rattle.yektrod.specs.contracts.handle.Handle as Handle
use Rattle.yektrod.specs.contracts.handle.parts.Parts as Parts
use Rattle.yektrod.specs.contracts.handle.Handle.into_parts as f
use Rattle.yektrod.proofs.handle.Handle.into_parts.Statement.{statement}
use Rattle.yektrod.proofs.handle.Handle.into_parts.Code as code

abbrev stayed : Stays f.ended.signature.params f.ended.kept
stayed = (stay_dropped of_handle_type yes, tt)

pub into_parts_spec : {M : Type 1} → statement M
into_parts_spec 𝓤 𝓛 𝓜 𝓡 wired =
    let c = f.clauses 𝓛 𝓜.mem 𝓡.returns in let 𝓣 = tables 𝓤 𝓛.H 𝓜 𝓡 𝓡.env in
    let Made = Parts.the_row SourcedEngine.the_row Global.the_row ghosts in
    proved_at 𝓛 f.ended stayed c 𝓜 𝓡 (Goes-dropped 𝓛 0 of_handle_type yes (λ κs x w. refl), tt)
    f.Key.name code.function (code.unfolded 𝓤 𝓛.H 𝓜 𝓡 wired) (λ y are.
    let handle = y.0.3.0 in let passed = y.0.4.0 in let post = (walk_of 𝓛 f.ended stayed c).post y in
    let box : D engine_box = record { ptr = handle.ptr; alloc = handle.alloc; value = handle.held } in
    let parts : Made.Denot = record { ptr = handle.ptr; alloc = handle.alloc; value = handle.held } in
    let opened : Bool → (Handle.the_row).Denot = λ is_open. record handle { is_open = is_open } in
    qed 𝓛 ((‵ ftrue ⊛ ‵ (fsep ((Handle.the_row).own_val handle passed) ftrue)) ∷ raw (fact 𝓤 (handle.is_open ≡ true)) ∷ []) ∵
    move ! (1 ∷ []) $ heard ! _ (λ known. split ! $ drop ! $ fsplit ! $
    rewrite ! 0 (λ (is_open : Bool). ‵ ((Handle.the_row).own_val (opened is_open) passed)) known refl $
    box_out engine_box ! box passed (λ b o g at is fits.
    regoal ! (λ vs. prop (WpFn 𝓤 𝓛.H 𝓣.C 𝓣.Λ code.function (vs ++ []) post)) is refl $
    enter ! _ _ _ _ _ $ alloc_all ! (λ l. pass_all ! refl (box_typed engine_box g b o fits, tt) $
    sets ! (of_opd ! (get_in ! (fld ! refl (stop !)) (sub ! 0 refl (whole !)))) refl (tt, tt) $
    sets ! (of_opd ! (get_in ! (fld ! refl (stop !)) (sub ! 1 refl (whole !)))) refl fits $
    sets ! (of_opd ! (get ! refl)) refl (tt, tt) $
    sets ! (agg ! (and_then ! (get ! refl) (and_then ! (get ! refl) (no_more !)))) refl (box_typed engine_box g b o fits) $
    returns ! (look_at ! 0 refl) $ free_all ! refl $
    -- [the engine; the right to free it; its allocator; an empty entry]
    box_in engine_box ! box b o box.value at refl $ keep ! (0 ∷ []) $
    use1 𝓛 (‵ (Made.own_val parts (word engine_box g b o ∷ []))) (id⊢ 𝓤 _) $
    suffices ! _ (ends_at 𝓛 f.ended stayed c y (word engine_box g b o) parts (tt, tt) (tt, tt)) $ says ! refl $
    nothing ! $ nothing ! $ fjoin ! $ join ! $ nothing ! $ join ! $ done !))))

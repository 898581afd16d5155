-- What the box owns is what the raw pointer and the allocator own that come of it.
use mathlib.Core.Path.{◌≡◌, refl, ap, ◌∙◌}
use mathlib.Core.List.{[], ◌∷◌, ◌++◌}
use mir.MapTy.{inst_fn}
use mir.Raw.{raw as bare}
use mir.Syntax.{a_type, dcons, dnil}
use mir.Val.{vstruct, of_list}
use base.Fml.{flft, fsep, ftrue}
use base.Logic.{fst∗, id⊢, never}
use contract.BorrowLft.{◌⊑◌}
use contract.Monad.{fact}
use contract.Running.{tables}
use prog.Wp.{WpFn}
use types.Logic.{sem}
use types.Kit.{Item, ‵, raw, prop, ◌⊛◌, some, later, ◌$◌, ◌∵◌, !, qed, await, done, drop, feq_l, fjoin, fpick, fsplit, join, move, pick, regoal}
use types.Kit.{rewrite, split, split3, suffices, use1}
use types.Part.{whole, sub, agg}
use types.Run.{stop, fld, no_more, and_then, of_opd, returns, enter}
use types.ByLocal.{alloc_all, pass_all, free_all, look_at, get, get_in, sets, lands_as}
use denote.Exit.{no}
use denote.Param.{bounded}
use denote.RawPtr.{Ptr, RawPtr, block_ptr, null_ptr, ptr_val, in_a_block}
use denote.Signature.{plain}
use denote.Steps.{heard, nothing, only}
use denote.Struct.Tuple.{Tuple}
use denote.Triple.Call.{calls_at}
use denote.Triple.Spec.{triple_of}
use denote.Triple.Table.{framed}
use denote.Triple.Walked.{Stays, says, stay_dropped, walk_of, ends_at}
use Rattle.std.proofs.raw_atomic.Walks.{proved_at}
use Rattle.core.proofs.alloc.Calls.{token, handle_tells, Goes-blank}
use Rattle.std_alloc.specs.Box.Ownership.{box_owns}
use Rattle.std_alloc.proofs.BoxSteps.Form.{Bx, D, τ, R, P, B, word, box_typed}
use Rattle.std_alloc.proofs.BoxSteps.Steps.{box_out, box_in}
use Rattle.std_alloc.specs.contracts.boxed.Box.into_raw_with_allocator as g
use Rattle.std_alloc.proofs.boxed.Box.into_raw_with_allocator.Met.{met}
use Rattle.yektrod.specs.contracts.handle.parts.Parts as Parts
use Rattle.yektrod.specs.contracts.handle.parts.Parts.of as f
use Rattle.yektrod.proofs.handle.parts.Parts.of.Statement.{statement}
use Rattle.yektrod.proofs.handle.parts.Parts.of.Code as code

pub of_spec : {M : Type 1} → statement M
of_spec 𝓤 𝓛 𝓜 𝓡 wired X A LX LA ghosts methods drops drop_x allocator dropped glue =
    let E : Bx = record { row = X; laws = LX; al = record { row = A; laws = LA; g = ghosts; d = methods; drops = drops } } in
    let ended = f.ended X A ghosts methods drops drop_x in
    let stayed : Stays ended.signature.params ended.kept = (stay_dropped (plain (λ _. B E)) no, tt) in
    let c = f.clauses X A ghosts methods drops drop_x 𝓛 𝓜.mem 𝓡.returns in
    let args = bounded (a_type ∷ a_type ∷ []) (X, (A, tt)) (dcons methods (dcons drops (dcons drop_x dnil))) in
    let fn = inst_fn args code.function in let 𝓣 = tables 𝓤 𝓛.H 𝓜 𝓡 𝓡.env in
    let Made = Parts.the_row (R E) (P E) ghosts in
    let Raw = triple_of 𝓛 (g.signature X A ghosts methods drops drop_x) (g.spec X A ghosts methods drops drop_x 𝓛 𝓜.mem 𝓡.returns) in
    proved_at 𝓛 ended stayed c 𝓜 𝓡 (Goes-blank 𝓛 2 (plain (λ _. B E)) no (λ κs x w. tt), tt)
    (f.Key.name args) fn (code.unfolded 𝓤 𝓛.H 𝓜 𝓡 wired (X, (A, tt)) methods drops drop_x) (λ y are.
    let κs = y.0.0 in let qs = y.0.1 in let box = y.0.3.0 in let passed = y.0.4.0 in let post = (walk_of 𝓛 ended stayed c).post y in
    let tokens : Item 𝓤 = ‵ (flft κs.0 qs.0) ⊛ ‵ (flft κs.1.0 qs.1.0) ⊛ ‵ ftrue in
    let bounds : Item 𝓤 = raw (fact 𝓤 (κs.0 ⊑ X.lives)) ⊛ raw (fact 𝓤 (κs.1.0 ⊑ A.lives)) ⊛ ‵ ftrue in
    qed 𝓛 ((tokens ⊛ ‵ (fsep ((B E).own_val box passed) ftrue)) ∷ bounds ∷ []) ∵ split ! $ move ! (1 ∷ []) $ fsplit ! $
    box_out E ! box passed (λ b o h at is fits.
    regoal ! (λ vs. prop (WpFn 𝓤 𝓛.H 𝓣.C 𝓣.Λ fn (vs ++ []) post)) is refl $
    enter ! _ _ _ _ _ $ alloc_all ! (λ l. pass_all ! refl (box_typed E h b o fits, tt) $
    sets ! (of_opd ! (get ! refl)) refl (box_typed E h b o fits) $
    -- the call: [the box with an empty entry; the tokens; the bounds]
    box_in E ! box b o box.value at refl $ fjoin ! $ move ! (1 ∷ 0 ∷ []) $ join ! $ join ! $
    let z : Raw.Ghost = ((κs, qs, tt, (box, tt), (word E h b o ∷ [], tt)), tt) in
    use1 𝓛 (raw (Raw.pre z)) (id⊢ 𝓤 _) $
    calls_at ! (framed 𝓤 𝓛.H 𝓜 𝓣) Raw
    (met 𝓤 𝓛 𝓜 𝓡 (code.calls-std_alloc::boxed::Box::into_raw_with_allocator 𝓡.env wired)
    X A LX LA ghosts methods drops drop_x allocator dropped glue) z
    (and_then ! (get ! refl) (no_more !)) (λ v.
    let owned : Ptr × A.Denot → Item 𝓤 = λ r. (tokens ⊛ ‵ ((Tuple (RawPtr ∷ P E ∷ [])).own_val r (v ∷ []))) in
    let told : Ptr × A.Denot → Item 𝓤 = λ r. raw (fact 𝓤 (r.1 ≡ box.alloc)) ⊛ ‵ (box_owns (token E.al box.alloc) (R E) r.0 box.value) in
    use1 𝓛 (later (some (λ (r : Ptr × A.Denot). owned r
    ⊛ some (λ (_ : (Unit {0} × (Unit {0} × Unit {0})) × Unit {0}). ‵ (fsep (fsep ftrue (fsep ftrue ftrue)) ftrue) ⊛ told r)))) (id⊢ 𝓤 _) $
    await ! tt $ pick ! (λ r. split ! $ move ! (1 ∷ []) $ pick ! (λ _. split3 ! $ drop ! $ heard ! _ (λ same.
    in_a_block ! r.0 (λ p. box_owns (token E.al box.alloc) (R E) p box.value)
    (fst∗ 𝓤 (never 𝓤) (sem 𝓛 (token E.al box.alloc (bare (τ E)) null_ptr))) (λ b' o' at'.
    -- [what the box owns; the tokens with the pair; the locals]
    move ! (1 ∷ []) $ split ! $ move ! (1 ∷ []) $ fpick ! (λ vss. fsplit ! $ feq_l ! (λ whole_is. fsplit ! $ feq_l ! (λ ptr_is. fsplit ! $
    rewrite ! 0 (λ (s : A.Denot). ‵ (A.own_val s vss.1.0)) same refl $ handle_tells E.al ! box.alloc vss.1.0 (λ h' alloc_is fits'.
    let at_is = ptr_is ∙ ap (λ (p : Ptr). ptr_val p ∷ []) at' in
    lands_as ! (ap only (whole_is ∙ (λ j. vstruct (of_list (at_is j ++ (alloc_is j ++ []))) ∷ []))) refl (box_typed E h' b' o' fits') $
    sets ! (of_opd ! (get_in ! (fld ! refl (stop !)) (sub ! 0 refl (whole !)))) refl (tt, tt) $
    sets ! (of_opd ! (get_in ! (fld ! refl (stop !)) (sub ! 1 refl (whole !)))) refl fits' $
    sets ! (of_opd ! (get ! refl)) refl fits' $
    sets ! (agg ! (and_then ! (get ! refl) (and_then ! (get ! refl) (no_more !)))) refl (box_typed E h' b' o' fits') $
    returns ! (look_at ! 0 refl) $ free_all ! refl $
    -- [the allocator; an empty entry; the tokens; what the box owns]
    move ! (3 ∷ []) $ fsplit ! $
    let parts : Made.Denot = record { ptr = block_ptr b' o'; alloc = box.alloc; value = box.value } in
    let again : D E = record { ptr = block_ptr b' o'; alloc = box.alloc; value = box.value } in
    move ! (0 ∷ 1 ∷ 2 ∷ []) $ box_in E ! again b' o' box.value refl refl $ use1 𝓛 (‵ (Made.own_val parts (word E h' b' o' ∷ []))) (id⊢ 𝓤 _) $
    move ! (1 ∷ []) $ drop ! $
    suffices ! _ (ends_at 𝓛 ended stayed c y (word E h' b' o') parts ((tt, (tt, tt)), tt) (tt, tt)) $ says ! refl $
    nothing ! $ nothing ! $ fjoin ! $ join ! $ move ! (1 ∷ 0 ∷ []) $ join ! $ done !))))))))))))

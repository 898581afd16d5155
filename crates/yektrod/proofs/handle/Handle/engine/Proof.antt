-- The engine of an open handle is lent, and the handle ends with its last value.
use mathlib.Core.Bool.{Bool, true}
use mathlib.Core.Path.{◌≡◌, refl, sym}
use Prim.Native.Nat.{ℕ}
use mathlib.Core.List.{List, [], ◌∷◌}
use seplogic.Ra.Ura.{Ura}
use base.Fraction.{full_share}
use base.Fml.{Lft, GName, Share, Fml, ftrue, flft, fsep}
use base.Logic.{SProp, ent, sep, id⊢}
use contract.Monad.{Fun, fact}
use contract.Running.{tables}
use mir.Syntax.{named}
use mir.Raw.{raw as bare}
use mir.Val.{Val, vptr}
use prog.Memory.{Memory}
use prog.Routine.{Routine}
use types.Logic.{Logic, sem}
use types.Kit.{‵, raw, ◌⊛◌, some, later, await, at_ret, ◌$◌, ◌∵◌, !, qed, by, done, drop}
use types.Kit.{fjoin, fpack, frame, fsplit, fsplit3, group, join, keep, move, pick, rewrite, split, suffices, use1}
use types.Part.{whole, sub, look_in}
use types.Run.{stop, fld, load, of_opd, first, blocks, exec, returns, enter, addr}
use types.ByLocal.{alloc_all, pass_all, free_all, look_at, get, through, sets, sets_last, env}
use denote.Exit.{no}
use denote.Follow.{follows, Part, lends_Part}
use denote.Memory.{mem, cell_at, part_at, part_of}
use denote.RawPtr.{block_ptr}
use denote.Ref.{MutRef, mut_vals, mut_Tells}
use denote.Signature.{plain, mut_ref_to}
use denote.Steps.{heard, nothing, opens}
use denote.Triple.Walked.{Stays, says, stay_dropped, walk_of, ends_at, Goes-spent_ref}
use Rattle.std.proofs.raw_atomic.Walks.{proved}
use Rattle.core.proofs.alloc.Calls.{token}
use Rattle.std_alloc.proofs.VecSteps.Shapes.{after}
use Rattle.std_alloc.proofs.BoxSteps.Form.{D, τ, word, handle}
use Rattle.std_alloc.proofs.BoxSteps.Steps.{box_out, box_in}
use Rattle.yektrod.specs.SourcedContents.{SourcedContent}
use Rattle.yektrod.specs.contracts.sourced.SourcedEngine as SourcedEngine
use Rattle.yektrod.proofs.BoxedEngine.{engine_box}
use Rattle.yektrod.specs.inner.Lent.{with_held}
use Rattle.yektrod.specs.contracts.handle.Handle as Handle
use Rattle.yektrod.specs.contracts.handle.Handle.engine as f
use Rattle.yektrod.proofs.handle.Handle.engine.Statement.{statement}
use Rattle.yektrod.proofs.handle.Handle.engine.Code as code

abbrev stayed : Stays f.ended.signature.params f.ended.kept
stayed = (stay_dropped (mut_ref_to (0 ∷ []) tt (plain (λ _. Handle.the_row))) no, tt)

module _ {M : Type 1} {𝓤 : Ura M} (𝓛 : Logic 𝓤) (at_mem : Memory → SProp 𝓤) (run : Routine → Fun 𝓤) (κ : Lft) (q : Share) (rb ro : ℕ) (γ : GName)
    (h : Handle.the_row.Denot) (b o : ℕ) (g : Val) where
  open 𝓛 use {A}

  abbrev boxed : SourcedContent → D engine_box
  boxed w = record { ptr = h.ptr; alloc = h.alloc; value = w }

  abbrev at : Bool → SourcedContent → Handle.the_row.Denot
  at is_open w = record h { is_open = is_open; held = w }

  -- all of the handle but its engine
  abbrev Rest : Fml
  Rest = fsep (fsep (token engine_box.al h.alloc (bare (τ engine_box)) (block_ptr b o)) (handle engine_box h.alloc g))
      (cell_at full_share Handle.the_row.mir (word engine_box g b o ∷ []) rb ro)

  back : h.is_open ≡ true → h.ptr ≡ block_ptr b o → (w : SourcedContent)
      → ent 𝓤 (sep 𝓤 (sem 𝓛 ((mem SourcedEngine.the_row).own_at w b o)) (sem 𝓛 Rest)) (sem 𝓛 ((mem Handle.the_row).own_at (with_held h w) rb ro))
  unfolding part_of
  back known at_b w =
      qed 𝓛 (‵ (part_at SourcedEngine.the_row full_share w b o) ∷ ‵ Rest ∷ []) ∵ move ! (1 ∷ []) $ fsplit ! $ fsplit ! $ move ! (3 ∷ []) $
      box_in engine_box ! (boxed w) b o w at_b refl $
      use1 𝓛 (‵ (Handle.the_row.own_val (at true w) (word engine_box g b o ∷ []))) (id⊢ 𝓤 _) $
      rewrite ! 0 (λ (is_open : Bool). ‵ (Handle.the_row.own_val (at is_open w) (word engine_box g b o ∷ []))) (sym known) refl $
      move ! (1 ∷ 0 ∷ []) $ fjoin ! $
      fpack ! (List Val) (λ us. fsep (cell_at full_share Handle.the_row.mir us rb ro) (Handle.the_row.own_val (with_held h w) us))
      (word engine_box g b o ∷ []) $ done !

  exits : (γ' : GName)
      → ent 𝓤 (sep 𝓤 (sem 𝓛 ((MutRef (named 0) κ SourcedEngine.the_row).own_val (record { ref_ptr = (b, o); ghost_name = γ'; now = h.held })
      (vptr b o ∷ []))) (sep 𝓤 (A.lft κ q) (sem 𝓛 (follows Handle.the_row SourcedEngine.the_row γ γ' (with_held h)))))
      ((walk_of 𝓛 f.ended stayed (f.clauses 𝓛 at_mem run)).post
      (((κ, tt), (q, tt), tt, (record { ref_ptr = (rb, ro); ghost_name = γ; now = h }, tt), (vptr rb ro ∷ [], tt)), tt) (vptr b o))
  exits γ' =
      qed 𝓛 (‵ ((MutRef (named 0) κ SourcedEngine.the_row).own_val (record { ref_ptr = (b, o); ghost_name = γ'; now = h.held }) (vptr b o ∷ [])) ∷
      ‵ (flft κ q) ∷ ‵ (follows Handle.the_row SourcedEngine.the_row γ γ' (with_held h)) ∷ []) ∵
      suffices ! _ (ends_at 𝓛 f.ended stayed (f.clauses 𝓛 at_mem run)
      (((κ, tt), (q, tt), tt, (record { ref_ptr = (rb, ro); ghost_name = γ; now = h }, tt), (vptr rb ro ∷ [], tt)), tt) (vptr b o)
      (record { ref_ptr = (b, o); ghost_name = γ'; now = h.held }) (tt, tt) (tt, tt)) $
      nothing ! $ nothing ! $ fjoin ! $ join ! $ nothing ! $ move ! (2 ∷ 0 ∷ []) $ join ! $ join ! $ frame ! $ says ! refl $ done !

pub engine_spec : {M : Type 1} → statement M
engine_spec 𝓤 𝓛 𝓜 𝓡 wired =
    let c = f.clauses 𝓛 𝓜.mem 𝓡.returns in let W = walk_of 𝓛 f.ended stayed c in let 𝓣 = tables 𝓤 𝓛.H 𝓜 𝓡 𝓡.env in
    proved 𝓛 f.ended stayed c 𝓜 𝓡 (Goes-spent_ref 𝓛 1 (0 ∷ []) tt (plain (λ _. Handle.the_row)), tt)
    f.Key.name code.function (code.unfolded 𝓤 𝓛.H 𝓜 𝓡 wired)
    (λ κs. (mut_vals, tt)) (λ κs. (mut_Tells (named 0) κs.0 Handle.the_row, tt)) (λ κs qs bounds a _ are.
    let κ = κs.0 in let q = qs.0 in let rb = a.0.ref_ptr.0 in let ro = a.0.ref_ptr.1 in let γ = a.0.ghost_name in let h = a.0.now in
    let vs = mut_vals a.0 in
    let y : W.Ghost = ((κs, qs, bounds, a, (vs, tt)), tt) in
    let box : D engine_box = record { ptr = h.ptr; alloc = h.alloc; value = h.held } in
    qed 𝓛 (((‵ (flft κ q) ⊛ ‵ ftrue) ⊛ ‵ ((MutRef (named 0) κ Handle.the_row).own_val a.0 vs) ⊛ ‵ ftrue) ∷ raw (fact 𝓤 (h.is_open ≡ true)) ∷ []) ∵
    move ! (1 ∷ []) $ heard ! _ (λ known. split ! $ split ! $ move ! (2 ∷ []) $ split ! $ keep ! (0 ∷ 2 ∷ []) $
    enter ! _ _ _ _ _ $ alloc_all ! (λ l. pass_all ! refl ((tt, tt), tt) $
    fsplit3 ! $ drop ! $ opens ! tt Handle.the_row rb ro (λ us. move ! (1 ∷ []) $
    rewrite ! 0 (λ (is_open : Bool). ‵ (Handle.the_row.own_val (record h { is_open = is_open }) us)) known refl $
    box_out engine_box ! box us (λ b o g at_b is fits. move ! (1 ∷ 2 ∷ []) $ fjoin ! $ move ! (1 ∷ []) $
    rewrite ! 2 (λ (ws : List Val). ‵ (cell_at full_share Handle.the_row.mir ws rb ro)) is refl $
    -- [the engine; the right to free it with its allocator; the handle's cell; the open borrow; obs; auth]
    first ! $ blocks ! $
    sets ! (of_opd ! (load ! (through ! refl (fld ! refl (stop !))) (look_in ! 2 (sub ! 0 refl (whole !))))) refl (tt, tt) $
    sets ! (of_opd ! (get ! refl)) refl (tt, tt) $
    sets_last ! (addr ! (through ! refl (stop !))) refl (tt, tt) $
    exec ! 𝓣.C 𝓣.Λ (env code.Mir.locals l) (after 1 (code.function).body) (at_ret _ (W.post y)) $
    sets ! (of_opd ! (get ! refl)) refl (tt, tt) $
    move ! (1 ∷ 2 ∷ []) $ fjoin ! $ move ! (2 ∷ 3 ∷ 4 ∷ 1 ∷ 0 ∷ []) $ group ! 5 $
    let R = Rest 𝓛 𝓜.mem 𝓡.returns κ q rb ro γ h b o g in
    let way = back 𝓛 𝓜.mem 𝓡.returns κ q rb ro γ h b o g known at_b in
    use1 𝓛 (later (some (λ (γ' : GName). raw (Part 𝓛 Handle.the_row SourcedEngine.the_row (with_held h) (named 0) κ q rb ro b o γ (sem 𝓛 R) way
    h.held γ'))))
    (lends_Part 𝓛 Handle.the_row SourcedEngine.the_row (with_held h) (named 0) κ q rb ro b o γ (sem 𝓛 R) way (Handle.the_row.coded.code h)
    (Handle.the_row.coded.code h) h.held) $ await ! tt $ pick ! (λ γ'.
    returns ! (look_at ! 0 refl) $ free_all ! refl $ keep ! (0 ∷ []) $
    by ! (exits 𝓛 𝓜.mem 𝓡.returns κ q rb ro γ h b o g γ')))))))

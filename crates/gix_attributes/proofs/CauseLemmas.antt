-- After a search from nothing, the macro whose body has the item of an answer has its answer too.
use Rattle.std.proofs.lemmas.Bool.Decides.{nat_tests}
use Rattle.std.proofs.Common.{arith, ◌≡◌, Bool, get_or, slice_get, true, ℕ, List, Option, Some, None, refl, ⊎_elim, sym, ap, ◌∙◌, subst}
use Rattle.std.specs.Prelude.{option_and_then, option_map}
use Rattle.std.proofs.lemmas.Option.{get_or_from_slice_get, slice_get_within}
use Rattle.attr_table.specs.Setting.{Answer, Item, Setting, body_of}
use Rattle.attr_table.specs.Skipped.{IsClosed}
use Rattle.attr_table.specs.Table.{Inside, IsStable, Occurrence, Root, Slots, Table, item_at, path}
use Rattle.attr_table.specs.Cut.{IsCut, IsCutAt, IsKept, answer_at, cause_at, full_answer, no_answers}
use Rattle.attr_table.proofs.ForCallers.{entry_is, first_beginning, first_trans, seen_others}
use Rattle.gix_attributes.proofs.SearchLaws.{has_answer}

-- the cause of an answer is that of its occurrence
cause_is : (s : Setting) (o : Occurrence) (x : Answer) → answer_at s o ≡ Some x → x.cause ≡ cause_at s o
cause_is s o x h = grind (arith, nat_tests)

-- what is inside a parent comes after it, so the parent is kept with it
kept_parent : (table : Table) (wanted : List ℕ) (parent : Occurrence) (index : ℕ) → IsKept no_answers table wanted (Inside parent index) →
    IsKept no_answers table wanted parent
kept_parent table wanted parent index kept =
    grind (arith, nat_tests, first_beginning (path parent) index, first_trans (path parent) (path (Inside parent index)))

module _ (s : Setting) (wanted : List ℕ) (slots : Slots) (table : Table) (stable : IsStable s no_answers table)
    (cut : IsCut s no_answers table wanted slots) where
  cut_at : (a : ℕ) (o : Occurrence) → table a ≡ Some o → IsCutAt s no_answers table wanted (Some o) (slots a)
  cut_at a o e = subst (λ entry. IsCutAt s no_answers table wanted entry (slots a)) e (cut a)

  parent_seen : (parent : Occurrence) (index a above : ℕ) (i : Item) → item_at s parent ≡ Some i → table above ≡ Some parent →
      table a ≡ Some (Inside parent index) → (slots a ≡ None → ⊥) → slots above ≡ full_answer s None (table above)
  parent_seen parent index a above i item entry inside there =
      ⊎_elim
      (λ (none : slots above ≡ None). absurd (there ((cut_at a (Inside parent index) inside).1
      (λ kept. has_answer s parent i item
      (sym ((cut_at above parent entry).0 (kept_parent table wanted parent index kept)) ∙ none)))))
      (λ (e : slots above ≡ full_answer s None (table above)). e)
      (seen_others s no_answers wanted table slots above stable cut)

  pub cause_seen : (a cause : ℕ) (x : Answer) → slots a ≡ Some x → x.cause ≡ Some cause → slots cause ≡ full_answer s None (table cause)
  cause_seen a cause x here is_cause = by_entry (table a) refl
    where
      there : slots a ≡ None → ⊥
      there none = absurd cc

      by_occurrence : (o : Occurrence) → table a ≡ Some o → answer_at s o ≡ Some x → slots cause ≡ full_answer s None (table cause)
      by_occurrence o e h = grind (arith, nat_tests, cause_is, entry_is, stable, parent_seen, there)

      by_entry : (o : Option Occurrence) → table a ≡ o → slots cause ≡ full_answer s None (table cause)
      by_entry None e = grind (arith, nat_tests, cut)
      by_entry (Some o) e =
          ⊎_elim
          (λ (none : slots a ≡ None). absurd cc)
          (λ (full : slots a ≡ full_answer s None (table a)).
          by_occurrence o e (sym (ap (full_answer s None) e) ∙ (sym full ∙ here)))
          (seen_others s no_answers wanted table slots a stable cut)

  -- the macro that is the cause of a needed attribute's answer is needed, since its body has an item of the attribute
  pub cause_needed : (needed : ℕ → Bool) (a cause : ℕ) (x : Answer) → IsClosed s.bodies needed → slots a ≡ Some x → x.cause ≡ Some cause →
      needed a ≡ true → needed cause ≡ true
  cause_needed needed a cause x closed here is_cause own = by_entry (table a) refl
    where
      by_occurrence : (o : Occurrence) → table a ≡ Some o → answer_at s o ≡ Some x → needed cause ≡ true
      by_occurrence (Root list line item) e h = let none : x.cause ≡ None = cause_is s (Root list line item) x h in absurd cc
      by_occurrence (Inside parent index) e h =
          let live = (entry_is s no_answers table stable a (Inside parent index) e).0 in
          let reached = live.1.reached in
          let named : x.cause ≡ Some reached.0.attribute =
          cause_is s (Inside parent index) x h ∙ ap (option_map (λ (i : Item). i.attribute)) reached.1 in
          let same : reached.0.attribute ≡ cause = cc in
          let body = body_of s.bodies reached.0.attribute in
          let item : slice_get body index ≡ Some live.0 =
          sym (ap (option_and_then (λ (i : Item). slice_get (body_of s.bodies i.attribute) index)) reached.1) ∙ live.1.item in
          let within = slice_get_within body index live.0 item in
          let there : get_or body index live.0 ≡ live.0 = get_or_from_slice_get body index live.0 live.0 item in
          grind (arith, nat_tests)

      by_entry : (o : Option Occurrence) → table a ≡ o → needed cause ≡ true
      by_entry o e = grind (arith, nat_tests, cut, by_occurrence, seen_others, stable)

use Rattle.std.proofs.Common.{◌≡◌, ◌∙◌, false, true, length, ◌++◌, ◌∷◌, [], arith, ap, refl, subst, sym}
use Rattle.attr_keys.specs.shared.Meeting.{key_content}
use Rattle.std.proofs.lemmas.Bool.Decides.{nat_tests}
use Rattle.std.proofs.lemmas.List.{map-append}
use Rattle.attr_keys.specs.inner.Buckets.{IsHashed}
use Rattle.attr_keys.specs.inner.Kinds.{AreKinds, kind_rows, rows_with}
use Rattle.attr_keys.proofs.Meetings.{lower_content}
use Rattle.attr_keys.proofs.Sorting.{kind_rows_same, kinds_more}
use Rattle.attr_keys.proofs.kinds.KindRows.push.Goals as goal
use Rattle.attr_keys.proofs.kinds.KindRows.push.Goals.{then-self, else-self}

pub returns-in_ok-add-clause-kinds : goal.returns-in_ok-add-clause-kinds
returns-in_ok-add-clause-kinds g c = λ keys are.
    let old = c.args.self.now in
    let more = g.K.Keyed.content c.args.line.now in
    let hashed = c.push.new.self in
    let row : c.len-row.result ≡ length keys = grind (arith, nat_tests, c.len-row.ensures, are.kinds.counted) in
    let lacks : c.in_ok-push.field-0 ≡ false = grind (arith, nat_tests, c.if-not-branch.true) in
    let kinds = kinds_more old.fold keys more old.hashed hashed (λ s. kind_rows s old) (λ s. kind_rows s c.add.new.self) c.in_ok-push.field-0
    are.kinds c.in_ok-push.ensures.counted c.in_ok-push.ensures.kept
    (λ put. let no : false ≡ true = sym lacks ∙ put in absurd cc)
    (λ put. let no : false ≡ true = sym lacks ∙ put in absurd cc)
    (λ fails s. c.in_ok-add.ensures.rows s
    ∙ (ap (rows_with c.key-key.result.subject c.len-row.result s) (kind_rows_same s old _ refl refl refl refl)
    ∙ (ap (λ k. rows_with k.subject c.len-row.result s (kind_rows s old)) c.key-key.ensures
    ∙ ap (λ n. rows_with more.subject n s (kind_rows s old)) row))) in
    record {
      kinds = subst (λ f. AreKinds f (keys ++ more ∷ []) c.add.new.self.hashed (λ s. kind_rows s c.add.new.self)) (sym c.in_ok-add.ensures.fold)
          (subst (λ h. AreKinds old.fold (keys ++ more ∷ []) h (λ s. kind_rows s c.add.new.self)) (sym c.in_ok-add.ensures.hashed) kinds);
      lower = λ none. elim c.if-self.branch [
        | then-self w ↦ let no : true ≡ false = sym w.if-self.true ∙ sym w.self-is ∙ sym c.in_ok-add.ensures.capitals ∙ none in absurd cc
        | else-self w ↦
            let lower = are.lower w.if-self.false in
            let own = w.has_capital-self.ensures in
            let has = sym w.self-is ∙ sym c.in_ok-add.ensures.capitals ∙ none in
            grind (arith, nat_tests, lower_content, map-append, lower, own, has, c.key-key.ensures)
      ];
    }

pub returns-else-not-branch-clause-kinds : goal.returns-else-not-branch-clause-kinds
returns-else-not-branch-clause-kinds g c = λ keys are.
    let old = c.args.self.now in
    let more = g.K.Keyed.content c.args.line.now in
    let hashed = c.push.new.self in
    let put : c.in_ok-push.field-0 ≡ true = grind (arith, nat_tests, c.if-not-branch.false) in
    record {
      kinds = kinds_more old.fold keys more old.hashed hashed (λ s. kind_rows s old) _ c.in_ok-push.field-0
          are.kinds c.in_ok-push.ensures.counted c.in_ok-push.ensures.kept
          (λ is. subst (λ k. IsHashed old.fold k hashed (length keys)) c.key-key.ensures
          (subst (IsHashed old.fold (key_content c.key-key.result) hashed) are.kinds.counted (c.in_ok-push.ensures.put is)))
          (λ is s. kind_rows_same s old _ refl refl refl refl)
          (λ fails. let no : true ≡ false = sym put ∙ fails in absurd cc);
      lower = λ none. elim c.if-self.branch [
        | then-self w ↦ let no : true ≡ false = sym w.if-self.true ∙ sym w.self-is ∙ none in absurd cc
        | else-self w ↦
            let lower = are.lower w.if-self.false in
            let own = w.has_capital-self.ensures in
            let has = sym w.self-is ∙ none in
            grind (arith, nat_tests, lower_content, map-append, lower, own, has, c.key-key.ensures)
      ];
    }

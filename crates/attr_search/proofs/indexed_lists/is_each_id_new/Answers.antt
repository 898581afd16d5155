use Rattle.std.proofs.Common.{◌≡◌, ℕ, true, false, List, [], ◌∷◌, nat_eq, arith}
use Rattle.std.proofs.lemmas.Bool.Decides.{nat_tests}
use Rattle.std.proofs.lemmas.List.{nil_from_length}
use Rattle.std.proofs.lemmas.Map.Keys.{IsDistinct-cons, IsDistinct-head, IsDistinct-tail, IsDistinct-from_apart}
use Rattle.std.specs.List.{AllByRecursion, list_any}
use Rattle.attr_search.specs.declared.indexed_list.IndexedList.{IndexedList}
use Rattle.attr_search.specs.IndexedLists.{list_ids_of}
use Rattle.attr_search.proofs.indexed_lists.is_each_id_new.Goals as goal

abbrev AreOther : ℕ → List IndexedList → Type 0
AreOther id lists = AllByRecursion (λ other. nat_eq id other ≡ false) (list_ids_of lists)

all_other : (id : ℕ) (lists : List IndexedList) → list_any (λ (l : IndexedList). nat_eq l.list_id id) lists ≡ false → AreOther id lists
all_other id [] none = tt
all_other id (l ∷ ls) none = (grind (arith, nat_tests), all_other id ls (grind (arith, nat_tests)))

none_other : (id : ℕ) (lists : List IndexedList) → list_any (λ (l : IndexedList). nat_eq l.list_id id) lists ≡ true → AreOther id lists → ⊥
none_other id [] some others = absurd cc
none_other id (l ∷ ls) some others = none_other id ls (let o = others.0 in grind (arith, nat_tests)) others.1

pub loop-list-preserved : goal.loop-list-preserved
loop-list-preserved c =
    let list = c.in-Some.list.now in
    let later = c.in-Some.later.now in
    let split : c.loop-list.left.now ≡ list ∷ later = c.in-Some.ensures.cases.0 in
    let before = rw split at c.loop-list.invariant in
    let none : list_any (λ (l : IndexedList). nat_eq l.list_id list.list_id) later ≡ false = grind (arith, c.has_id.ensures, c.if-has_id.false) in (
      λ distinct. before.0 (IsDistinct-cons nat_eq list.list_id (list_ids_of later) (all_other list.list_id later none) distinct),
      λ distinct. IsDistinct-tail nat_eq list.list_id (list_ids_of later) (before.1 distinct),
    )

pub returns-then-has_id : goal.returns-then-has_id
returns-then-has_id c =
    let list = c.in-Some.list.now in
    let later = c.in-Some.later.now in
    let split : c.loop-list.left.now ≡ list ∷ later = c.in-Some.ensures.cases.0 in
    let before = rw split at c.loop-list.invariant in
    let some : list_any (λ (l : IndexedList). nat_eq l.list_id list.list_id) later ≡ true = grind (arith, c.has_id.ensures, c.if-has_id.true) in (
      λ t. absurd (grind (arith, t)),
      λ distinct. absurd (none_other list.list_id later some (IsDistinct-head nat_eq list.list_id (list_ids_of later) (before.1 distinct))),
    )

pub returns : goal.returns
returns c = grind (arith, nil_from_length, IsDistinct-from_apart)

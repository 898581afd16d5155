-- The slots after a search are the cut of the only stable table, and no others are.
use Rattle.std.proofs.Common.{◌≡◌, ℕ, suc, ◌+◌, ◌<◌, ◌⊎◌, List, [], ◌∷◌, ◌++◌, length, Option, Some, None, refl, inl, inr, ⊎_elim, arith, true, false}
use Rattle.std.specs.Prelude.{Contains, is_some, MatchOption, slice_index_or}
use Rattle.std.proofs.lemmas.Grind.{common_steps}
use Rattle.std.proofs.lemmas.Bool.{cases_eq, cases_Bool, and_parts}
use mathlib.Core.Path.{fun_ext}
use Rattle.attr_table.specs.Setting.{Item, Line, Setting, Answer}
use Rattle.attr_table.specs.Table.{Occurrence, Table, Slots, IsEarlier, IsStable}
use Rattle.attr_table.specs.Cut.{full_answer, IsKept, IsCutAt, IsCut, IsSearched, is_done}
use Rattle.attr_table.specs.shared.Walk.{Walks, tasks_of, left_in}
use Rattle.attr_table.proofs.Order.{first_irreflexive, first_trans, earlier_below}
use Rattle.attr_table.proofs.Stable.{some_or_none, some_value, none_value, entry_free}
use Rattle.attr_table.proofs.Facts.{Covers, empty_parts}
use Rattle.attr_table.proofs.Walked.{walk_from, fill_other, then_walks}
use Rattle.attr_table.proofs.Ends.{IsEnd, IsTurnedByWanted, roots_end, OneTable-of}
use Rattle.attr_table.proofs.Listed.{backwards-append}

-- a search that isn't done has a wanted attribute with no answer
pub not_done : (wanted : List ℕ) (slots : Slots) → is_done wanted slots ≡ false →
    (w : ℕ) × Contains wanted w × (slots w ≡ None)
not_done [] slots d = absurd (cc)
not_done (v ∷ wanted) slots d =
    ⊎_elim
    (λ (e : is_some (slots v) ≡ true).
    let r = not_done wanted slots (rw e at d) in
    (r.0, (suc r.1.0, omega arith, r.1.2), r.2))
    (λ (e : is_some (slots v) ≡ false). (v, (0, omega arith, refl), none_value (slots v) e))
    (cases_Bool (is_some (slots v)))

done_at : (wanted : List ℕ) (slots : Slots) → is_done wanted slots ≡ true → (w k : ℕ) → k < length wanted →
    slice_index_or wanted k w ≡ w → is_some (slots w) ≡ true
done_at (v ∷ wanted) slots d w (suc k) lt e = grind (arith, and_parts, done_at wanted slots)
done_at wanted slots d w k lt e = grind (arith, and_parts)

-- a search that is done has an answer for each wanted attribute
pub all_done : (wanted : List ℕ) (slots : Slots) → is_done wanted slots ≡ true → (w : ℕ) → Contains wanted w →
    (x : Answer) × (slots w ≡ Some x)
all_done wanted slots d w c = some_value (slots w) (done_at wanted slots d w c.0 c.1 c.2)

pub turned_by_wanted : (bodies : List (List Item)) (wanted : List ℕ) → IsTurnedByWanted bodies (is_done wanted) wanted
turned_by_wanted bodies wanted t slots before after = grind (arith, common_steps, not_done, all_done, fill_other, cases_eq)

-- the end of a walk for some wanted attributes, against any stable table
module _ (s : Setting) (start : Slots) (wanted : List ℕ) (final : Slots) (end : IsEnd s start (is_done wanted) wanted final) (table : Table)
    (stable : IsStable s start table) where
  within : (a : ℕ) (o : Occurrence) → end.table a ≡ Some o → table a ≡ Some o
  within = (end.facts.others table stable).within

  -- the slot of an attribute with no answer at the start
  slot_is : (a : ℕ) → start a ≡ None → final a ≡ full_answer s None (end.table a)
  slot_is a free = let e = end.facts.shown a in rw free at e

  kept_in : (a : ℕ) (o : Occurrence) → table a ≡ Some o → IsKept start table wanted o → end.table a ≡ Some o
  kept_in a o e kept =
      ⊎_elim
      (λ t. t)
      (λ (c : Covers end.nodes o). grind (arith, not_covered))
      ((end.facts.others table stable).covered a o e)
    where
      not_covered : Covers end.nodes o → is_done wanted final ≡ true → ⊥
      not_covered c done =
          ⊎_elim
          (λ (k : (w : ℕ) × Contains wanted w × (start w ≡ None) × (table w ≡ None)).
          let x = all_done wanted final done k.0 k.1 in
          grind (arith, slot_is k.0 k.2, within k.0, some_or_none (end.table k.0)))
          (λ (k : (w : ℕ) × (p : Occurrence) × Contains wanted w × (table w ≡ Some p) × ((o ≡ p) ⊎ IsEarlier o p)).
          let x = all_done wanted final done k.0 k.2 in
          let d = slot_is k.0 (entry_free s start table stable k.0 k.1 k.3) in
          ⊎_elim
          (λ (r : (p : Occurrence) × (end.table k.0 ≡ Some p)).
          let first = (end.facts.entries k.0 r.0 r.1).first c.0 c.1 in
          grind (arith, within k.0 r.0 r.1, earlier_below r.0 c.0.occurrence o first c.2, first_irreflexive, first_trans))
          (λ (n : end.table k.0 ≡ None). grind arith)
          (some_or_none (end.table k.0)))
          kept

  in_kept : (a : ℕ) (o : Occurrence) → end.table a ≡ Some o → IsKept start table wanted o
  in_kept a o e =
      ⊎_elim
      (λ (d : is_done wanted final ≡ false).
      let r = not_done wanted final d in
      grind (arith, empty_parts s start (is_done wanted) wanted end.table end.nodes final end.facts r.0 r.2, no_entry))
      (λ k. grind (arith, within))
      end.facts.last
    where
      no_entry : (w : ℕ) → end.table w ≡ None → is_done wanted final ≡ false → table w ≡ None
      no_entry w none d = grind (arith, some_or_none)

  pub end_cut : IsCut s start table wanted final
  end_cut a = grind (arith, within a, slot_is a, kept_in a, in_kept a, some_or_none)

  pub end_kept : (o : Occurrence) (a : ℕ) → table a ≡ Some o →
      IsKept start table wanted o ⊎ (IsKept start table wanted o → ⊥)
  end_kept o a e =
      ⊎_elim
      (λ (r : (p : Occurrence) × (end.table a ≡ Some p)). grind (arith, within a r.0 r.1, in_kept a r.0 r.1))
      (λ (n : end.table a ≡ None). inr (λ kept. grind (arith, kept_in a o e)))
      (some_or_none (end.table a))

-- a walk over all roots is a search
pub walked_searched : (s : Setting) (wanted : List ℕ) (start final : Slots) →
    Walks s.bodies (is_done wanted) (tasks_of s.lists) start final → IsSearched s wanted start final
walked_searched s wanted start final w =
    let one = OneTable-of s start in
    grind (arith, roots_end, turned_by_wanted, end_cut)

-- there is such a walk, so whether an entry is kept is decided
pub some_walk : (s : Setting) (wanted : List ℕ) (start : Slots) →
    (final : Slots) × Walks s.bodies (is_done wanted) (tasks_of s.lists) start final
some_walk s wanted start =
    let ts = tasks_of s.lists in
    walk_from s.bodies (is_done wanted) (length ts + left_in s.bodies start) ts start (omega arith)

kept_or_not : (s : Setting) (wanted : List ℕ) (start : Slots) (table : Table) → IsStable s start table →
    (a : ℕ) (o : Occurrence) → table a ≡ Some o →
    IsKept start table wanted o ⊎ (IsKept start table wanted o → ⊥)
kept_or_not s wanted start table stable a o e =
    let w = some_walk s wanted start in
    let end = roots_end s start (is_done wanted) wanted (turned_by_wanted s.bodies wanted) w.0 w.1 in
    end_kept s start wanted w.0 end table stable o a e

-- two cuts of a stable table are the same
same_cut : (s : Setting) (wanted : List ℕ) (start slots other : Slots) (table : Table) → IsStable s start table →
    IsCut s start table wanted slots → IsCut s start table wanted other → (a : ℕ) → slots a ≡ other a
same_cut s wanted start slots other table stable cut cut' a = at (start a) (cut a) (cut' a)
  where
    entry_at : (o : Option Occurrence) → table a ≡ o → IsCutAt s start table wanted o (slots a) →
        IsCutAt s start table wanted o (other a) → slots a ≡ other a
    entry_at None e x y = cc
    entry_at (Some o) e x y = grind (arith, kept_or_not s wanted start table stable a o e)

    at : (x : Option Answer) →
        MatchOption x (IsCutAt s start table wanted (table a) (slots a)) (λ x. slots a ≡ Some x) →
        MatchOption x (IsCutAt s start table wanted (table a) (other a)) (λ x. other a ≡ Some x) →
        slots a ≡ other a
    at x h y = grind (arith, entry_at)

pub same_searched : (s : Setting) (wanted : List ℕ) (start slots other : Slots) →
    IsSearched s wanted start slots → IsSearched s wanted start other → slots ≡ other
same_searched s wanted start slots other first second =
    let one = OneTable-of s start in
    let same : second.0 ≡ first.0 = let e = one.2 first.0 first.1 in let d = one.2 second.0 second.1 in cc in
    fun_ext (λ a. grind (arith, same_cut s wanted start slots other first.0 first.1 first.2))

-- a search is a walk
pub searched_walked : (s : Setting) (wanted : List ℕ) (start slots : Slots) → IsSearched s wanted start slots →
    Walks s.bodies (is_done wanted) (tasks_of s.lists) start slots
searched_walked s wanted start slots searched =
    let w = some_walk s wanted start in
    grind (arith, same_searched s wanted start w.0 slots (walked_searched s wanted start w.0 w.1) searched)

-- one search after another is a search over the joined lists
pub searched_joined : (first second : List (List Line)) (bodies : List (List Item)) (wanted : List ℕ) (start middle slots : Slots) →
    IsSearched (record { lists = first; bodies = bodies }) wanted start middle →
    IsSearched (record { lists = second; bodies = bodies }) wanted middle slots →
    IsSearched (record { lists = second ++ first; bodies = bodies }) wanted start slots
searched_joined first second bodies wanted start middle slots p q =
    let one = searched_walked (record { lists = first; bodies = bodies }) wanted start middle p in
    let two = searched_walked (record { lists = second; bodies = bodies }) wanted middle slots q in
    let w = then_walks bodies (is_done wanted) (tasks_of first) (tasks_of second) start middle slots one two in
    grind (arith, walked_searched, backwards-append)

-- an attribute's slot has its answer by the whole table, or is empty though it isn't wanted
pub seen_wanted : (s : Setting) (start : Slots) (wanted : List ℕ) (table : Table) (slots : Slots) (a : ℕ) →
    IsStable s start table → IsCut s start table wanted slots → Contains wanted a →
    slots a ≡ full_answer s (start a) (table a)
seen_wanted s start wanted table slots a stable cut contains = at (start a) (cut a)
  where
    entry_at : (o : Option Occurrence) → table a ≡ o → IsCutAt s start table wanted o (slots a) →
        slots a ≡ full_answer s None o
    entry_at None e x = x
    entry_at (Some o) e x = x.0 (inr (a, o, contains, e, inl refl))

    at : (x : Option Answer) →
        MatchOption x (IsCutAt s start table wanted (table a) (slots a)) (λ x. slots a ≡ Some x) →
        slots a ≡ full_answer s x (table a)
    at x h = grind (arith, entry_at)

pub seen_others : (s : Setting) (start : Slots) (wanted : List ℕ) (table : Table) (slots : Slots) (a : ℕ) →
    IsStable s start table → IsCut s start table wanted slots →
    (slots a ≡ None) ⊎ (slots a ≡ full_answer s (start a) (table a))
seen_others s start wanted table slots a stable cut = at (start a) (cut a)
  where
    entry_at : (o : Option Occurrence) → table a ≡ o → IsCutAt s start table wanted o (slots a) →
        (slots a ≡ None) ⊎ (slots a ≡ full_answer s None o)
    entry_at None e x = inl x
    entry_at (Some o) e x = grind (arith, kept_or_not s wanted start table stable a o e)

    at : (x : Option Answer) →
        MatchOption x (IsCutAt s start table wanted (table a) (slots a)) (λ x. slots a ≡ Some x) →
        (slots a ≡ None) ⊎ (slots a ≡ full_answer s x (table a))
    at x h = grind (arith, entry_at)

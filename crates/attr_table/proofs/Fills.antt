-- A walk fills the slot of a task whose attribute has no answer.
use Rattle.std.proofs.Common.{arith, ◌≡◌, ℕ, ◌⊎◌, List, ◌∷◌, ◌++◌, Some, None, refl, inl, inr, ⊎_elim, Bool, true, eqb}
use Rattle.std.specs.Prelude.{Contains, if◌then◌else◌}
use Rattle.std.proofs.lemmas.Bool.{cases_eq, eq-eqb, ne_eqb, cases_Bool}
use Rattle.attr_table.specs.Setting.{Item, Setting}
use Rattle.attr_table.specs.Table.{Occurrence, Root, Inside, Table, Slots, item_at, IsEarlier, IsReached, IsLive, IsStable}
use Rattle.attr_table.specs.Cut.{full_answer}
use Rattle.attr_table.specs.shared.Walk.{fill}
use Rattle.attr_table.proofs.Listed.{Mem, mem_cases, mem_left, mem_right, IsOrdered, ordered_append}
use Rattle.attr_table.proofs.Order.{Below, below_child, below_later, first_irreflexive, first_trans, first_beginning, parts_first, parts_left}
use Rattle.attr_table.proofs.Order.{parts_below}
use Rattle.attr_table.proofs.Stable.{entry_is, entry_of, above_live}
use Rattle.attr_table.proofs.Nodes.{Node, IsNode, PartsAt, node_answer, child_nodes, child_is, child_in, children_ordered}
use Rattle.attr_table.proofs.Facts.{Facts, IsEntry, IsWithin, IsLast, Waits, Covers, IsSettled, empty_parts}

-- one more entry
abbrev pub with_entry : Table → ℕ → Occurrence → Table
with_entry table a o b = if eqb b a then Some o else table b

-- a table keeps an attribute's entry as it grows
pub reached_still : (s : Setting) (table other : Table) → IsWithin table other → (o : Occurrence) →
    IsReached s table o → IsReached s other o
reached_still s table other within o r = grind arith

module _ (s : Setting) (start : Slots) (done : Slots → Bool) (wanted : List ℕ) (table : Table) (h : Node) (nodes : List Node) (slots : Slots)
    (facts : Facts s start done wanted table (h ∷ nodes) slots) (empty : slots h.task.item.attribute ≡ None) where
  free : start h.task.item.attribute ≡ None
  free = (empty_parts s start done wanted table (h ∷ nodes) slots facts h.task.item.attribute empty).0

  no_entry : table h.task.item.attribute ≡ None
  no_entry = (empty_parts s start done wanted table (h ∷ nodes) slots facts h.task.item.attribute empty).1

  next : Table
  next = with_entry table h.task.item.attribute h.occurrence

  next_same : next h.task.item.attribute ≡ Some h.occurrence
  unfolding next
  next_same = let e = eq-eqb h.task.item.attribute h.task.item.attribute refl in rw e refl

  next_other : (a : ℕ) → (a ≡ h.task.item.attribute → ⊥) → next a ≡ table a
  unfolding next
  next_other a ne = let e = ne_eqb a h.task.item.attribute ne in rw e refl

  -- an entry of the next table is the node's, or was there before
  next_cases : (a : ℕ) (o : Occurrence) → next a ≡ Some o →
      ((a ≡ h.task.item.attribute) × (o ≡ h.occurrence)) ⊎ (table a ≡ Some o)
  next_cases a o e = grind (arith, next_same, next_other, cases_eq)

  within : IsWithin table next
  within a o e = grind (arith, no_entry, next_other, cases_eq)

  more : List Node
  more = child_nodes s.bodies h ++ nodes

  mem_more : (n : Node) → Mem n more → Mem n (child_nodes s.bodies h) ⊎ Mem n nodes
  unfolding more
  mem_more n m = mem_cases n (child_nodes s.bodies h) nodes m

  is : IsNode s h
  is = facts.nodes_are h (inl refl)

  h_live : IsLive s table h.occurrence h.task.item
  h_live = record { item = is.item; reached = facts.reached h (inl refl) }

  nodes_are : (n : Node) → Mem n more → IsNode s n
  nodes_are n m =
      ⊎_elim (λ a. (child_is s h n is a).2) (λ b. facts.nodes_are n (inr b)) (mem_more n m)

  reached : (n : Node) → Mem n more → IsReached s next n.occurrence
  reached n m =
      let k = mem_more n m in
      grind (arith, child_is s h n is, next_same, is, reached_still, within)

  ordered : IsOrdered PartsAt more
  unfolding more
  ordered =
      ordered_append PartsAt (child_nodes s.bodies h) nodes (children_ordered s.bodies h) facts.ordered.1
      (λ c n a b. grind (arith, child_is s h c is a, parts_left))

  -- the node's occurrence comes before all nodes that are left
  first : (n : Node) → Mem n more → IsEarlier h.occurrence n.occurrence
  first n m = grind (arith, child_is s h n is, mem_more n m, first_beginning, parts_first)

  entries : (a : ℕ) (o : Occurrence) → next a ≡ Some o → IsEntry s start next more a o
  entries a o e =
      ⊎_elim
      (λ (d : (a ≡ h.task.item.attribute) × (o ≡ h.occurrence)). grind (arith, is, reached_still, within, h_live, free, first))
      (λ d.
      let r = facts.entries a o d in
      let live : IsLive s next o r.item = record { item = r.live.item; reached = reached_still s table next within o r.live.reached } in
      grind (arith, r, first_trans, first))
      (next_cases a o e)

  -- what is settled stays so
  settled_still : (o : Occurrence) (a : ℕ) → IsSettled start table o a → IsSettled start next o a
  settled_still o a k = ⊎_elim (λ x. inl x) (λ r. inr (r.0, within a r.0 r.1, r.2)) k

  -- a live occurrence is a node or is settled
  met_before : (o : Occurrence) (i : Item) → IsLive s table o i → Waits o more ⊎ IsSettled start next o i.attribute
  unfolding more
  met_before o i live =
      ⊎_elim
      (λ (w : Waits o (h ∷ nodes)).
      ⊎_elim
      (λ (d : w.0 ≡ h).
      let same : i ≡ h.task.item = grind (arith, is) in
      inr (inr (h.occurrence, rw same next_same, grind arith)))
      (λ m. inl (w.0, mem_right w.0 (child_nodes s.bodies h) nodes m, w.2))
      w.1)
      (λ k. inr (settled_still o i.attribute k))
      (facts.met o i live)

  met : (o : Occurrence) (i : Item) → IsLive s next o i → Waits o more ⊎ IsSettled start next o i.attribute
  unfolding more
  met (Root list line item) i live = met_before (Root list line item) i (record { item = live.item; reached = tt })
  met (Inside parent index) i live =
      let r = live.reached in
      ⊎_elim
      (λ (d : (r.0.attribute ≡ h.task.item.attribute) × (parent ≡ h.occurrence)). grind (arith, child_in s h index i is, is, mem_left))
      (λ (d : table r.0.attribute ≡ Some parent).
      met_before (Inside parent index) i (record { item = live.item; reached = (r.0, r.1, r.2, d) }))
      (next_cases r.0.attribute parent r.3)

  shown : (a : ℕ) → fill s.bodies h.task slots a ≡ full_answer s (start a) (next a)
  shown a = grind (arith, eq-eqb, next_same, free, node_answer, is, ne_eqb, next_other, cases_eq)

  -- the nodes cover no occurrence that is earlier than the node's
  covered_later : (o : Occurrence) → Covers (h ∷ nodes) o → (h.occurrence ≡ o) ⊎ IsEarlier h.occurrence o
  covered_later o c = grind (arith, below_later, parts_first, parts_below)

  module _ (other : Table) (stable : IsStable s start other) where
    -- each stable table has the node's occurrence as its attribute's entry
    is_entry : other h.task.item.attribute ≡ Some h.occurrence
    is_entry =
        let agrees = facts.others other stable in
        let live : IsLive s other h.occurrence h.task.item = grind (arith, reached_still, h_live) in
        let r = entry_of s start other stable h.task.item.attribute h.occurrence h.task.item free live refl in
        ⊎_elim
        (λ (d : r.0 ≡ h.occurrence). grind (arith, r.1))
        (λ (earlier : IsEarlier r.0 h.occurrence).
        let c = agrees.covered h.task.item.attribute r.0 r.1 in
        grind (arith, no_entry, covered_later r.0, first_irreflexive, first_trans))
        r.2

    other_within : IsWithin next other
    other_within a o e = grind (arith, is_entry, within, next_cases)

    -- an entry inside the node's occurrence is covered by a child
    inside_covered : (o : Occurrence) → IsReached s other o → (i : Item) → item_at s o ≡ Some i → Below h.occurrence o →
        Covers more o
    unfolding more
    inside_covered o reached i item b =
        let r = below_child h.occurrence o b in
        grind (arith, above_live s start other stable, child_in s h, is, mem_left)

    other_covered : (a : ℕ) (o : Occurrence) → other a ≡ Some o → (next a ≡ Some o) ⊎ Covers more o
    unfolding more
    other_covered a o e =
        let c = (facts.others other stable).covered a o e in
        grind (arith, entry_is, within, is, next_same, inside_covered, mem_right)

  module _ (turns : done (fill s.bodies h.task slots) ≡ true → Contains wanted h.task.item.attribute) where
    last : IsLast done wanted next (fill s.bodies h.task slots)
    last =
        ⊎_elim
        (λ (d : done (fill s.bodies h.task slots) ≡ true).
        let latest : (a : ℕ) (o : Occurrence) → next a ≡ Some o → (o ≡ h.occurrence) ⊎ IsEarlier o h.occurrence =
        λ a o e. ⊎_elim (λ r. inl r.1) (λ t. inr ((facts.entries a o t).first h (inl refl))) (next_cases a o e) in
        grind (arith, turns, next_same, latest))
        (λ d. inl d)
        (cases_Bool (done (fill s.bodies h.task slots)))

    pub filled : (after : Table) × Facts s start done wanted after (child_nodes s.bodies h ++ nodes) (fill s.bodies h.task slots)
    unfolding more
    filled = (
      next,
      record {
        nodes_are = nodes_are;
        reached = reached;
        ordered = ordered;
        entries = entries;
        met = met;
        others = λ other stable. record {
          within = other_within other stable;
          covered = other_covered other stable;
        };
        shown = shown;
        last = last;
      },
    )

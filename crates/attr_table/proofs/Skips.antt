-- A walk goes past a task whose attribute has an answer.
use Rattle.std.proofs.Common.{arith, ◌≡◌, ℕ, ◌⊎◌, List, ◌∷◌, Some, None, inl, inr, ⊎_elim, Bool, true}
use Rattle.std.specs.Prelude.{is_some}
use Rattle.attr_table.specs.Setting.{Item, Setting, Answer}
use Rattle.attr_table.specs.Table.{Occurrence, Table, Slots, item_at, IsEarlier, IsLive, IsStable}
use Rattle.attr_table.proofs.Order.{Below, first_irreflexive}
use Rattle.attr_table.proofs.Stable.{some_or_none, some_value, entry_is, stable_taken, above_live}
use Rattle.attr_table.proofs.Nodes.{Node}
use Rattle.attr_table.proofs.Facts.{Facts, Waits, Covers, IsSettled}

module _ (s : Setting) (start : Slots) (done : Slots → Bool) (wanted : List ℕ) (table : Table) (h : Node) (nodes : List Node) (slots : Slots)
    (facts : Facts s start done wanted table (h ∷ nodes) slots) (filled : is_some (slots h.task.item.attribute) ≡ true) where
  -- the attribute of the node is settled
  settled : IsSettled start table h.occurrence h.task.item.attribute
  settled =
      ⊎_elim
      (λ (r : (x : Answer) × (start h.task.item.attribute ≡ Some x)). inl r)
      (λ (free : start h.task.item.attribute ≡ None).
      ⊎_elim
      (λ (r : (p : Occurrence) × (table h.task.item.attribute ≡ Some p)). grind (arith, facts.entries h.task.item.attribute r.0 r.1))
      (λ (none : table h.task.item.attribute ≡ None). grind (arith, some_value, facts.shown))
      (some_or_none (table h.task.item.attribute)))
      (some_or_none (start h.task.item.attribute))

  met : (o : Occurrence) (i : Item) → IsLive s table o i → Waits o nodes ⊎ IsSettled start table o i.attribute
  met o i live = grind (arith, facts.met o i live, settled, facts.nodes_are)

  -- a stable table has no new entry at the node or inside it
  module _ (other : Table) (stable : IsStable s start other) where
    not_entry : other h.task.item.attribute ≡ Some h.occurrence → ⊥
    not_entry e =
        ⊎_elim
        (λ (r : (x : Answer) × (start h.task.item.attribute ≡ Some x)). grind (arith, stable_taken))
        (λ (r : (p : Occurrence) × (table h.task.item.attribute ≡ Some p) × ((p ≡ h.occurrence) ⊎ IsEarlier p h.occurrence)).
        grind (arith, facts.others other stable, facts.entries h.task.item.attribute r.0 r.1, first_irreflexive))
        settled

    not_here : (o : Occurrence) (i : Item) → item_at s o ≡ Some i → o ≡ h.occurrence → other i.attribute ≡ Some o → ⊥
    not_here o i item at e = grind (arith, not_entry, facts.nodes_are)

    covered : (a : ℕ) (o : Occurrence) → other a ≡ Some o → (table a ≡ Some o) ⊎ Covers nodes o
    covered a o e =
        ⊎_elim
        (λ t. inl t)
        (λ (c : Covers (h ∷ nodes) o). ⊎_elim (λ d. absurd (at c.0 d c.2)) (λ m. inr (c.0, m, c.2)) c.1)
        ((facts.others other stable).covered a o e)
      where
        at : (n : Node) → n ≡ h → (n.occurrence ≡ o) ⊎ Below n.occurrence o → ⊥
        at n d c = grind (arith, entry_is s start other stable a o e, not_here, above_live s start other stable)

  pub skipped : Facts s start done wanted table nodes slots
  skipped =
      record {
        nodes_are = λ n m. facts.nodes_are n (inr m);
        reached = λ n m. facts.reached n (inr m);
        ordered = facts.ordered.1;
        entries = λ a o e.
            let r = facts.entries a o e in
            record { item = r.item; live = r.live; of = r.of; free = r.free; first = λ n m. r.first n (inr m) };
        met = met;
        others = λ other stable. grind (arith, covered other, facts.others);
        shown = facts.shown;
        last = facts.last;
      }

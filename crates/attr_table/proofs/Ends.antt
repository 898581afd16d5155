-- The end of a walk over all roots.
use Rattle.std.proofs.Common.{◌≡◌, ℕ, ◌+◌, ◌⊎◌, List, [], ◌∷◌, map, length, Option, Some, None, refl, subst, ⊎_elim, arith, Bool, true, false}
use Rattle.std.specs.Prelude.{Contains, MatchOption}
use Rattle.std.proofs.lemmas.List.{map-append}
use mathlib.Core.Path.{fun_ext}
use Rattle.attr_table.specs.Setting.{Item, Setting, Answer}
use Rattle.attr_table.specs.Table.{Occurrence, Table, Slots, IsEarlier, IsLive, IsEarliest, IsStable, OneTable}
use Rattle.attr_table.specs.shared.Walk.{Task, Walks, ends, stops, skips, fills, tasks_of, fill, left_in}
use Rattle.attr_table.proofs.Stable.{some_or_none, none_value}
use Rattle.attr_table.proofs.Nodes.{Node, task_at, nodes_of, map-nodes_of, map-child_nodes}
use Rattle.attr_table.proofs.Facts.{Facts, no_entries, at_start}
use Rattle.attr_table.proofs.Skips.{skipped}
use Rattle.attr_table.proofs.Fills.{filled}
use Rattle.attr_table.proofs.Walked.{walk_from}

-- no node is left, or the walk is done
pub record IsEnd (s : Setting) (start : Slots) (done : Slots → Bool) (wanted : List ℕ) (final : Slots) : Type 0 where
  pub table : Table
  pub nodes : List Node
  pub facts : Facts s start done wanted table nodes final
  pub over : (nodes ≡ []) ⊎ (done final ≡ true)

-- only a wanted attribute ends the walk
abbrev pub IsTurnedByWanted : List (List Item) → (Slots → Bool) → List ℕ → Type 0
IsTurnedByWanted bodies done wanted =
    (t : Task) (slots : Slots) → done slots ≡ false → done (fill bodies t slots) ≡ true → Contains wanted t.item.attribute

end_of : (s : Setting) (start : Slots) (done : Slots → Bool) (wanted : List ℕ) → IsTurnedByWanted s.bodies done wanted →
    {ts : List Task} {slots final : Slots} → Walks s.bodies done ts slots final →
    (table : Table) (nodes : List Node) → map task_at nodes ≡ ts → Facts s start done wanted table nodes slots →
    IsEnd s start done wanted final
end_of s start done wanted turns ends table [] e facts = grind arith
end_of s start done wanted turns (stops d) table nodes e facts = grind arith
end_of s start done wanted turns (skips {t = t} {slots = slots} f w) table (h ∷ nodes) e facts =
    grind (arith, skipped s start done wanted table h nodes slots facts, end_of s start done wanted turns w table nodes)
end_of s start done wanted turns (fills {t = t} {ts = ts} {slots = slots} d f w) table (h ∷ nodes) e facts =
    let same : h.task ≡ t = cc in
    let r = filled s start done wanted table h nodes slots facts (rw same (none_value (slots t.item.attribute) f)) (turns h.task slots d) in
    grind (arith, map-append, map-child_nodes, end_of s start done wanted turns w r.0)
end_of s start done wanted turns nodes table t e facts = absurd (cc)

pub roots_end : (s : Setting) (start : Slots) (done : Slots → Bool) (wanted : List ℕ) → IsTurnedByWanted s.bodies done wanted →
    (final : Slots) → Walks s.bodies done (tasks_of s.lists) start final → IsEnd s start done wanted final
roots_end s start done wanted turns final w =
    end_of s start done wanted turns w no_entries (nodes_of s.lists) (map-nodes_of s.lists) (at_start s start done wanted)

-- if no node is left, the table is stable
stable_of : (s : Setting) (start : Slots) (done : Slots → Bool) (wanted : List ℕ) (table : Table) (slots : Slots) →
    Facts s start done wanted table [] slots → IsStable s start table
stable_of s start done wanted table slots facts a = at (start a) refl
  where
    settled : (p : Occurrence) (i : Item) → start a ≡ None → IsLive s table p i → i.attribute ≡ a →
        (q : Occurrence) × (table a ≡ Some q) × ((q ≡ p) ⊎ IsEarlier q p)
    settled p i free live of = grind (arith, facts.met p i live)

    earliest : (o : Option Occurrence) → start a ≡ None → table a ≡ o → IsEarliest s table a o
    earliest None free e = λ o i live of. let r = settled o i free live of in let d = r.1 in cc
    earliest (Some o) free e =
        let entry = facts.entries a o e in
        ((entry.item, entry.live, entry.of), λ p i live of. grind (arith, settled p i))

    at : (x : Option Answer) → start a ≡ x →
        MatchOption x (IsEarliest s table a (table a)) (λ answer. table a ≡ None)
    at None free = earliest (table a) free refl
    at (Some x) e =
        ⊎_elim
        (λ (r : (o : Occurrence) × (table a ≡ Some o)).
        let f = (facts.entries a r.0 r.1).free in absurd (cc))
        (λ (n : table a ≡ None). n)
        (some_or_none (table a))

-- a walk that is never done
abbrev pub never : Slots → Bool
never slots = false

whole : (s : Setting) (start : Slots) (table : Table) (nodes : List Node) (slots : Slots) →
    Facts s start never [] table nodes slots → nodes ≡ [] → OneTable s start
whole s start table nodes slots facts none = (
  table,
  stable_of s start never [] table slots clear,
  λ other stable. fun_ext (λ a. same other stable a),
)
  where
    clear : Facts s start never [] table [] slots
    clear = subst (λ (x : List Node). Facts s start never [] table x slots) none facts

    same : (other : Table) → IsStable s start other → (a : ℕ) → other a ≡ table a
    same other stable a = grind (arith, clear, some_or_none)

pub OneTable-of : (s : Setting) (start : Slots) → OneTable s start
OneTable-of s start =
    let ts = tasks_of s.lists in
    let w = walk_from s.bodies never (length ts + left_in s.bodies start) ts start (omega arith) in
    let end = roots_end s start never [] (λ t slots d e. absurd (cc)) w.0 w.1 in
    whole s start end.table end.nodes w.0 end.facts (grind (arith, end.over))

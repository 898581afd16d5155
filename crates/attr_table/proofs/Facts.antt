-- Facts at each point of a walk.
use Rattle.std.proofs.Common.{arith, ◌≡◌, ℕ, ◌⊎◌, List, Some, None, ⊎_elim, Bool, false}
use Rattle.std.specs.Prelude.{Contains}
use Rattle.attr_table.specs.Setting.{Item, Setting, Answer}
use Rattle.attr_table.specs.Table.{Occurrence, Root, Inside, Table, Slots, item_at, IsEarlier, IsReached, IsLive, IsStable}
use Rattle.attr_table.specs.Cut.{full_answer}
use Rattle.attr_table.proofs.Listed.{Mem, IsOrdered}
use Rattle.attr_table.proofs.Order.{Below}
use Rattle.attr_table.proofs.Stable.{some_or_none, entry_is, answered}
use Rattle.attr_table.proofs.Nodes.{Node, IsNode, PartsAt, nodes_of, root_in, root_node, roots_ordered}

-- some node is that of the occurrence
abbrev pub Waits : Occurrence → List Node → Type 0
Waits o nodes = (n : Node) × Mem n nodes × (n.occurrence ≡ o)

-- some node is that of the occurrence, or above it
abbrev pub Covers : List Node → Occurrence → Type 0
Covers nodes o = (n : Node) × Mem n nodes × ((n.occurrence ≡ o) ⊎ Below n.occurrence o)

-- an attribute is settled by the start, or by an entry that is not later than an occurrence
abbrev pub IsSettled : Slots → Table → Occurrence → ℕ → Type 0
IsSettled start table o a =
    ((x : Answer) × (start a ≡ Some x))
    ⊎ ((p : Occurrence) × (table a ≡ Some p) × ((p ≡ o) ⊎ IsEarlier p o))

-- an entry is live, was free at the start, and comes before all nodes
pub record IsEntry (s : Setting) (start : Slots) (table : Table) (nodes : List Node) (a : ℕ) (o : Occurrence) : Type 0 where
  pub item : Item
  pub live : IsLive s table o item
  pub of : item.attribute ≡ a
  pub free : start a ≡ None
  pub first : (n : Node) → Mem n nodes → IsEarlier o n.occurrence

-- all entries are in another table
abbrev pub IsWithin : Table → Table → Type 0
IsWithin table other = (a : ℕ) (o : Occurrence) → table a ≡ Some o → other a ≡ Some o

-- each stable table has the entries so far, and the nodes cover its others
pub record Agrees (other table : Table) (nodes : List Node) : Type 0 where
  pub within : IsWithin table other
  pub covered : (a : ℕ) (o : Occurrence) → other a ≡ Some o → (table a ≡ Some o) ⊎ Covers nodes o

-- the walk is not done, or has no entry yet, or its latest entry is that of a wanted attribute
abbrev pub IsLast : (Slots → Bool) → List ℕ → Table → Slots → Type 0
IsLast done wanted table slots =
    (done slots ≡ false)
    ⊎ (((a : ℕ) → table a ≡ None)
    ⊎ ((w : ℕ) × (p : Occurrence) × Contains wanted w × (table w ≡ Some p)
    × ((a : ℕ) (o : Occurrence) → table a ≡ Some o → (o ≡ p) ⊎ IsEarlier o p)))

pub record Facts (s : Setting) (start : Slots) (done : Slots → Bool) (wanted : List ℕ) (table : Table) (nodes : List Node) (slots : Slots) : Type 0
  where
    pub nodes_are : (n : Node) → Mem n nodes → IsNode s n
    pub reached : (n : Node) → Mem n nodes → IsReached s table n.occurrence
    pub ordered : IsOrdered PartsAt nodes
    pub entries : (a : ℕ) (o : Occurrence) → table a ≡ Some o → IsEntry s start table nodes a o
    pub met : (o : Occurrence) (i : Item) → IsLive s table o i → Waits o nodes ⊎ IsSettled start table o i.attribute
    pub others : (other : Table) → IsStable s start other → Agrees other table nodes
    pub shown : (a : ℕ) → slots a ≡ full_answer s (start a) (table a)
    pub last : IsLast done wanted table slots

-- an empty slot was empty at the start and has no entry
pub empty_parts : (s : Setting) (start : Slots) (done : Slots → Bool) (wanted : List ℕ) (table : Table) (nodes : List Node) (slots : Slots) →
    Facts s start done wanted table nodes slots → (a : ℕ) → slots a ≡ None → (start a ≡ None) × (table a ≡ None)
empty_parts s start done wanted table nodes slots facts a empty =
    let e = facts.shown a in
    ⊎_elim
    (λ (r : (p : Occurrence) × (table a ≡ Some p)). grind (arith, answered, facts.entries a r.0 r.1))
    (λ (n : table a ≡ None). grind (arith, some_or_none))
    (some_or_none (table a))

-- no entry
abbrev pub no_entries : Table
no_entries a = None

pub root_above : (s : Setting) (o : Occurrence) (i : Item) → item_at s o ≡ Some i → Covers (nodes_of s.lists) o
root_above s (Root list line item) i e = grind (arith, root_in)
root_above s (Inside parent index) i e = grind (arith, some_or_none, root_above s parent)

-- as a walk over all roots begins
pub at_start : (s : Setting) (start : Slots) (done : Slots → Bool) (wanted : List ℕ) →
    Facts s start done wanted no_entries (nodes_of s.lists) start
at_start s start done wanted = grind (arith, root_node, roots_ordered, entry_is, root_above)

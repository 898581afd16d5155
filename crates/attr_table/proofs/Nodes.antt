-- Nodes: tasks with their occurrences.
use Rattle.std.proofs.Common.{arith, ◌≡◌, ℕ, List, [], ◌∷◌, map, Some, None, refl, inl, Bool, true, false}
use Rattle.std.specs.Prelude.{slice_get, if◌then◌else◌}
use Rattle.attr_table.specs.Setting.{Set, Item, Line, Origin, Setting, body_of}
use Rattle.attr_table.specs.Table.{Occurrence, Root, Inside, path, item_at}
use Rattle.attr_table.specs.Cut.{origin_at, cause_at, answer_of, answer_at}
use Rattle.attr_table.specs.shared.Walk.{Task, list_tasks, tasks_of, expands, opened}
use Rattle.attr_table.proofs.Listed.{Mem, backward, mem_backward, backward_mem, map-backward, IsOrdered, ordered_backward}
use Rattle.attr_table.proofs.Order.{Parts, parts_last}

pub record Node : Type 0 where
  pub occurrence : Occurrence
  pub task : Task

-- the task is that of the occurrence
pub record IsNode (s : Setting) (n : Node) : Type 0 where
  pub item : item_at s n.occurrence ≡ Some n.task.item
  pub origin : origin_at s n.occurrence ≡ Some n.task.origin
  pub cause : cause_at s n.occurrence ≡ n.task.cause

abbrev pub task_at : Node → Task
task_at n = n.task

-- the answer of a node's occurrence is that of its task
pub node_answer : (s : Setting) (n : Node) → IsNode s n →
    answer_at s n.occurrence ≡ Some (answer_of s.bodies n.task.origin n.task.item n.task.cause)
node_answer s n is = grind arith

-- the first node comes before the second, with all that is inside either
abbrev pub PartsAt : Node → Node → Type 0
PartsAt m n = Parts (path m.occurrence) (path n.occurrence)

abbrev pub item_node : ℕ → ℕ → Origin → ℕ → Item → List Node
item_node list line origin k i =
    record { occurrence = Root list line k; task = record { origin = origin; item = i; cause = None } } ∷ []

abbrev pub line_nodes : ℕ → ℕ → Line → List Node
line_nodes list line l = backward (item_node list line l.origin) l.items

abbrev pub list_nodes : ℕ → List Line → List Node
list_nodes list lines = backward (line_nodes list) lines

-- the nodes of all roots, the earliest first
abbrev pub nodes_of : List (List Line) → List Node
nodes_of lists = backward list_nodes lists

pub map-nodes_of : (lists : List (List Line)) → map task_at (nodes_of lists) ≡ tasks_of lists
map-nodes_of lists =
    map-backward task_at list_nodes list_tasks lists
    (λ k lines. grind (arith, map-backward))

pub root_in : (s : Setting) (list line item : ℕ) (i : Item) → item_at s (Root list line item) ≡ Some i →
    (n : Node) × Mem n (nodes_of s.lists) × (n.occurrence ≡ Root list line item)
root_in s list line item i e =
    let n : Node = record { occurrence = Root list line item; task = record { origin = parts.1.origin; item = i; cause = None } } in (
      n,
      backward_mem list_nodes s.lists list parts.0 n parts.2
          (backward_mem (line_nodes list) parts.0 line parts.1 n parts.3
          (backward_mem (item_node list line parts.1.origin) parts.1.items item i n parts.4 (inl refl))),
      refl,
    )
  where
    parts : (lines : List Line) × (l : Line) × (slice_get s.lists list ≡ Some lines) × (slice_get lines line ≡ Some l)
        × (slice_get l.items item ≡ Some i)
    parts = grind arith

-- the occurrences of the nodes of a line and of a list
pub item_occurrence : (list line k : ℕ) (origin : Origin) (i : Item) (n : Node) → Mem n (item_node list line origin k i) →
    n.occurrence ≡ Root list line k
item_occurrence list line k origin i n m = grind arith

line_occurrence : (list line : ℕ) (l : Line) (n : Node) → Mem n (line_nodes list line l) →
    (item : ℕ) × (n.occurrence ≡ Root list line item)
line_occurrence list line l n m = grind (arith, mem_backward, item_occurrence)

list_occurrence : (list : ℕ) (lines : List Line) (n : Node) → Mem n (list_nodes list lines) →
    (line item : ℕ) × (n.occurrence ≡ Root list line item)
list_occurrence list lines n m = grind (arith, mem_backward, line_occurrence)

pub root_node : (s : Setting) (n : Node) → Mem n (nodes_of s.lists) →
    (list line item : ℕ) × (n.occurrence ≡ Root list line item) × IsNode s n
root_node s n m = grind (arith, mem_backward, item_occurrence)

pub roots_ordered : (lists : List (List Line)) → IsOrdered PartsAt (nodes_of lists)
roots_ordered lists =
    ordered_backward PartsAt list_nodes lists
    (λ k lines e. ordered_backward PartsAt (line_nodes k) lines
    (λ j l d. ordered_backward PartsAt (item_node k j l.origin) l.items
    (λ n i f. (λ y m. absurd m, tt))
    (λ m n x y u v lt a b. grind (arith, item_occurrence)))
    (λ m n x y u v lt a b. grind (arith, line_occurrence)))
    (λ m n x y u v lt a b. grind (arith, list_occurrence))

-- the nodes of the body of a node's attribute, the earliest first
abbrev pub child_node : Node → ℕ → Item → List Node
child_node n k i =
    record {
      occurrence = Inside n.occurrence k;
      task = record { origin = n.task.origin; item = i; cause = Some n.task.item.attribute };
    } ∷ []

abbrev pub child_nodes : List (List Item) → Node → List Node
child_nodes bodies n =
    if expands n.task.item.state
    then backward (child_node n) (body_of bodies n.task.item.attribute)
    else []

pub map-child_nodes : (bodies : List (List Item)) (n : Node) → map task_at (child_nodes bodies n) ≡ opened bodies n.task
map-child_nodes bodies n = grind (arith, map-backward)

-- facts of the node of an item in a body
pub child_is : (s : Setting) (n c : Node) → IsNode s n → Mem c (child_nodes s.bodies n) →
    (k : ℕ) × (c.occurrence ≡ Inside n.occurrence k) × IsNode s c × (n.task.item.state ≡ Set)
child_is s n c is m = grind (arith, mem_backward)

pub child_in : (s : Setting) (n : Node) (k : ℕ) (i : Item) → IsNode s n → n.task.item.state ≡ Set →
    item_at s (Inside n.occurrence k) ≡ Some i →
    (c : Node) × Mem c (child_nodes s.bodies n) × (c.occurrence ≡ Inside n.occurrence k)
child_in s n k i is set e =
    let c : Node = record {
      occurrence = Inside n.occurrence k;
      task = record { origin = n.task.origin; item = i; cause = Some n.task.item.attribute };
    } in
    (c, grind (arith, backward_mem (child_node n) (body_of s.bodies n.task.item.attribute) k i c), refl)

pub children_ordered : (bodies : List (List Item)) (n : Node) → IsOrdered PartsAt (child_nodes bodies n)
children_ordered bodies n = go (expands n.task.item.state)
  where
    go : (b : Bool) → IsOrdered PartsAt (if b then backward (child_node n) (body_of bodies n.task.item.attribute) else [])
    go false = tt
    go true =
        ordered_backward PartsAt (child_node n) (body_of bodies n.task.item.attribute)
        (λ k i e. (λ y m. absurd m, tt))
        (λ j k x y u v lt a b. grind (arith, parts_last))

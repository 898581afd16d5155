use Rattle.std.proofs.Common.{◌≡◌, ℕ, ◌++◌, take}
use Rattle.attr_table.specs.shared.Walk.{tasks_in}
use Rattle.attr_vectors.specs.inner.Plain.{PlainHaveSlots, TasksHaveSlots, free_items, plain_answers, plain_items, plain_origin, plain_tasks}
use Rattle.attr_vectors.proofs.plain.push_free.Given as goal

abbrev pub invariant-loop-item : goal.invariant-loop-item
invariant-loop-item l = record {
  pushed : plain_tasks l.stack.items
      ≡ tasks_in (plain_origin l.origin) l.cause (free_items (plain_answers l.slots) (plain_items (take l.item-index l.items)))
      ++ plain_tasks l.initial.stack.items;
  in_stack : (n : ℕ) → PlainHaveSlots n l.items → TasksHaveSlots n l.initial.stack.items → TasksHaveSlots n l.stack.items;
}

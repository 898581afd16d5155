use Rattle.std.proofs.Common.{◌≡◌, ℕ, ◌∷◌, [], refl, arith, Some, None}
use Rattle.std.proofs.lemmas.Bool.{ne_eqb}
use Rattle.attr_table.specs.Table.{Slots}
use Rattle.attr_table.specs.Cut.{IsSearched, is_done, no_answers}
use Rattle.attr_table.specs.shared.Walk.{Task, Walks, stops, fills, tasks_of, fill}
use Rattle.attr_table.specs.inner.Worked.{cycle, cycle_answers, a_set, b_set, line_numbered}
use Rattle.attr_table.proofs.Cuts.{walked_searched, same_searched}
use Rattle.attr_table.proofs.laws.worked_cycle.Goals as goal

a_task : Task
a_task = record { origin = line_numbered 3; item = a_set; cause = None }

b_task : Task
b_task = record { origin = line_numbered 3; item = b_set; cause = Some 0 }

left : Slots
unfolding a_task b_task
left = fill cycle.bodies b_task (fill cycle.bodies a_task no_answers)

walk : Walks cycle.bodies (is_done (0 ∷ 1 ∷ [])) (tasks_of cycle.lists) no_answers left
unfolding left a_task b_task
walk = fills refl refl (fills refl refl (stops refl))

left_at : (a : ℕ) → left a ≡ cycle_answers a
unfolding left a_task b_task
left_at a = grind (arith, ne_eqb)

searched : IsSearched cycle (0 ∷ 1 ∷ []) no_answers cycle_answers
searched = grind (arith, left_at, walked_searched, left, walk)

pub returns : goal.returns
returns c = grind (arith, same_searched cycle (0 ∷ 1 ∷ []) no_answers, searched)

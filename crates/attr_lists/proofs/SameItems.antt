-- Items are equal by `==` if and only if they are the same.
use Rattle.std.proofs.Common.{◌≡◌, List, arith}
use Rattle.std.specs.Bool.{Decides}
use Rattle.std.specs.Cmp.Lexicographic.{pointwise, pointwise_decides, bytes_decides}
use Rattle.attr_text.specs.declared.assignment.Assignment.{Assignment}
use Rattle.attr_text.specs.contracts.assignment.AssignmentPartialEq.TheImpl as assignment
use Rattle.attr_lists.specs.declared.types.TrackedAssignment.{TrackedAssignment}
use Rattle.attr_lists.specs.contracts.types.TrackedAssignmentPartialEq.TheImpl as tracked

assignment_decides : (x y : Assignment) → Decides (assignment.ghosts.eq x y) (x ≡ y)
assignment_decides x y = grind (arith, bytes_decides x.name y.name, bytes_decides)

tracked_decides : (x y : TrackedAssignment) → Decides (tracked.ghosts.eq x y) (x ≡ y)
tracked_decides x y = grind (arith, assignment_decides x.inner y.inner)

pub items_decide : (xs ys : List TrackedAssignment) → Decides (pointwise tracked.ghosts.eq xs ys) (xs ≡ ys)
items_decide xs ys = pointwise_decides tracked_decides xs ys

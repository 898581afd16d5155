-- The entries so far, and those of the lines that are left.
use Rattle.std.proofs.Common.{◌≡◌, ℕ, not, if◌then◌else◌, Bool, List, [], ◌∷◌, ◌++◌, map, Result, Ok, Err}
use Rattle.std.proofs.Common.{arith}
use Rattle.std.proofs.lemmas.Grind.{common_steps}
use Rattle.std.specs.List.{filter_map}
use Rattle.std.specs.Result.{result_ok, result_err, result_map_both}
use Rattle.attr_text.specs.Items.{Refusal, checked_name, invalid_name, reserved}
use Rattle.attr_text.specs.Names.{is_valid_name, is_reserved_name}
use Rattle.attr_text.specs.declared.assignment.Assignment.{Assignment}
use Rattle.attr_lists.specs.declared.types.TrackedAssignment.{TrackedAssignment}
use Rattle.attr_lists.specs.declared.types.DropReason.{DropReason}
use Rattle.attr_lists.specs.KeptLists.{tracked, reason_of, unless_refused}

-- the result of items after these assignments
abbrev pub read_after : List TrackedAssignment → List (Result Assignment Refusal) → Result (List TrackedAssignment) DropReason
read_after before items = unless_refused (filter_map result_err items) (before ++ map tracked (filter_map result_ok items))

-- one more assignment was read
pub read-more : (before : List TrackedAssignment) (items : List (Result Assignment Refusal)) (whole : Result (List TrackedAssignment) DropReason)
    (one : Result Assignment Refusal) (others : List (Result Assignment Refusal)) (assignment : TrackedAssignment)
    (after : List TrackedAssignment) → after ≡ before ++ assignment ∷ [] → read_after before items ≡ whole → items ≡ one ∷ others
    → Ok assignment ≡ result_map_both tracked reason_of one → read_after after others ≡ whole
read-more before items whole one others assignment after grown so_far first is = grind (arith, common_steps)

-- a name that passes its check is the text that was checked
pub name_checked : (text name : List ℕ) → Ok name ≡ checked_name text → name ≡ text
name_checked text name is = again is_valid_name is_reserved_name invalid_name reserved is
  where
    again : (valid taken : List ℕ → Bool) (f g : List ℕ → Refusal)
        → Ok name ≡ (if not (valid text) then Err (f text) else if taken text then Err (g text) else Ok text) → name ≡ text
    again valid taken f g is = grind arith

-- Attributes that a search may skip, since nothing that is looked for depends on them (own).
use Rattle.std.specs.Prelude.{◌≡◌, ℕ, List, [], Bool, true, false, Some, None, All, if◌then◌else◌}
use Rattle.attr_table.specs.Setting.{Unspecified, Item, Answer, body_of}
use Rattle.attr_table.specs.Table.{Slots}

-- a macro is needed if the attribute of an item of its body is
abbrev pub IsClosed : List (List Item) → (ℕ → Bool) → Type 0
IsClosed bodies needed =
    (macro : ℕ) → All (λ i. needed i.attribute ≡ true → needed macro ≡ true) (body_of bodies macro)

-- the answer that a skipped slot counts as: it only has to be one
abbrev pub skipped_answer : Answer
skipped_answer =
    record {
      origin = record { text = []; mode = 0; wildcard = None; source = None; line = 0 };
      assignment = record { attribute = 0; state = Unspecified };
      is_macro = false;
      cause = None;
    }

-- the slots of needed attributes; the others count as filled
abbrev pub narrowed : (ℕ → Bool) → Slots → Slots
narrowed needed slots a = if needed a then slots a else Some skipped_answer

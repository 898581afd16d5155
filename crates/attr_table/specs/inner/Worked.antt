-- An example: the lines `[attr]a b`, `[attr]b a` and `* a`, with two macros that name
-- each other. The attribute `a` is number 0, and `b` is number 1.
use Rattle.std.specs.Prelude.{ℕ, [], ◌∷◌, Some, None, true, codes}
use Rattle.attr_table.specs.Setting.{Set, Item, Origin, Setting}
use Rattle.attr_table.specs.Table.{Occurrence, Root, Inside, Slots, slots_in}

-- a line of the file `.gitattributes` with the pattern `*`
abbrev pub line_numbered : ℕ → Origin
line_numbered n =
    record { text = codes "*"; mode = 3; wildcard = Some 0; source = Some (codes ".gitattributes"); line = n }

-- the items `a` and `b`, each of which sets its attribute
abbrev pub a_set : Item
a_set = record { attribute = 0; state = Set }

abbrev pub b_set : Item
b_set = record { attribute = 1; state = Set }

-- the lines of the file, the first two of which define macros and so have no items here, and the two bodies
abbrev pub cycle : Setting
cycle =
    record {
      lists =
          (record { origin = line_numbered 1; items = [] }
          ∷ record { origin = line_numbered 2; items = [] }
          ∷ record { origin = line_numbered 3; items = a_set ∷ [] }
          ∷ [])
          ∷ [];
      bodies = (b_set ∷ []) ∷ (a_set ∷ []) ∷ [];
    }

-- the `a` of the third line, the `b` in its body, and the `a` in the body of that one
abbrev pub a_on_line : Occurrence
a_on_line = Root 0 2 0

abbrev pub b_in_a : Occurrence
b_in_a = Inside a_on_line 0

abbrev pub a_in_b : Occurrence
a_in_b = Inside b_in_a 0

-- both are decided by the third line: `a` by its own item, and `b` by the body of `a`
abbrev pub cycle_answers : Slots
cycle_answers =
    slots_in
    (Some (record { origin = line_numbered 3; assignment = a_set; is_macro = true; cause = None })
    ∷ Some (record { origin = line_numbered 3; assignment = b_set; is_macro = true; cause = Some 0 })
    ∷ [])

-- Lines that were read of a text (own).
use Rattle.std.specs.Prelude.{◌≡◌, ℕ, false, List, All, Some, MatchOption, ⊤}
use Rattle.attr_glob.specs.Patterns.{reading, has_flag, negative}
use Rattle.attr_lists.specs.ListViews.{Entry}

-- a line defines a macro, or its pattern was read of a text and isn't negative
abbrev pub IsRead : Entry → Type 0
IsRead entry =
    MatchOption entry.macro
    ((text : List ℕ) × (reading text ≡ Some entry.pattern) × (has_flag entry.pattern.mode negative ≡ false))
    (λ id. ⊤)

abbrev pub AreRead : List Entry → Type 0
AreRead lines = All IsRead lines

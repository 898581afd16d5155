-- What a star and an end take (own).
use Rattle.std.specs.Prelude.{ℕ, Bool, not, ◌-◌, ◌&&◌, List, length, take}
use Rattle.std.specs.List.{list_any, ends_with}
use Rattle.attr_wildmatch.specs.declared.case.Case.{Case}
use Rattle.attr_wildmatch.specs.Matching.{same_byte}
use Rattle.attr_wildmatch.specs.Slashes.{is_slash}

-- the value ends with these bytes, and has no slash before them
abbrev pub ends_after_star : Case → List ℕ → List ℕ → Bool
ends_after_star case value end =
    ends_with (same_byte case) value end && not (list_any is_slash (take (length value - length end) value))

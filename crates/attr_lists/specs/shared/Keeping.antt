-- What is kept of a collection when it changes (own).
use Rattle.std.specs.Prelude.{◌≢◌, ℕ, List, IfSome}
use Rattle.attr_lists.specs.Collections.{Collection}
use Rattle.attr_lists.specs.Definitions.{HoldsList}
use Rattle.attr_lists.specs.ListViews.{Entry}
use Rattle.attr_lists.specs.Numbers.{AreNamed, IsNumberOf}

-- each list stays registered
abbrev pub StayRegistered : Collection → Collection → Type 0
StayRegistered old new = (other : ℕ) (entries : List Entry) → HoldsList old other entries → HoldsList new other entries

-- each list but this one stays registered
abbrev pub OthersStayRegistered : ℕ → Collection → Collection → Type 0
OthersStayRegistered list_id old new =
    (other : ℕ) (entries : List Entry) → other ≢ list_id → HoldsList old other entries → HoldsList new other entries

-- the macro that the line defines, if it defines one, has the number of its name
abbrev pub HasMacroNumber : List (List ℕ) → Entry → Type 0
HasMacroNumber names entry = IfSome entry.macro (IsNumberOf names entry.pattern.text)

-- each id of the line is the number of its name
pub record IsNumbered (names : List (List ℕ)) (entry : Entry) : Type 0 where
  pub macro : HasMacroNumber names entry
  pub items : AreNamed names entry.items

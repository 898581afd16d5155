-- The setting of a search, and what the search leaves in its outcome (own).
use Rattle.std.specs.Prelude.{◌≡◌, ℕ, Bool, List, Option, length}
use Rattle.attr_wildmatch.specs.declared.case.Case.{Case}
use Rattle.attr_table.specs.Cut.{ExtendsCuts, is_done}
use Rattle.attr_table.specs.Setting.{Setting}
use Rattle.attr_table.specs.Skipped.{narrowed}
use Rattle.attr_table.specs.Table.{Slots}
use Rattle.gix_attributes.specs.Contents.{Content, wanted_of}
use Rattle.attr_search.specs.ListView.{Listed}
use Rattle.attr_search.specs.Settings.{BodiesAreNamed, HeldAreNamed, ListsAreNamed, setting_of}
use Rattle.attr_search.specs.Slots.{SkipsSlots, is_needed, slots_of}

-- the slots of an outcome, as the table has them: those that are not needed count as filled
abbrev pub answers_in : Content → Slots
answers_in held = narrowed (is_needed held.needed) (slots_of held.slots)

-- the lists that are searched for a path, with the bodies of macros that the outcome was initialised with
abbrev pub setting_for : List Listed → Content → List ℕ → Case → Option Bool → Setting
setting_for lists held path case is_dir = setting_of lists held.bodies path case is_dir

-- each wanted attribute has an answer
abbrev pub is_complete : Content → Bool
is_complete held = is_done (wanted_of held) (answers_in held)

-- If other lists were searched before for the same path, both searches together are one search of all lists: those that were
-- searched first take precedence, so they come last.
abbrev pub JoinsSearches : List Listed → List ℕ → Case → Option Bool → Content → Content → Type 0
JoinsSearches lists path case is_dir before after =
    let setting = setting_for lists before path case is_dir in
    ExtendsCuts setting.lists setting.bodies (wanted_of before) (answers_in before) (answers_in after)

-- a search fills needed slots, and counts; there are as many slots as before, and nothing else of the outcome changes
pub record KeepsAllButAnswers (before after : Content) : Type 0 where
  pub count : length after.slots ≡ length before.slots
  pub skipped : SkipsSlots before.needed before.slots after.slots
  pub rest : after ≡ record before { slots = after.slots; kept = after.kept; taken = after.taken; tested = after.tested }

-- answers have the names of their numbers, if all items have them, and all answers before
abbrev pub KeepsNames : List Listed → Content → Content → Type 0
KeepsNames lists before after =
    (names : List (List ℕ)) → ListsAreNamed names lists → BodiesAreNamed names before.bodies → HeldAreNamed names before.slots →
    HeldAreNamed names after.slots

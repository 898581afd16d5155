-- The item that decides an attribute. The gitattributes page: "a later line overrides an earlier line. This overriding is done
-- per attribute"; "macro attributes can only be `Set`"; "the further the directory .. from the path in question, the lower its
-- precedence". Circles of macros are own.
use Rattle.std.specs.Prelude.{◌≡◌, ◌≢◌, ℕ, ◌<◌, ◌⊎◌, List, [], ◌∷◌, ◌++◌, Option, Some, None, MatchOption, slice_get}
use Rattle.std.specs.Prelude.{slice_index_or, option_and_then}
use Rattle.attr_table.specs.Setting.{Set, Item, Line, Setting, Answer, body_of}

-- an occurrence of an item: a root is an item of a line, by list, line and item; any other one is inside its parent, at an index
-- of the body of the parent's attribute
pub data Occurrence : Type 0 where
  Root : ℕ → ℕ → ℕ → Occurrence
  Inside : Occurrence → ℕ → Occurrence

-- the line at an index of a list
abbrev pub line_at : Setting → ℕ → ℕ → Option Line
line_at s list line = option_and_then (λ lines. slice_get lines line) (slice_get s.lists list)

-- the item that is read at an occurrence, if there is one
abbrev pub item_at : Setting → Occurrence → Option Item
item_at s (Root list line item) = option_and_then (λ l. slice_get l.items item) (line_at s list line)
item_at s (Inside parent index) =
    option_and_then (λ i. slice_get (body_of s.bodies i.attribute) index) (item_at s parent)

-- the path to an occurrence: list, line and item, and then the indexes in bodies
abbrev pub path : Occurrence → List ℕ
path (Root list line item) = list ∷ line ∷ item ∷ []
path (Inside parent index) = path parent ++ index ∷ []

-- a prefix comes first; otherwise, at the first difference, the later index comes first
abbrev pub ComesFirst : List ℕ → List ℕ → Type 0
ComesFirst [] [] = ⊥
ComesFirst [] (y ∷ ys) = Unit {0}
ComesFirst (x ∷ xs) [] = ⊥
ComesFirst (x ∷ xs) (y ∷ ys) = (y < x) ⊎ ((x ≡ y) × ComesFirst xs ys)

-- o is read before p, so it takes precedence
abbrev pub IsEarlier : Occurrence → Occurrence → Type 0
IsEarlier o p = ComesFirst (path o) (path p)

-- a table has an entry for an attribute, the occurrence that decides it, or none
abbrev pub Table : Type 0
Table = ℕ → Option Occurrence

-- a root is always reached; an occurrence inside a parent is reached if the parent sets its attribute and is the entry of that
-- attribute
abbrev pub IsReached : Setting → Table → Occurrence → Type 0
IsReached s table (Root list line item) = Unit {0}
IsReached s table (Inside parent index) =
    (i : Item) × (item_at s parent ≡ Some i) × (i.state ≡ Set) × (table i.attribute ≡ Some parent)

-- an occurrence is live under a table, and this item is read there
pub record IsLive (s : Setting) (table : Table) (o : Occurrence) (i : Item) : Type 0 where
  pub item : item_at s o ≡ Some i
  pub reached : IsReached s table o

-- an attribute's entry is the earliest of its live occurrences; there is none only if none is live
abbrev pub IsEarliest : Setting → Table → ℕ → Option Occurrence → Type 0
IsEarliest s table a None = (o : Occurrence) (i : Item) → IsLive s table o i → i.attribute ≢ a
IsEarliest s table a (Some o) =
    ((i : Item) × IsLive s table o i × (i.attribute ≡ a))
    × ((p : Occurrence) (i : Item) → IsLive s table p i → i.attribute ≡ a → (o ≡ p) ⊎ IsEarlier o p)

-- the answers of the attributes so far
abbrev pub Slots : Type 0
Slots = ℕ → Option Answer

-- the answers of a row of slots, by number
abbrev pub slots_in : List (Option Answer) → Slots
slots_in slots a = slice_index_or slots a None

-- a table is stable over a start if an attribute with an answer at the start has no entry, and each
-- other one has the earliest of its live occurrences
abbrev pub IsStable : Setting → Slots → Table → Type 0
IsStable s start table =
    (a : ℕ) → MatchOption (start a) (IsEarliest s table a (table a)) (λ answer. table a ≡ None)

-- there is exactly one stable table
abbrev pub OneTable : Setting → Slots → Type 0
OneTable s start =
    (table : Table) × IsStable s start table × ((other : Table) → IsStable s start other → other ≡ table)

-- The slots after a search, which may stop before the table is complete (own: the gitattributes page has whole answers only).
use Rattle.std.specs.Prelude.{◌≡◌, ℕ, ◌⊎◌, List, [], ◌∷◌, ◌++◌, Bool, true, false, Option, Some, None, MatchOption, Contains}
use Rattle.std.specs.Prelude.{is_some, option_map, option_and_then}
use Rattle.std.specs.List.{list_all}
use Rattle.attr_table.specs.Setting.{Item, Origin, Line, Setting, Answer, body_of}
use Rattle.attr_table.specs.Table.{Occurrence, Root, Inside, Table, Slots, line_at, item_at, IsEarlier, IsStable}

-- the origin of the line from which an occurrence is reached: never the line that defines a macro
abbrev pub origin_at : Setting → Occurrence → Option Origin
origin_at s (Root list line item) = option_map (λ l. l.origin) (line_at s list line)
origin_at s (Inside parent index) = origin_at s parent

-- the attribute whose body has the occurrence, none for a root
abbrev pub cause_at : Setting → Occurrence → Option ℕ
cause_at s (Root list line item) = None
cause_at s (Inside parent index) = option_map (λ i. i.attribute) (item_at s parent)

-- the list is not empty; an attribute is a macro if its body is not
abbrev pub is_filled : {X : Type 0} → List X → Bool
is_filled [] = false
is_filled (x ∷ xs) = true

-- the answer for an attribute by an item
abbrev pub answer_of : List (List Item) → Origin → Item → Option ℕ → Answer
answer_of bodies origin i cause =
    record { origin = origin; assignment = i; is_macro = is_filled (body_of bodies i.attribute); cause = cause }

-- the answer for an attribute by an occurrence
abbrev pub answer_at : Setting → Occurrence → Option Answer
answer_at s o =
    option_and_then
    (λ origin. option_map (λ i. answer_of s.bodies origin i (cause_at s o)) (item_at s o))
    (origin_at s o)

-- the answer for an attribute by the whole table: that of the start, or else that of its entry
abbrev pub full_answer : Setting → Option Answer → Option Occurrence → Option Answer
full_answer s None None = None
full_answer s None (Some o) = answer_at s o
full_answer s (Some x) entry = Some x

-- an entry is kept if some wanted attribute has no answer at all, or if the entry is not later than that of some wanted attribute
abbrev pub IsKept : Slots → Table → List ℕ → Occurrence → Type 0
IsKept start table wanted o =
    ((w : ℕ) × Contains wanted w × (start w ≡ None) × (table w ≡ None))
    ⊎ ((w : ℕ) × (p : Occurrence) × Contains wanted w × (table w ≡ Some p) × ((o ≡ p) ⊎ IsEarlier o p))

-- the slot of an attribute in the cut: the answer of its entry if the entry is kept, and else none
abbrev pub IsCutAt : Setting → Slots → Table → List ℕ → Option Occurrence → Option Answer → Type 0
IsCutAt s start table wanted None slot = slot ≡ None
IsCutAt s start table wanted (Some o) slot =
    (IsKept start table wanted o → slot ≡ answer_at s o)
    × ((IsKept start table wanted o → ⊥) → slot ≡ None)

-- the slots are the cut of a table over a start: the start's answers, and those of the kept entries
abbrev pub IsCut : Setting → Slots → Table → List ℕ → Slots → Type 0
IsCut s start table wanted slots =
    (a : ℕ) → MatchOption (start a) (IsCutAt s start table wanted (table a) (slots a)) (λ x. slots a ≡ Some x)

-- the slots after a search for the wanted attributes: the cut of the stable table
abbrev pub IsSearched : Setting → List ℕ → Slots → Slots → Type 0
IsSearched s wanted start slots =
    (table : Table) × IsStable s start table × IsCut s start table wanted slots

-- no attribute has an answer, as before a first search
abbrev pub no_answers : Slots
no_answers a = None

-- each wanted attribute has an answer, so a search stops
abbrev pub is_done : List ℕ → Slots → Bool
is_done wanted slots = list_all (λ w. is_some (slots w)) wanted

-- if the slots before are the cut of some lists, from empty slots, the slots after are the cut of these lists with those before
-- them
abbrev pub ExtendsCuts : List (List Line) → List (List Item) → List ℕ → Slots → Slots → Type 0
ExtendsCuts lists bodies wanted before after =
    (searched : List (List Line)) →
    IsSearched (record { lists = searched; bodies = bodies }) wanted no_answers before →
    IsSearched (record { lists = lists ++ searched; bodies = bodies }) wanted no_answers after

-- An outcome stays current while neither names nor macros are added or removed.
use Rattle.std.proofs.lemmas.Grind.{common_steps}
use Rattle.std.proofs.lemmas.Bool.Decides.{nat_tests}
use Rattle.std.proofs.Common.{◌≡◌, ℕ, false, List, [], ◌∷◌, ◌++◌, length, Option, Some, refl, sym, ap, ◌∙◌, arith}
use Rattle.std.specs.Prelude.{MatchOption, bytes_eq, option_map, slice_get}
use Rattle.std.specs.Option.{option_to_list}
use Rattle.std.specs.List.{AllZip, IsDistinct}
use Rattle.std.proofs.lemmas.List.{append-nil, ext_get_or, length-append}
use Rattle.attr_lists.specs.Collections.{Collection}
use Rattle.attr_lists.specs.Definitions.{HoldsList, IsSoundCollection, RegistersAs, bodies_named, definitions_for, without_list}
use Rattle.attr_lists.specs.ListViews.{Entry}
use Rattle.attr_lists.specs.Numbers.{names_in, numbered_lines}
use Rattle.attr_lists.specs.shared.MacroNumbers.{defines_macros}
use Rattle.attr_lists.proofs.ForCallers.{definitions_by_name, of_other_lists-free, registered_for, removed_for, with_names-extends}
use Rattle.attr_search.specs.ListView.{Listed}
use Rattle.gix_attributes.specs.Additions.{RegisteredLists, RegistersNext}
use Rattle.gix_attributes.specs.Contents.{Content, bodies_of}
use Rattle.gix_attributes.specs.SearchViews.{AreHeld, RemovesLast}
use Rattle.gix_attributes.specs.inner.SoundEngines.{IsCurrentFor, last_lines}
use Rattle.gix_attributes.proofs.SelectionLemmas.{body_at, length_bodies}

-- lines that define no macro define none of a name
unnamed : (name : List ℕ) (lines : List Entry) → defines_macros lines ≡ false → bodies_named name lines ≡ []
unnamed name [] none = refl
unnamed name (line ∷ lines) none = grind (arith, nat_tests, unnamed name lines)

-- bodies are the same if the definitions of each name are
same_bodies : (known now : Collection) → IsDistinct bytes_eq known.names → now.names ≡ known.names →
    ((name : List ℕ) → definitions_for now name ≡ definitions_for known name) → bodies_of now ≡ bodies_of known
same_bodies known now distinct names same =
    ext_get_or [] (bodies_of now) (bodies_of known) (length_bodies now ∙ (ap length names ∙ sym (length_bodies known)))
    (λ i lt. grind (arith, nat_tests, length_bodies, body_at, definitions_by_name))

-- the bodies are the same if a list without macros is registered
bodies_added : (list_id : ℕ) (entries : List Entry) (known now : Collection) → IsSoundCollection known → RegistersAs list_id entries known now →
    now.names ≡ known.names → defines_macros (numbered_lines now.names entries) ≡ false → bodies_of now ≡ bodies_of known
bodies_added list_id entries known now sound registers names none =
    grind (arith, nat_tests, same_bodies known now, registered_for known now list_id entries sound registers, unnamed, append-nil)

-- and if one is removed
bodies_left : (list_id : ℕ) (lines : List Entry) (known : Collection) → IsSoundCollection known → HoldsList known list_id lines →
    defines_macros lines ≡ false → bodies_of (without_list list_id known) ≡ bodies_of known
bodies_left list_id lines known sound held none =
    grind (arith, nat_tests, same_bodies known (without_list list_id known), removed_for known list_id, of_other_lists-free list_id, unnamed)

-- an outcome that is current for a collection is so for another one of the same names and bodies
current_for : (known now : Collection) (held : Content) → now.names ≡ known.names → bodies_of now ≡ bodies_of known →
    IsCurrentFor known held → IsCurrentFor now held
current_for known now held names bodies current = grind (arith, nat_tests)

-- the lines of the last list
at_last : (lists : List Listed) (last : Listed) → slice_get (lists ++ last ∷ []) (length lists) ≡ Some last
at_last [] last = refl
at_last (list ∷ lists) last = at_last lists last

lines_of_last : (lists : List Listed) (last : Listed) → last_lines (lists ++ last ∷ []) ≡ last.lines
lines_of_last lists last = grind (arith, nat_tests, length-append lists (last ∷ []), at_last lists last)

zip_last : {A B : Type 0} (R : A → B → Type 0) (xs : List A) (x : A) (ys : List B) (y : B) → AllZip R (xs ++ x ∷ []) (ys ++ y ∷ []) → R x y
zip_last R [] x [] y h = h.0
zip_last R [] x (b ∷ []) y h = absurd h.1
zip_last R [] x (b ∷ (c ∷ ys)) y h = absurd h.1
zip_last R (a ∷ []) x [] y h = absurd h.1
zip_last R (a ∷ (c ∷ xs)) x [] y h = absurd h.1
zip_last R (a ∷ xs) x (b ∷ ys) y h = zip_last R xs x ys y h.1

no_more : (names more all : List (List ℕ)) → all ≡ names ++ more → length all ≡ length names → all ≡ names
no_more names more all is same = grind (arith, common_steps, nat_tests, append-nil, length-append)

-- a list without macros whose names are known was added
pub current_added : (entries : List Entry) (before after : RegisteredLists) (last : Listed) (held : Content) → IsSoundCollection before.known →
    RegistersNext entries before after → after.lists ≡ before.lists ++ last ∷ [] → last.lines ≡ numbered_lines after.known.names entries →
    defines_macros (last_lines after.lists) ≡ false → length after.known.names ≡ length before.known.names → IsCurrentFor before.known held →
    IsCurrentFor after.known held
current_added entries before after last held sound added lists_are lines none count current =
    let known = before.known in
    let extends = with_names-extends known.names (names_in entries) in
    grind (arith, nat_tests, no_more, lines_of_last, current_for, bodies_added)

-- a pop removes a list or finds none
pub current_popped : {X : Type 0} (read : X → Listed) (r : Option X) (ids : List ℕ) (before now : Collection) (left lists : List Listed)
    (held : Content) → IsSoundCollection before → AreHeld before ids lists → lists ≡ left ++ option_to_list (option_map read r) →
    MatchOption r (now ≡ before) (λ _. RemovesLast ids before now) → defines_macros (last_lines lists) ≡ false → IsCurrentFor before held →
    IsCurrentFor now held
current_popped read r ids before now left lists held sound are lists_are is none current =
    grind (arith, nat_tests, zip_last, lines_of_last, current_for, bodies_left)

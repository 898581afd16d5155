-- What the addition and the removal of a list do to a collection, and to its other lists.
use Rattle.std.proofs.Common.{◌≡◌, ◌≢◌, ℕ, zero, suc, ◌+◌, ◌<◌, ◌≤◌, true, false, not, eqb, List, [], ◌∷◌, ◌++◌, length}
use Rattle.std.proofs.Common.{get_or, map, filter, All, slice_get, bytes_eq, Option, Some, None, IfSome, unwrap_or, option_map, refl}
use Rattle.std.proofs.Common.{sym, ap, subst, ◌∙◌, ⊎_elim, arith, true≢false, ne_eqb, eq-eqb}
use Rattle.std.specs.Prelude.{◌==◌, ◌||◌}
use Rattle.std.specs.List.{list_any, flat_map, position_or_len, AllPairs, IsDistinct}
use Rattle.std.specs.Cmp.Lexicographic.{bytes_decides}
use Rattle.std.proofs.lemmas.Bool.{cases_Bool, cases_lt, cond-true, cond-false, eqb-true, eqb-false, lt-ltb, le-ltb, or_left, or_right, or_parts}
use Rattle.std.proofs.lemmas.List.{append-nil, length-append, length-map, get_or_append_left, get_or-append-add, map-append}
use Rattle.std.proofs.lemmas.List.Concat.{flat_map-append}
use Rattle.std.proofs.lemmas.List.Elements.{All-nil, All-cons, All-head, All-tail, All-append, All-filter, All-map, All-weaker, filter-append}
use Rattle.std.proofs.lemmas.List.Folds.{list_any-append, prefix_len-append}
use Rattle.std.proofs.lemmas.List.Kept.{AllPairs-filter}
use Rattle.std.proofs.lemmas.List.Quantifiers.{all_pairs_push}
use Rattle.std.proofs.lemmas.List.Sums.{passes_at_first}
use Rattle.std.proofs.lemmas.Map.Views.{any-filter_same}
use Rattle.std.proofs.lemmas.Option.{get_or_from_slice_get, slice_get_within, slice_get-get_or}
use Rattle.attr_lists.specs.declared.types.AttributeId.{AttributeId}
use Rattle.attr_lists.specs.declared.types.TrackedAssignment.{TrackedAssignment}
use Rattle.attr_lists.specs.Definitions.{bodies_named, definition_of, is_of_list, bodies_of_list, of_other_lists}
use Rattle.attr_lists.specs.Definitions.{bodies_of_number, definitions_by, definitions_of, definitions_for, is_registered}
use Rattle.attr_lists.specs.Definitions.{macro_defined, macros_defined, with_list, without_list, HoldsList, IsSoundCollection}
use Rattle.attr_lists.specs.shared.Keeping.{IsNumbered}
use Rattle.attr_lists.proofs.NamedDefinitions.{Has, itself, index_of, number_at, number_name, bodies_by_name, bodies_by_number}
use Rattle.attr_lists.specs.inner.EntryViews.{AreValid}
use Rattle.attr_lists.specs.ListViews.{Entry}
use Rattle.attr_lists.specs.Collections.{MacroDefinition, NumberedBody, RegisteredList, Collection}
use Rattle.attr_lists.specs.Numbers.{macro_names, names_of, names_in, with_name, with_names, number_of, id_of, numbered_item, numbered}
use Rattle.attr_lists.specs.Numbers.{numbered_lines, AppendsNames, AreNamed, IsNumberOf}
use Rattle.attr_lists.proofs.DefinitionLemmas.{bodies_of_list-append, of_other_lists-append, of_other_lists-own}
use Rattle.attr_lists.proofs.ListLemmas.{get_or-map}
use Rattle.attr_lists.proofs.NameLemmas.{with_name-known, with_name-new, with_names-extends, with_names-distinct}
use Rattle.attr_lists.proofs.RunLemmas.{keep_none}

-- ---- numbers

has_kept : (names more : List (List ℕ)) (name : List ℕ) → Has names name → Has (names ++ more) name
has_kept names more name h = list_any-append (bytes_eq name) names more ∙ or_left (list_any (bytes_eq name) names) (list_any (bytes_eq name) more) h

pub has_still : (known names : List (List ℕ)) (name : List ℕ) → Has known name → Has (with_names known names) name
has_still known names name h =
    let more = with_names-extends known names in subst (λ l. Has l name) (sym more.1) (has_kept known more.0 name h)

pub has_own : (known : List (List ℕ)) (name : List ℕ) → Has (with_name known name) name
has_own known name = grind (arith, with_name-known, with_name-new, list_any-append, bytes_eq, or_right, or_left, itself, cases_Bool)

pub has_all : (known names : List (List ℕ)) → All (Has (with_names known names)) names
has_all known [] = All-nil (Has known)
has_all known (name ∷ names) =
    All-cons (Has (with_names (with_name known name) names)) name names (has_still (with_name known name) names name (has_own known name))
    (has_all (with_name known name) names)

all_left : {X : Type 0} (P : X → Type 0) (xs ys : List X) → All P (xs ++ ys) → All P xs
all_left P xs ys h = λ k d lt. subst P (get_or_append_left xs ys d k lt) (h k d (omega (arith, lt, length-append xs ys)))

all_right : {X : Type 0} (P : X → Type 0) (xs ys : List X) → All P (xs ++ ys) → All P ys
all_right P xs ys h = λ k d lt. subst P (get_or-append-add xs ys k d) (h (length xs + k) d (omega (arith, lt, length-append xs ys)))

pub all_of_map : {X Y : Type 0} (P : Y → Type 0) (f : X → Y) (xs : List X) → All P (map f xs) → All (λ x. P (f x)) xs
all_of_map P f xs h = λ k d lt. subst P (get_or-map f xs k d) (h k (f d) (omega (arith, lt, length-map xs f)))

pub number_is : (names : List (List ℕ)) (name : List ℕ) → Has names name → IsNumberOf names name (id_of names name)
number_is names name h =
    let index = position_or_len (bytes_eq name) names in
    let lt = index_of names name h in
    let at : index ≡ (id_of names name).0 = grind (arith, unwrap_or, cond-true, lt-ltb) in
    subst (λ k. slice_get names k ≡ Some name) at
    (slice_get-get_or names index name lt ∙ ap Some (sym ((bytes_decides name (get_or names index name)).0
    (passes_at_first (bytes_eq name) names name lt))))

line_numbered : (names : List (List ℕ)) (pattern : List ℕ) (entry : Entry) → All (Has names) (names_of entry) → IsNumbered names
    (numbered names entry)
line_numbered names pattern entry h = record {
  macro = macro_numbered entry.macro (all_left (Has names) (macro_names entry) (map (λ (item : TrackedAssignment). item.inner.name) entry.items) h);
  items = All-map (λ (item : TrackedAssignment). IsNumberOf names item.inner.name item.id) (numbered_item names) entry.items
      (All-weaker (λ (item : TrackedAssignment). Has names item.inner.name)
      (λ (item : TrackedAssignment). IsNumberOf names item.inner.name (id_of names item.inner.name))
      (λ item has. number_is names item.inner.name has) entry.items
      (all_of_map (Has names) (λ (item : TrackedAssignment). item.inner.name) entry.items
      (all_right (Has names) (macro_names entry) (map (λ (item : TrackedAssignment). item.inner.name) entry.items) h)));
}
  where
    macro_numbered : (m : Option AttributeId) → All (Has names) (unwrap_or (option_map (λ _. entry.pattern.text ∷ []) m) []) → IfSome
        (option_map (λ _. id_of names entry.pattern.text) m) (IsNumberOf names entry.pattern.text)
    macro_numbered None a = tt
    macro_numbered (Some id) a = number_is names entry.pattern.text (All-head (Has names) entry.pattern.text [] a)

-- each number that the lines of an added list have is that of a name
pub lines_numbered : (names : List (List ℕ)) (entries : List Entry) → All (Has names) (names_in entries) → All (IsNumbered names)
    (numbered_lines names entries)
lines_numbered names [] h = All-nil (IsNumbered names)
lines_numbered names (entry ∷ entries) h =
    All-cons (IsNumbered names) (numbered names entry) (numbered_lines names entries)
    (line_numbered names entry.pattern.text entry (all_left (Has names) (names_of entry) (names_in entries) h))
    (lines_numbered names entries (all_right (Has names) (names_of entry) (names_in entries) h))

pub list_numbered : (known : List (List ℕ)) (entries : List Entry) → All (IsNumbered (with_names known (names_in entries)))
    (numbered_lines (with_names known (names_in entries)) entries)
list_numbered known entries = lines_numbered (with_names known (names_in entries)) entries (has_all known (names_in entries))

-- a name keeps its number
pub number_kept : (known more : List (List ℕ)) (name : List ℕ) (number : ℕ) → number_of known name ≡ Some number → number_of (known ++ more) name ≡
    Some number
number_kept known more name number h =
    grind (arith, bytes_eq, cond-true, lt-ltb, prefix_len-append, cond-false, ne_eqb, length-append, le-ltb, cases_lt)

pub number_stays : (known names : List (List ℕ)) (name : List ℕ) (number : ℕ) → number_of known name ≡ Some number → number_of
    (with_names known names) name ≡ Some number
number_stays known names name number h =
    let more = with_names-extends known names in subst (λ l. number_of l name ≡ Some number) (sym more.1) (number_kept known more.0 name number h)

-- so its id stays, whatever names are taken after it
pub id_stays : (names more : List (List ℕ)) (name : List ℕ) → Has names name → id_of names name ≡ id_of (with_names names more) name
id_stays names more name has = grind (arith, bytes_eq, cond-true, lt-ltb, index_of, unwrap_or, number_stays)

pub items_stay : (names more : List (List ℕ)) (items : List TrackedAssignment) → All (λ item. Has names item.inner.name) items
    → map (numbered_item names) items ≡ map (numbered_item (with_names names more)) items
items_stay names more [] has = refl
items_stay names more (item ∷ items) has =
    let own = λ (i : TrackedAssignment). Has names i.inner.name in
    ap (λ (id : AttributeId). record { id = id; inner = item.inner } ∷ map (numbered_item names) items)
    (id_stays names more item.inner.name (All-head own item items has))
    ∙ ap (λ l. numbered_item (with_names names more) item ∷ l) (items_stay names more items (All-tail own item items has))

-- the numbers of a line stay
pub line_stays : (known more : List (List ℕ)) (entry : Entry) → numbered (with_names known (names_of entry)) entry ≡ numbered
    (with_names (with_names known (names_of entry)) more) entry
line_stays known more entry =
    let names = with_names known (names_of entry) in
    let own = map (λ (i : TrackedAssignment). i.inner.name) entry.items in
    let has = has_all known (names_of entry) in
    let items = items_stay names more entry.items
    (all_of_map (Has names) (λ (i : TrackedAssignment). i.inner.name) entry.items (all_right (Has names) (macro_names entry) own has)) in
    let macro = macro_stays entry.macro (all_left (Has names) (macro_names entry) own has) in
    λ j. record { pattern = entry.pattern; macro = macro j; items = items j; line = entry.line }
  where
    macro_stays : (m : Option AttributeId)
        → All (Has (with_names known (names_of entry))) (unwrap_or (option_map (λ _. entry.pattern.text ∷ []) m) [])
        → option_map (λ _. id_of (with_names known (names_of entry)) entry.pattern.text) m
        ≡ option_map (λ _. id_of (with_names (with_names known (names_of entry)) more) entry.pattern.text) m
    macro_stays None has = refl
    macro_stays (Some id) has =
        ap Some (id_stays (with_names known (names_of entry)) more entry.pattern.text
        (All-head (Has (with_names known (names_of entry))) entry.pattern.text [] has))

-- a number stays that of its name
get_still : {X : Type 0} (xs more : List X) (i : ℕ) (x : X) → slice_get xs i ≡ Some x → slice_get (xs ++ more) i ≡ Some x
get_still (y ∷ ys) more (suc i) x h = get_still ys more i x h
get_still xs more i x h = grind arith

-- so items stay named
named_still : (known names : List (List ℕ)) (items : List TrackedAssignment) → AppendsNames known names → AreNamed known items → AreNamed names items
named_still known names items more h = λ k d lt. rw more.1 (get_still known more.0 _ _ (h k d lt))

-- the numbers of items that are named are those of names
pub items_within : (names : List (List ℕ)) (items : List TrackedAssignment) → AreNamed names items → All (λ item. item.id.0 < length names) items
items_within names items h = λ k d lt. slice_get_within names _ _ (h k d lt)

-- a collection with more names is sound
pub named_sound : (old : Collection) (names : List (List ℕ)) → AppendsNames old.names names → IsSoundCollection old → AreValid names
    → IsDistinct bytes_eq names → IsSoundCollection (record { names = names; lists = old.lists })
named_sound old names more sound valid distinct =
    let named : (number : ℕ) → All (λ d. AreNamed names d.body) (definitions_of old number) =
    λ number k d lt. named_still old.names names _ more (sound.named number k d lt) in
    record {
      valid = valid;
      distinct = distinct;
      ids = sound.ids;
      numbers = λ number past. sound.numbers number (omega (arith, past, ap length more.1, length-append old.names more.0));
      within = λ number k d lt. items_within names _ (named number k d lt);
      named = named;
    }

-- ---- definitions

-- the macros of numbered lines have numbers of names, and their items are named
abbrev IsNamedBody : List (List ℕ) → NumberedBody → Type 0
IsNamedBody names b = (b.number < length names) × AreNamed names b.body

macros_named : (names : List (List ℕ)) (lines : List Entry) → All (IsNumbered names) lines → All (IsNamedBody names) (macros_defined lines)
macros_named names [] h = All-nil (IsNamedBody names)
macros_named names (line ∷ lines) h =
    All-append (IsNamedBody names) (macro_defined line) (macros_defined lines) (one line.macro (All-head (IsNumbered names) line lines h).macro)
    (macros_named names lines (All-tail (IsNumbered names) line lines h))
  where
    one : (m : Option AttributeId) → IfSome m (IsNumberOf names line.pattern.text)
        → All (IsNamedBody names) (unwrap_or (option_map (λ id. record { number = id.0; body = line.items } ∷ []) m) [])
    one None is = All-nil (IsNamedBody names)
    one (Some id) is =
        All-cons (IsNamedBody names) (record { number = id.0; body = line.items }) []
        (slice_get_within names id.0 line.pattern.text is, (All-head (IsNumbered names) line lines h).items) (All-nil (IsNamedBody names))

-- so they have no body of a number that no name has
bodies_past : (names : List (List ℕ)) (macros : List NumberedBody) (number : ℕ) → All (IsNamedBody names) macros → length names ≤ number
    → bodies_of_number number macros ≡ []
bodies_past names macros number h past =
    ap (map (λ (b : NumberedBody). b.body))
    (keep_none (λ b. eqb b.number number) macros (λ k d lt. ne_eqb _ number (λ e. omega (arith, e, past, (h k d lt).0))))

bodies_named_by : (names : List (List ℕ)) (list_id number : ℕ) (macros : List NumberedBody) → All (IsNamedBody names) macros → All
    (λ d. AreNamed names d.body) (map (definition_of list_id) (bodies_of_number number macros))
bodies_named_by names list_id number macros h =
    All-map (λ (d : MacroDefinition). AreNamed names d.body) (definition_of list_id) (bodies_of_number number macros)
    (All-map (AreNamed names) (λ (b : NumberedBody). b.body) (filter (λ b. eqb b.number number) macros)
    (All-filter (λ b. eqb b.number number) (λ (b : NumberedBody). AreNamed names b.body) macros (λ k d lt. (h k d lt).1)))

eqb_self : (n : ℕ) → eqb n n ≡ true
eqb_self n = eq-eqb n n refl

-- the definitions that a list has under its list id are its own
bodies_of_list-own : (list_id : ℕ) (bodies : List (List TrackedAssignment)) → bodies_of_list list_id (map (definition_of list_id) bodies) ≡ bodies
bodies_of_list-own list_id [] = refl
bodies_of_list-own list_id (body ∷ bodies) = grind (arith, cond-true, filter, eqb_self, bodies_of_list-own list_id bodies)

-- and no other list's
bodies_of_list-other : (other list_id : ℕ) (bodies : List (List TrackedAssignment)) → other ≢ list_id → bodies_of_list other
    (map (definition_of list_id) bodies) ≡ []
bodies_of_list-other other list_id [] apart = refl
bodies_of_list-other other list_id (body ∷ bodies) apart = grind (arith, cond-false, filter, ne_eqb, bodies_of_list-other other list_id bodies apart)

pub of_other_lists-free : (list_id : ℕ) (ds : List MacroDefinition) → bodies_of_list list_id ds ≡ [] → of_other_lists list_id ds ≡ ds
of_other_lists-free list_id [] h = refl
of_other_lists-free list_id (d ∷ ds) h = grind (arith, cond-true, filter, cond-false, cases_Bool, of_other_lists-free list_id ds)

-- a removal keeps the definitions of another list
bodies_of_list-of_other_lists : (other list_id : ℕ) (ds : List MacroDefinition) → other ≢ list_id → bodies_of_list other (of_other_lists list_id ds) ≡
    bodies_of_list other ds
bodies_of_list-of_other_lists other list_id [] apart = refl
bodies_of_list-of_other_lists other list_id (d ∷ ds) apart =
    grind (arith, cond-false, filter, ne_eqb, eqb-true, cond-true, cases_Bool, bodies_of_list-of_other_lists other list_id ds apart)

none_is : {b : ℕ} → None ≡ Some b → ⊥
none_is e = cc

-- ---- lists

-- the definitions that lists have of a number
abbrev pub definitions_in : ℕ → List RegisteredList → List MacroDefinition
definitions_in number lists = flat_map (definitions_by number) lists

-- lists of which none has the list id
abbrev pub Lack : ℕ → List RegisteredList → Type 0
Lack list_id lists = All (λ l. l.list_id ≢ list_id) lists

-- the list ids differ
abbrev Differ : List RegisteredList → Type 0
Differ lists = AllPairs (λ x y. x.list_id ≢ y.list_id) lists

pub none_registered : (list_id : ℕ) (lists : List RegisteredList) → list_any (λ l. l.list_id == list_id) lists ≡ false → Lack list_id lists
none_registered list_id [] h = All-nil (λ l. l.list_id ≢ list_id)
none_registered list_id (l ∷ lists) h = grind (arith, or_parts, eqb-false, none_registered list_id lists)

pub lack_registered : (list_id : ℕ) (lists : List RegisteredList) → Lack list_id lists → list_any (λ l. l.list_id == list_id) lists ≡ false
lack_registered list_id [] h = refl
lack_registered list_id (l ∷ lists) h =
    ap (λ b. b || list_any (λ l. l.list_id == list_id) lists) (ne_eqb l.list_id list_id (All-head (λ l. l.list_id ≢ list_id) l lists h))
    ∙ lack_registered list_id lists (All-tail (λ l. l.list_id ≢ list_id) l lists h)

-- a list id that no list has, has no definitions
pub none_of_list : (list_id number : ℕ) (lists : List RegisteredList) → Lack list_id lists
    → bodies_of_list list_id (definitions_in number lists) ≡ []
none_of_list list_id number [] h = refl
none_of_list list_id number (l ∷ lists) h =
    bodies_of_list-append list_id (definitions_by number l) (definitions_in number lists)
    ∙ ap (λ bs. bs ++ bodies_of_list list_id (definitions_in number lists))
    (bodies_of_list-other list_id l.list_id (bodies_of_number number l.macros) (λ e. All-head (λ l. l.list_id ≢ list_id) l lists h (sym e)))
    ∙ none_of_list list_id number lists (All-tail (λ l. l.list_id ≢ list_id) l lists h)

differ_head : (l : RegisteredList) (lists : List RegisteredList) → Differ (l ∷ lists) → Lack l.list_id lists
differ_head l lists pairs = λ k d lt e. pairs zero (suc k) d (omega arith) (omega arith) (sym e)

differ_tail : (l : RegisteredList) (lists : List RegisteredList) → Differ (l ∷ lists) → Differ lists
differ_tail l lists pairs = λ i j d lt below. pairs (suc i) (suc j) d (omega arith) (omega arith)

-- the definitions of a registered list are those of its macros
pub own_bodies : (number : ℕ) (lists : List RegisteredList) (i : ℕ) (own : RegisteredList) → Differ lists → slice_get lists i ≡ Some own
    → bodies_of_list own.list_id (definitions_in number lists) ≡ bodies_of_number number own.macros
own_bodies number [] i own pairs at = absurd cc
own_bodies number (l ∷ lists) zero own pairs at =
    let same : l ≡ own = cc in
    subst (λ (o : RegisteredList). bodies_of_list o.list_id (definitions_in number (l ∷ lists)) ≡ bodies_of_number number o.macros) same
    (bodies_of_list-append l.list_id (definitions_by number l) (definitions_in number lists)
    ∙ ap (λ bs. bodies_of_list l.list_id (definitions_by number l) ++ bs) (none_of_list l.list_id number lists (differ_head l lists pairs))
    ∙ append-nil (bodies_of_list l.list_id (definitions_by number l))
    ∙ bodies_of_list-own l.list_id (bodies_of_number number l.macros))
own_bodies number (l ∷ lists) (suc i) own pairs at =
    let apart : own.list_id ≢ l.list_id = λ e. differ_head l lists pairs i own (slice_get_within lists i own at)
    (ap (λ (o : RegisteredList). o.list_id) (get_or_from_slice_get lists i own own at) ∙ e) in
    bodies_of_list-append own.list_id (definitions_by number l) (definitions_in number lists)
    ∙ ap (λ bs. bs ++ bodies_of_list own.list_id (definitions_in number lists))
    (bodies_of_list-other own.list_id l.list_id (bodies_of_number number l.macros) apart)
    ∙ own_bodies number lists i own (differ_tail l lists pairs) at

-- the bodies of a number among two parts of macros
pub bodies_of_number-append : (number : ℕ) (xs ys : List NumberedBody)
    → bodies_of_number number (xs ++ ys) ≡ bodies_of_number number xs ++ bodies_of_number number ys
bodies_of_number-append number xs ys = grind (arith, filter-append, map-append, filter)

-- ---- a list is added

module _ (old : Collection) (list_id : ℕ) (entries : List Entry) where
  abbrev names : List (List ℕ)
  names = with_names old.names (names_in entries)

  abbrev lines : List Entry
  lines = numbered_lines names entries

  abbrev macros : List NumberedBody
  macros = macros_defined lines

  abbrev own : RegisteredList
  own = record { list_id = list_id; macros = macros }

  abbrev new : Collection
  new = with_list list_id entries old

  -- the definitions of a number after an addition
  pub added_at : (number : ℕ)
      → definitions_of new number ≡ definitions_of old number ++ map (definition_of list_id) (bodies_of_number number macros)
  added_at number =
      flat_map-append (definitions_by number) old.lists (own ∷ [])
      ∙ ap (λ ds. definitions_of old number ++ ds) (append-nil (definitions_by number own))

  -- the list is registered then
  pub added_registered : is_registered new list_id ≡ true
  added_registered = grind (arith, list_any-append, eqb_self, or_right, or_left)

  -- and so are the others
  pub still_registered : (other : ℕ) → is_registered old other ≡ true → is_registered new other ≡ true
  still_registered other h = grind (arith, list_any-append, or_left)

  module _ (sound : IsSoundCollection old) where
    distinct_now : IsDistinct bytes_eq names
    distinct_now = with_names-distinct old.names (names_in entries) sound.distinct

    -- a name that is new has no definition in the other lists
    had_before : (name : List ℕ) (before now : Option ℕ) → number_of old.names name ≡ before → number_of names name ≡ now
        → unwrap_or (option_map (definitions_of old) now) [] ≡ unwrap_or (option_map (definitions_of old) before) []
    had_before name (Some k) now f e =
        ap (λ o. unwrap_or (option_map (definitions_of old) o) []) (sym e ∙ number_stays old.names (names_in entries) name k f)
    had_before name None None f e = refl
    had_before name None (Some n) f e =
        ⊎_elim
        (λ (lt : n < length old.names).
        let more = with_names-extends old.names (names_in entries) in
        let at : get_or old.names n [] ≡ name =
        sym (ap (λ ns. get_or ns n []) more.1 ∙ get_or_append_left old.names more.0 [] n lt) ∙ (number_name names name n e).1 in
        absurd (none_is (sym f ∙ ap (number_of old.names) (sym at) ∙ number_at old.names n sound.distinct lt)))
        (λ past. sound.numbers n past)
        (cases_lt n (length old.names))

    -- the definitions of a name after an addition
    pub added_for : (name : List ℕ) → definitions_for new name ≡ definitions_for old name ++ map (definition_of list_id) (bodies_named name lines)
    added_for name =
        by_number (number_of names name)
        ∙ ap (λ ds. ds ++ map (definition_of list_id) (unwrap_or (option_map (λ n. bodies_of_number n macros) (number_of names name)) []))
        (had_before name (number_of old.names name) (number_of names name) refl refl)
        ∙ ap (λ bs. definitions_for old name ++ map (definition_of list_id) bs)
        (sym (bodies_by_number names name distinct_now (number_of names name) refl macros)
        ∙ bodies_by_name names name lines (λ k d lt. (list_numbered old.names entries k d lt).macro))
      where
        by_number : (o : Option ℕ) → unwrap_or (option_map (definitions_of new) o) [] ≡ unwrap_or (option_map (definitions_of old) o) []
            ++ map (definition_of list_id) (unwrap_or (option_map (λ n. bodies_of_number n macros) o) [])
        by_number None = refl
        by_number (Some n) = added_at n

    module _ (fresh : is_registered old list_id ≡ false) where
      -- the collection after an addition is sound
      pub added_sound : AreValid names → IsSoundCollection new
      added_sound valid =
          let first = named_sound old names (with_names-extends old.names (names_in entries)) sound valid distinct_now in
          let bodies = macros_named names lines (list_numbered old.names entries) in
          let Named = λ (d : MacroDefinition). AreNamed names d.body in
          let named : (number : ℕ) → All Named (definitions_of new number) = λ number. subst (All Named) (sym (added_at number))
          (All-append Named (definitions_of old number) (map (definition_of list_id) (bodies_of_number number macros)) (first.named number)
          (bodies_named_by names list_id number macros bodies)) in
          record {
            valid = valid;
            distinct = distinct_now;
            ids = all_pairs_push (λ x y. x.list_id ≢ y.list_id) old.lists own sound.ids (none_registered list_id old.lists fresh);
            numbers = λ number past. added_at number
                ∙ ap (λ ds. ds ++ map (definition_of list_id) (bodies_of_number number macros)) (first.numbers number past)
                ∙ ap (map (definition_of list_id)) (bodies_past names macros number bodies past);
            within = λ number k d lt. items_within names _ (named number k d lt);
            named = named;
          }

      none_for : (name : List ℕ) → bodies_of_list list_id (definitions_for old name) ≡ []
      none_for name = at (number_of old.names name)
        where
          at : (o : Option ℕ) → bodies_of_list list_id (unwrap_or (option_map (definitions_of old) o) []) ≡ []
          at None = refl
          at (Some n) = none_of_list list_id n old.lists (none_registered list_id old.lists fresh)

      -- the list is registered
      pub added_holds : HoldsList new list_id lines
      added_holds = record {
        registered = added_registered;
        bodies = λ name. grind (arith, added_for name, bodies_of_list-append, none_for name, bodies_of_list-own);
      }

      -- the other lists stay registered
      pub added_keeps : (other : ℕ) (es : List Entry) → HoldsList old other es → HoldsList new other es
      added_keeps other es h =
          let apart : other ≢ list_id = λ e. true≢false (sym h.registered ∙ ap (is_registered old) e ∙ fresh) in
          record {
            registered = still_registered other h.registered;
            bodies = λ name. grind (arith, added_for name, bodies_of_list-append, bodies_of_list-other, apart, append-nil, h.bodies name);
          }

-- ---- a list is removed

module _ (old : Collection) (gone : ℕ) where
  abbrev others : List RegisteredList → List RegisteredList
  others lists = filter (λ l. not (l.list_id == gone)) lists

  others_left : (number : ℕ) (lists : List RegisteredList)
      → definitions_in number (others lists) ≡ of_other_lists gone (definitions_in number lists)
  others_left number [] = refl
  others_left number (l ∷ lists) =
      grind (
        arith,
        cond-true,
        cond-false,
        cases_Bool,
        eqb-true,
        eqb-false,
        of_other_lists-append,
        of_other_lists-own,
        of_other_lists-free,
        bodies_of_list-other,
        others_left number lists,
      )

  -- the definitions of a number after a removal
  pub removed_at : (number : ℕ) → definitions_of (without_list gone old) number ≡ of_other_lists gone (definitions_of old number)
  removed_at number = others_left number old.lists

  -- the definitions of a name after a removal
  pub removed_for : (name : List ℕ) → definitions_for (without_list gone old) name ≡ of_other_lists gone (definitions_for old name)
  removed_for name = at (number_of old.names name)
    where
      at : (o : Option ℕ) → unwrap_or (option_map (definitions_of (without_list gone old)) o) []
          ≡ of_other_lists gone (unwrap_or (option_map (definitions_of old) o) [])
      at None = refl
      at (Some n) = removed_at n

  pub removed_sound : IsSoundCollection old → IsSoundCollection (without_list gone old)
  removed_sound sound =
      let Named = λ (d : MacroDefinition). AreNamed old.names d.body in
      let named : (number : ℕ) → All Named (definitions_of (without_list gone old) number) = λ number.
      subst (All Named) (sym (removed_at number))
      (All-filter (λ d. not (is_of_list gone d)) Named (definitions_of old number) (sound.named number)) in
      record {
        valid = sound.valid;
        distinct = sound.distinct;
        ids = AllPairs-filter (λ x y. x.list_id ≢ y.list_id) (λ l. not (l.list_id == gone)) old.lists sound.ids;
        numbers = λ number past. removed_at number ∙ ap (of_other_lists gone) (sound.numbers number past);
        within = λ number k d lt. items_within old.names _ (named number k d lt);
        named = named;
      }

  left_registered : (other : ℕ) → other ≢ gone → is_registered old other ≡ true → is_registered (without_list gone old) other ≡ true
  left_registered other apart h =
      any-filter_same (λ l. l.list_id == other) (λ l. not (l.list_id == gone)) true (λ l is. grind (arith, eqb-true, ne_eqb)) old.lists ∙ h

  -- the other lists stay registered
  pub removed_keeps : (other : ℕ) (es : List Entry) → other ≢ gone → HoldsList old other es → HoldsList (without_list gone old) other es
  removed_keeps other es apart h = record {
    registered = left_registered other apart h.registered;
    bodies = λ name. ap (bodies_of_list other) (removed_for name)
        ∙ (bodies_of_list-of_other_lists other gone (definitions_for old name) apart ∙ h.bodies name);
  }

-- Names that are appended before their list is registered, and lines that have the numbers of their names.
use Rattle.std.proofs.Common.{◌≡◌, ℕ, ◌≤◌, List, [], ◌∷◌, ◌++◌, length, get_or, map, take, All}
use Rattle.std.proofs.Common.{Option, Some, None, IfSome, option_map, unwrap_or, Bool, false, Result, Ok, Err, is_err, IfOk}
use Rattle.std.specs.Result.{OnErr, OnOk}
use Rattle.std.proofs.Common.{bytes_eq, refl, sym, ap, subst, ◌∙◌, ⊎_elim, arith}
use Rattle.std.specs.BTreeSet.{BTreeSet}
use Rattle.std.specs.List.{IsDistinct}
use Rattle.std.proofs.lemmas.Bool.{cases_lt}
use Rattle.std.proofs.lemmas.List.{length-map, length-take, take-map, get_or-take, get_or_past, take_at}
use Rattle.std.proofs.lemmas.List.Elements.{All-head, All-tail}
use Rattle.std.proofs.lemmas.List.Sums.{fold-append}
use Rattle.attr_lists.specs.declared.name_table.entry.NameEntry.{NameEntry}
use Rattle.attr_lists.specs.declared.types.AttributeId.{AttributeId}
use Rattle.attr_lists.specs.declared.types.TrackedAssignment.{TrackedAssignment}
use Rattle.attr_lists.specs.Collections.{Collection}
use Rattle.attr_lists.specs.Definitions.{is_registered, macros_defined, with_list}
use Rattle.attr_lists.specs.Definitions.{HoldsList, IsSoundCollection, RegistersAs}
use Rattle.attr_lists.specs.ListViews.{Entry}
use Rattle.attr_lists.specs.shared.Reading.{NumbersLines, with_first}
use Rattle.attr_lists.specs.Numbers.{id_of, macro_names, names_of, names_in, no_number, numbered, numbered_item, numbered_lines}
use Rattle.attr_lists.specs.Numbers.{with_name, with_names}
use Rattle.attr_lists.specs.Numbers.{AppendsNames, AreNamed, IsNumberOf}
use Rattle.attr_lists.specs.inner.EntryViews.{definitions_view, all_definitions, definitions_at, AreEntries, AreValid, IsEntry}
use Rattle.attr_lists.specs.inner.NameTableView.{Describes}
use Rattle.attr_lists.specs.shared.Keeping.{IsNumbered, StayRegistered}
use Rattle.attr_lists.proofs.NamedDefinitions.{number_where}
use Rattle.attr_lists.proofs.NameLemmas.{with_names-distinct, with_names-extends}
use Rattle.attr_lists.proofs.NameTableLaws.{added_holds, added_keeps, list_numbered, named_sound}
use Rattle.attr_lists.proofs.NumberLemmas.{numbered_known}

-- what holds of a value holds where there is no error
pub no_error : {T E F : Type 0} (r : Result T E) (b : Bool) → b ≡ is_err r → b ≡ false → OnOk r F → F
no_error (Ok x) b e is h = h
no_error (Err x) b e is h = absurd cc

-- what follows from what holds of each value
pub on_value : {T E F : Type 0} {P : T → Type 0} (r : Result T E) → ((x : T) → P x → F) → IfOk r P → OnOk r F
on_value (Ok x) f h = f x h
on_value (Err e) f h = tt

-- names are appended, whether memory runs out or not
pub appended : {T E : Type 0} (r : Result T E) (old new texts : List (List ℕ)) → OnOk r (new ≡ with_names old texts)
    → OnErr r (AppendsNames old new) → AppendsNames old new
appended (Ok x) old new texts named part = let more = with_names-extends old texts in (more.0, named ∙ more.1)
appended (Err e) old new texts named part = part

-- entries without definitions are added for names that are appended
module _ (list now : List NameEntry) (numbers : BTreeSet ℕ) (known : Collection) (names : List (List ℕ)) (whole : Describes list numbers known)
    (more : AppendsNames known.names names) (entries : AreEntries now)
    (same : (n : ℕ) → definitions_at now n ≡ definitions_at list n) where
  pub named_whole : AreValid names → IsDistinct bytes_eq names → length now ≡ length names
      → Describes now numbers (record { names = names; lists = known.lists })
  named_whole valid distinct counted = record {
    sound = named_sound known names more whole.sound valid distinct;
    counted = counted;
    entries = entries;
    defined = λ n. same n ∙ whole.defined n;
    ascending = whole.ascending;
    macros = whole.macros;
  }

  -- the first entries are left, whether or not there is one for each name
  pub first_whole : (count : ℕ) → length (take count now) ≡ length (take count names) → IsSoundCollection (record {
    names = take count names;
    lists = known.lists;
  }) → Describes (take count now) numbers (record { names = take count names; lists = known.lists })
  first_whole count counted sound = record {
    sound = sound;
    counted = counted;
    entries = λ n d lt. let few = length-take count now in
        subst (IsEntry n) (sym (get_or-take count now n d (omega (arith, lt, few)))) (entries n d (omega (arith, lt, few)));
    defined = λ n. ⊎_elim
        (λ lt. ap (λ l. get_or l n []) (sym (take-map definitions_view count now)) ∙ get_or-take count (all_definitions now) n [] lt
        ∙ same n ∙ whole.defined n)
        (λ past. get_or_past (all_definitions (take count now)) n []
        (omega (arith, past, length-take count now, length-map (take count now) definitions_view))
        ∙ sym (sound.numbers n (omega (arith, past, length-take count names))))
        (cases_lt n count);
    ascending = whole.ascending;
    macros = whole.macros;
  }

  -- memory ran out, and the names are those before
  pub read_back : (count : ℕ) → count ≡ length known.names → length list ≤ length now
      → (take count names ≡ known.names) × Describes (take count now) numbers (record { names = take count names; lists = known.lists })
  read_back count count_is longer =
      let back : take count names ≡ known.names = ap (take count) more.1 ∙ take_at known.names more.0 count (sym count_is) in
      let view : List (List ℕ) → Collection = λ ns. record { names = ns; lists = known.lists } in (
        back,
        first_whole count (omega (arith, ap length back, whole.counted, count_is, longer, length-take count now))
            (subst (λ ns. IsSoundCollection (view ns)) (sym back) whole.sound),
      )

-- ---- lines that have the numbers of their names

-- such a name is known
known_name : (names : List (List ℕ)) (name : List ℕ) (id : AttributeId) → IsDistinct bytes_eq names → IsNumberOf names name id
    → (with_name names name ≡ names) × (id_of names name ≡ id)
known_name names name id distinct h =
    let is = number_where names name id.0 distinct h in (
      sym (numbered_known names name id.0 is),
      λ j. record { 0 = ap (λ o. unwrap_or o no_number) is j },
    )

known_items : (names : List (List ℕ)) (items : List TrackedAssignment) → IsDistinct bytes_eq names → AreNamed names items
    → (with_names names (map (λ item. item.inner.name) items) ≡ names) × (map (numbered_item names) items ≡ items)
known_items names [] distinct h = (refl, refl)
known_items names (item ∷ items) distinct h =
    let Named = λ (i : TrackedAssignment). IsNumberOf names i.inner.name i.id in
    let own = known_name names item.inner.name item.id distinct (All-head Named item items h) in
    let rest = known_items names items distinct (All-tail Named item items h) in (
      ap (λ ns. with_names ns (map (λ (i : TrackedAssignment). i.inner.name) items)) own.0 ∙ rest.0,
      λ j. record { id = own.1 j; inner = item.inner } ∷ rest.1 j,
    )

known_line : (names : List (List ℕ)) (entry : Entry) → IsDistinct bytes_eq names → IsNumbered names entry
    → (with_names names (names_of entry) ≡ names) × (numbered names entry ≡ entry)
known_line names entry distinct h =
    let items = known_items names entry.items distinct h.items in
    let macro = known_macro entry.macro h.macro in (
      fold-append with_name names (macro_names entry) (map (λ (i : TrackedAssignment). i.inner.name) entry.items)
          ∙ ap (λ ns. with_names ns (map (λ (i : TrackedAssignment). i.inner.name) entry.items)) macro.0 ∙ items.0,
      λ j. record { pattern = entry.pattern; macro = macro.1 j; items = items.1 j; line = entry.line },
    )
  where
    known_macro : (m : Option AttributeId) → IfSome m (IsNumberOf names entry.pattern.text)
        → (with_names names (unwrap_or (option_map (λ _. entry.pattern.text ∷ []) m) []) ≡ names)
        × (option_map (λ _. id_of names entry.pattern.text) m ≡ m)
    known_macro None h = (refl, refl)
    known_macro (Some id) h = let own = known_name names entry.pattern.text id distinct h in (own.0, ap Some own.1)

pub known_lines : (names : List (List ℕ)) (entries : List Entry) → IsDistinct bytes_eq names → All (IsNumbered names) entries
    → (with_names names (names_in entries) ≡ names) × (numbered_lines names entries ≡ entries)
known_lines names [] distinct h = (refl, refl)
known_lines names (entry ∷ entries) distinct h =
    let own = known_line names entry distinct (All-head (IsNumbered names) entry entries h) in
    let rest = known_lines names entries distinct (All-tail (IsNumbered names) entry entries h) in (
      fold-append with_name names (names_of entry) (names_in entries) ∙ ap (λ ns. with_names ns (names_in entries)) own.0 ∙ rest.0,
      λ j. own.1 j ∷ rest.1 j,
    )

-- lines that are numbered have the numbers of their names
pub lines_numbered_by : (entries : List Entry) (old new : List (List ℕ)) (lines : List Entry) → NumbersLines entries old new lines
    → All (IsNumbered new) lines
lines_numbered_by entries old new lines h =
    subst (All (IsNumbered new)) (sym h.lines)
    (subst (λ ns. All (IsNumbered ns) (numbered_lines ns entries)) (sym h.names) (list_numbered old entries))

-- lines that were numbered first are registered as they are without numbers
pub registered_numbered : (list_id : ℕ) (entries : List Entry) (old : Collection) → IsDistinct bytes_eq old.names
    → let names = with_names old.names (names_in entries) in
    with_list list_id (numbered_lines names entries) (record { names = names; lists = old.lists }) ≡ with_list list_id entries old
registered_numbered list_id entries old distinct =
    let names = with_names old.names (names_in entries) in
    let lines = numbered_lines names entries in
    let known = known_lines names lines (with_names-distinct old.names (names_in entries) distinct) (list_numbered old.names entries) in
    let macros : macros_defined (numbered_lines (with_names names (names_in lines)) lines) ≡ macros_defined lines =
    ap (λ ns. macros_defined (numbered_lines ns lines)) known.0 ∙ ap macros_defined known.1 in
    λ j. record { names = known.0 j; lists = old.lists ++ record { list_id = list_id; macros = macros j } ∷ [] }

-- a list is registered, and the others stay
pub stay_registered : (list_id : ℕ) (entries : List Entry) (old new : Collection) → IsSoundCollection old → RegistersAs list_id entries old new
    → StayRegistered old new
stay_registered list_id entries old new sound registers other es h =
    subst (λ known. HoldsList known other es) (sym registers.added) (added_keeps old list_id entries sound registers.fresh other es h)

-- lines that have numbers already keep them when they are registered
module _ (list_id : ℕ) (entries : List Entry) (old new : Collection) (sound : IsSoundCollection old) (numbered : All (IsNumbered old.names) entries)
    (registers : RegistersAs list_id entries old new) where
  pub names_stay : new.names ≡ old.names
  names_stay = ap (λ (c : Collection). c.names) registers.added ∙ (known_lines old.names entries sound.distinct numbered).0

  pub lines_held : HoldsList new list_id entries
  lines_held =
      let known = known_lines old.names entries sound.distinct numbered in
      subst (λ c. HoldsList c list_id entries) (sym registers.added)
      (subst (HoldsList (with_list list_id entries old) list_id) (ap (λ ns. numbered_lines ns entries) known.0 ∙ known.1)
      (added_holds old list_id entries sound registers.fresh))

-- the names that were there before are the first
pub names_back : (entries lines : List Entry) (before mid : Collection) (count : ℕ) → count ≡ length before.names
    → NumbersLines entries before.names mid.names lines → mid.lists ≡ before.lists → with_first count mid ≡ before
names_back entries lines before mid count is read lists =
    let more = with_names-extends before.names (names_in entries) in
    let same : take count mid.names ≡ before.names =
    ap (take count) (read.names ∙ more.1) ∙ take_at before.names more.0 count (sym is) in
    λ j. record { names = same j; lists = lists j }

-- lines that were numbered first are registered as those without numbers
pub registers_numbered : (list_id : ℕ) (entries lines : List Entry) (before mid after : Collection) → IsSoundCollection before
    → IsSoundCollection mid → NumbersLines entries before.names mid.names lines → mid.lists ≡ before.lists → RegistersAs list_id lines mid after
    → RegistersAs list_id entries before after × NumbersLines entries before.names after.names lines
registers_numbered list_id entries lines before mid after sound later read lists registers =
    let names = names_stay list_id lines mid after later (lines_numbered_by entries before.names mid.names lines read) registers in (
      record {
        fresh = ap (λ ls. is_registered (record { names = before.names; lists = ls }) list_id) (sym lists) ∙ registers.fresh;
        added = registers.added ∙ ap (λ es. with_list list_id es mid) read.lines
            ∙ (λ j. with_list list_id (numbered_lines (read.names j) entries) (record { names = read.names j; lists = lists j }))
            ∙ registered_numbered list_id entries before sound.distinct;
      },
      record { names = names ∙ read.names; lines = read.lines ∙ ap (λ ns. numbered_lines ns entries) (sym names) },
    )

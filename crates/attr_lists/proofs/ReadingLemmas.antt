-- What is read with the numbers of its names.
use Rattle.std.proofs.Common.{◌≡◌, ℕ, ◌+◌, Bool, true, false, List, [], ◌∷◌, ◌++◌, length, map, take, drop, filter, All}
use Rattle.std.proofs.Common.{Option, Some, None, MatchOption, Result, Ok, Err, refl, sym, ap, subst, ◌∙◌, if◌then◌else◌, append-nil}
use Rattle.std.proofs.Common.{append_assoc, slice_get, unwrap_or, arith}
use Rattle.std.specs.Prelude.{◌||◌}
use Rattle.std.specs.List.{filter_map}
use Rattle.std.specs.Result.{result_ok, result_err, result_map_both}
use Rattle.std.proofs.Math.Seq.{take-append_seam}
use Rattle.std.proofs.lemmas.Grind.{common_steps, flat_map-append}
use Rattle.std.proofs.lemmas.List.{length-map, map-append}
use Rattle.std.proofs.lemmas.List.Sums.{fold-append}
use Rattle.attr_glob.specs.Patterns.{Reading}
use Rattle.attr_glob.specs.declared.search.pattern.Mapping.{Mapping}
use Rattle.attr_text.specs.Items.{Refusal, checked_name, with_state}
use Rattle.attr_text.specs.declared.assignment.Assignment.{Assignment}
use Rattle.attr_text.specs.declared.state.State.{State}
use Rattle.attr_lists.specs.LineResults.{LineResult, Target, pattern, macro, macro_name, negative_pattern, results_of}
use Rattle.attr_lists.specs.ListViews.{Entry, entry_view, entries_view}
use Rattle.attr_lists.specs.KeptLists.{tracked, reason_of, unless_refused, items_read, entry_for, line_read, kept_lines, lines_left_out}
use Rattle.attr_lists.specs.KeptLists.{kept_list, dropped_lines, defines_no_macro, kept_list_where, macros_valid, IsReadAs}
use Rattle.attr_lists.specs.Numbers.{AppendsNames, id_of, names_of, names_in, no_number, number_of, numbered, numbered_item}
use Rattle.attr_lists.specs.Numbers.{numbered_lines, with_name, with_names}
use Rattle.attr_lists.specs.declared.types.AttributeId.{AttributeId}
use Rattle.attr_lists.specs.declared.types.DropReason.{DropReason}
use Rattle.attr_lists.specs.declared.types.Dropped.{Dropped}
use Rattle.attr_lists.specs.declared.types.TrackedAssignment.{TrackedAssignment}
use Rattle.attr_lists.specs.declared.types.Value.{Value}
use Rattle.attr_lists.specs.inner.LineSteps.{forgotten, item_name, item_names, numbered_items, target_id, target_names, target_pattern}
use Rattle.attr_lists.specs.inner.NameSteps.{IsItemNumber}
use Rattle.attr_lists.specs.shared.Reading.{IsReadWith, ReadsNumbered}
use Rattle.attr_lists.proofs.KeptLaws.{kept_macros_valid}
use Rattle.attr_lists.proofs.KeptLemmas.{read_after, read-more}
use Rattle.attr_lists.proofs.ListLemmas.{refill_whole}
use Rattle.attr_lists.proofs.NamedDefinitions.{Has, named_at}
use Rattle.attr_lists.proofs.NameLemmas.{extends_again, with_names-extends}
use Rattle.attr_lists.proofs.NameTableLaws.{all_of_map, has_all, has_own, id_stays, items_stay, line_stays}

-- ---- names

-- names that were appended after others were inserted
pub appended_after : (start known now names : List (List ℕ)) → known ≡ with_names start names → AppendsNames known now → AppendsNames start now
appended_after start known now names is more =
    let first = with_names-extends start names in extends_again start known first.0 now more.0 (is ∙ first.1) more.1

-- what is read appends names alone
pub reads_append : {X Y : Type 0} (names : X → List (List ℕ)) (number : List (List ℕ) → X → X) (plain : Result X Y) (old new : List (List ℕ))
    (read : Result X Y) → ReadsNumbered names number plain old new read → AppendsNames old new
reads_append names number (Ok x) old new read is = let more = with_names-extends old (names x) in (more.0, is.0 ∙ more.1)
reads_append names number (Err refusal) old new read is = is.0

-- the names that were appended are removed again
cut_back : (known now after : List (List ℕ)) (count : ℕ) → count ≡ length known → AppendsNames known now → after ≡ take count now → after ≡ known
cut_back known now after count is more cut =
    cut ∙ ap (λ n. take n now) is ∙ ap (take (length known)) more.1 ∙ take-append_seam known more.0

pub back_appends : (start known now after names : List (List ℕ)) (count : ℕ) → known ≡ with_names start names → count ≡ length known
    → AppendsNames known now → after ≡ take count now → AppendsNames start after
back_appends start known now after names count is count_is more cut =
    let first = with_names-extends start names in (first.0, cut_back known now after count count_is more cut ∙ is ∙ first.1)

-- ---- items

pub item_read : (text name : List ℕ) (state own : State) (number : ℕ) (old mid now : List (List ℕ)) → IsItemNumber text old mid (Ok number)
    → slice_get mid number ≡ Some name → own ≡ state → now ≡ mid
    → ReadsNumbered item_name numbered_item (result_map_both tracked reason_of (with_state (checked_name text) state)) old now
    (Ok (record { id = record { 0 = number }; inner = record { name = name; state = own } }))
item_read text name state own number old mid now is at own_is now_is =
    let id : number ≡ unwrap_or (number_of now text) no_number =
    sym (ap (λ o. unwrap_or o no_number) (ap (λ l. number_of l text) now_is ∙ is.2)) in
    let same = named_at mid text number name is.2 at in
    let whole : Result Assignment Refusal → Type 0 =
    λ plain. ReadsNumbered item_name numbered_item (result_map_both tracked reason_of plain) old now
    (Ok (record { id = record { 0 = number }; inner = record { name = name; state = own } })) in
    subst (λ plain. whole (with_state plain state)) (sym is.0)
    (now_is ∙ is.1, λ j. Ok (record { id = record { 0 = id j }; inner = record { name = same j; state = own_is j } }))

-- the items that were read, with those that are left, make the result of all, and they have the numbers of their names
pub record ItemsSoFar (all left : List (Result Assignment Refusal)) (start known : List (List ℕ)) (items : List TrackedAssignment) : Type 0 where
  pub done : List TrackedAssignment
  pub whole : read_after done left ≡ items_read all
  pub names : known ≡ with_names start (item_names done)
  pub items_are : items ≡ numbered_items known done

pub items_append : (all left : List (Result Assignment Refusal)) (start known now : List (List ℕ)) (items : List TrackedAssignment)
    → ItemsSoFar all left start known items → AppendsNames known now → AppendsNames start now
items_append all left start known now items h more = appended_after start known now (item_names h.done) h.names more

-- one more item was read
pub item_more : (all left others : List (Result Assignment Refusal)) (one : Result Assignment Refusal) (start known now : List (List ℕ))
    (before after : List TrackedAssignment) (read : TrackedAssignment) (own : Result TrackedAssignment DropReason)
    → ItemsSoFar all left start known before → left ≡ one ∷ others
    → ReadsNumbered item_name numbered_item (result_map_both tracked reason_of one) known now own → own ≡ Ok read → after ≡ before ++ read ∷ []
    → ItemsSoFar all others start now after
item_more all left others (Err refusal) start known now before after read own h first is own_is grown = absurd (cc (is.1, own_is))
item_more all left others (Ok one) start known now before after read own h first is own_is grown =
    let item : TrackedAssignment = tracked one in
    let text : List (List ℕ) = one.name ∷ [] in
    let name = λ (x : TrackedAssignment). x.inner.name in
    let has = all_of_map (Has known) name h.done (subst (λ l. All (Has l) (item_names h.done)) (sym h.names) (has_all start (item_names h.done))) in
    let same : read ≡ numbered_item now item = cc (is.1, own_is) in
    record {
      done = h.done ++ item ∷ [];
      whole = read-more h.done left (items_read all) (Ok one) others item (h.done ++ item ∷ []) refl h.whole first refl;
      names = is.0 ∙ ap (λ l. with_names l text) h.names ∙ sym (fold-append with_name start (item_names h.done) text)
          ∙ ap (with_names start) (sym (map-append name h.done (item ∷ [])));
      items_are = grown
          ∙ ap (λ l. l ++ read ∷ []) (h.items_are ∙ items_stay known text h.done has ∙ ap (λ l. numbered_items l h.done) (sym is.0))
          ∙ ap (λ x. numbered_items now h.done ++ x ∷ []) same ∙ sym (map-append (numbered_item now) h.done (item ∷ []));
    }

-- an item was refused, so all are
pub items_refused : (all left others : List (Result Assignment Refusal)) (one : Result Assignment Refusal) (start known now : List (List ℕ))
    (items : List TrackedAssignment) (reason : DropReason) (own : Result TrackedAssignment DropReason) → ItemsSoFar all left start known items
    → left ≡ one ∷ others → ReadsNumbered item_name numbered_item (result_map_both tracked reason_of one) known now own → own ≡ Err reason
    → ReadsNumbered item_names numbered_items (items_read all) start now (Err reason)
items_refused all left others (Ok one) start known now items reason own h first is own_is = absurd (cc (is.1, own_is))
items_refused all left others (Err refusal) start known now items reason own h first is own_is =
    let same : reason ≡ reason_of refusal = cc (is.1, own_is) in
    subst (λ plain. ReadsNumbered item_names numbered_items plain start now (Err reason)) (sym (ap (read_after h.done) first) ∙ h.whole)
    (appended_after start known now (item_names h.done) h.names is.0, ap Err same)

-- no item is left
pub items_over : (all left : List (Result Assignment Refusal)) (start known : List (List ℕ)) (items : List TrackedAssignment)
    → ItemsSoFar all left start known items → left ≡ [] → ReadsNumbered item_names numbered_items (items_read all) start known (Ok items)
items_over all left start known items h none =
    subst (λ plain. ReadsNumbered item_names numbered_items plain start known (Ok items))
    (ap Ok (sym (append-nil h.done)) ∙ sym (ap (read_after h.done) none) ∙ h.whole) (h.names, ap Ok h.items_are)

-- ---- a line

-- items that were read, by their view
pub items_by : {S : Type 0} (own : Result S DropReason) (read : S) (items : List TrackedAssignment) → own ≡ Ok read
    → (view : S → List TrackedAssignment) → view read ≡ items → result_map_both view (λ reason. reason) own ≡ Ok items
items_by own read items is view same = ap (result_map_both view (λ reason. reason)) is ∙ ap Ok same

abbrev dropped_for : ℕ → DropReason → Dropped
dropped_for line reason = record { line = line; reason = reason }

pub given_read : (target : Target) (line : ℕ) (plain : Result (List TrackedAssignment) DropReason) (old mid new : List (List ℕ)) (read : Reading)
    (id : Option AttributeId) (items : List TrackedAssignment) (whole : Result (List TrackedAssignment) DropReason)
    → mid ≡ with_names old (target_names target) → id ≡ target_id mid target → read ≡ target_pattern target
    → ReadsNumbered item_names numbered_items plain mid new whole → whole ≡ Ok items
    → ReadsNumbered names_of numbered (result_map_both (entry_for target line) (dropped_for line) plain) old new
    (Ok (record { pattern = read; macro = id; items = items; line = line }))
given_read target line (Err reason) old mid new read id items whole first own read_is is whole_is = absurd (cc (is.1, whole_is))
given_read (pattern p) line (Ok xs) old mid new read id items whole first own read_is is whole_is =
    let same : items ≡ numbered_items new xs = cc (is.1, whole_is) in (
      is.0 ∙ ap (λ l. with_names l (item_names xs)) first,
      λ j. Ok (record { pattern = read_is j; macro = own j; items = same j; line = line }),
    )
given_read (macro name) line (Ok xs) old mid new read id items whole first own read_is is whole_is =
    let same : items ≡ numbered_items new xs = cc (is.1, whole_is) in
    let has : Has mid name = subst (λ l. Has l name) (sym first) (has_own old name) in
    let number : id ≡ Some (id_of new name) =
    own ∙ ap Some (id_stays mid (item_names xs) name has ∙ ap (λ l. id_of l name) (sym is.0)) in (
      is.0 ∙ ap (λ l. with_names l (item_names xs)) first,
      λ j. Ok (record { pattern = read_is j; macro = number j; items = same j; line = line }),
    )

-- ---- lines

-- lines keep their numbers when names are appended
lines_stay : (start more : List (List ℕ)) (lines : List Entry) → numbered_lines (with_names start (names_in lines)) lines ≡ numbered_lines
    (with_names (with_names start (names_in lines)) more) lines
lines_stay start more [] = refl
lines_stay start more (line ∷ lines) =
    let first = with_names start (names_of line) in
    let behind = names_in lines in
    let head : numbered (with_names first behind) line ≡ numbered (with_names (with_names first behind) more) line =
    sym (line_stays start behind line) ∙ line_stays start (behind ++ more) line
    ∙ ap (λ l. numbered l line) (fold-append with_name first behind more) in
    let rest = lines_stay first more lines in
    subst (λ l. numbered_lines l (line ∷ lines) ≡ numbered_lines (with_names l more) (line ∷ lines))
    (sym (fold-append with_name start (names_of line) behind)) (λ j. head j ∷ rest j)

-- the lines of these results that are kept
abbrev pub kept_where : Bool → List LineResult → List Entry
kept_where allow lines = if allow then kept_lines lines else filter defines_no_macro (kept_lines lines)

-- the lines that were read, with those that are left, are those of the buffer, and they have the numbers of their names
pub record LinesSoFar (allow : Bool) (bytes : List ℕ) (left : List LineResult) (start known : List (List ℕ)) (lines : List Entry)
    (dropped : List Dropped) : Type 0 where
  pub done : List Entry
  pub whole : done ++ kept_where allow left ≡ kept_list_where allow bytes
  pub names : known ≡ with_names start (names_in done)
  pub lines_are : lines ≡ numbered_lines known done
  pub left_out : dropped ++ lines_left_out left ≡ dropped_lines bytes

-- the result of a line that was read
pub told_line : (N : Type 0) (told : Option LineResult) (left others : List LineResult) (known now : List (List ℕ)) (read own : Result Entry Dropped)
    → MatchOption told N (λ x. left ≡ x ∷ others) → MatchOption told ⊥ (λ x. ReadsNumbered names_of numbered (line_read x) known now read)
    → read ≡ own → (x : LineResult) × (left ≡ x ∷ others) × ReadsNumbered names_of numbered (line_read x) known now own
told_line N None left others known now read own first is same = absurd is
told_line N (Some x) left others known now read own first is same =
    (x, first, subst (λ r. ReadsNumbered names_of numbered (line_read x) known now r) same is)

pub told_appends : (told : Option LineResult) (known now : List (List ℕ)) (read : Result Entry Dropped)
    → MatchOption told ⊥ (λ x. ReadsNumbered names_of numbered (line_read x) known now read) → AppendsNames known now
told_appends None known now read is = absurd is
told_appends (Some x) known now read is = reads_append names_of numbered (line_read x) known now read is

-- it defines a macro as it does before it is numbered
same_macro : (names : List (List ℕ)) (line : Entry) → defines_no_macro (numbered names line) ≡ defines_no_macro line
same_macro names line = grind arith

kept_one : (allow : Bool) (x : LineResult) (others : List LineResult) (line : Entry) → line_read x ≡ Ok line → (allow || defines_no_macro line) ≡ true
    → kept_where allow (x ∷ others) ≡ line ∷ kept_where allow others
kept_one allow x others line is keeps = grind (arith, common_steps)

omitted_one : (allow : Bool) (x : LineResult) (others : List LineResult) (line : Entry) → line_read x ≡ Ok line
    → (allow || defines_no_macro line) ≡ false → kept_where allow (x ∷ others) ≡ kept_where allow others
omitted_one allow x others line is omits = grind (arith, common_steps)

dropped_one : (allow : Bool) (x : LineResult) (others : List LineResult) (line : Dropped) → line_read x ≡ Err line
    → kept_where allow (x ∷ others) ≡ kept_where allow others
dropped_one allow x others line is = grind (arith, common_steps)

none_left_out : (x : LineResult) (others : List LineResult) (line : Entry) → line_read x ≡ Ok line
    → lines_left_out (x ∷ others) ≡ lines_left_out others
none_left_out x others line is = grind (arith, common_steps)

one_left_out : (x : LineResult) (others : List LineResult) (line : Dropped) → line_read x ≡ Err line
    → lines_left_out (x ∷ others) ≡ line ∷ lines_left_out others
one_left_out x others line is = grind (arith, common_steps)

module _ (allow : Bool) (bytes : List ℕ) (left others : List LineResult) (x : LineResult) (start known now : List (List ℕ)) (before : List Entry)
    (dropped : List Dropped) (h : LinesSoFar allow bytes left start known before dropped) (first : left ≡ x ∷ others) where
  -- one more line is kept
  pub line_kept : (after : List Entry) (read : Entry) → ReadsNumbered names_of numbered (line_read x) known now (Ok read)
      → (allow || defines_no_macro read) ≡ true → after ≡ before ++ read ∷ [] → LinesSoFar allow bytes others start now after dropped
  line_kept after read is keeps grown = by (line_read x) refl is
    where
      by : (plain : Result Entry Dropped) → line_read x ≡ plain → ReadsNumbered names_of numbered plain known now (Ok read)
          → LinesSoFar allow bytes others start now after dropped
      by (Err other) e is = absurd (cc (is.1))
      by (Ok line) e is =
          let same : read ≡ numbered now line = cc (is.1) in
          let keeps_line : (allow || defines_no_macro line) ≡ true =
          ap (λ b. allow || b) (sym (ap defines_no_macro same ∙ same_macro now line)) ∙ keeps in
          let own : names_in (line ∷ []) ≡ names_of line = append-nil (names_of line) in
          let stay = ap (λ l. numbered_lines l h.done) h.names ∙ lines_stay start (names_of line) h.done
          ∙ ap (λ l. numbered_lines (with_names l (names_of line)) h.done) (sym h.names) ∙ ap (λ l. numbered_lines l h.done) (sym is.0) in
          record {
            done = h.done ++ line ∷ [];
            whole = append_assoc h.done (line ∷ []) (kept_where allow others)
                ∙ ap (λ l. h.done ++ l) (sym (ap (kept_where allow) first ∙ kept_one allow x others line e keeps_line)) ∙ h.whole;
            names = is.0 ∙ ap (λ l. with_names l (names_of line)) h.names ∙ sym (fold-append with_name start (names_in h.done) (names_of line))
                ∙ ap (λ l. with_names start (names_in h.done ++ l)) (sym own)
                ∙ ap (with_names start) (sym (flat_map-append names_of h.done (line ∷ [])));
            lines_are = grown ∙ ap (λ l. l ++ read ∷ []) (h.lines_are ∙ stay) ∙ ap (λ e. numbered_lines now h.done ++ e ∷ []) same
                ∙ sym (map-append (numbered now) h.done (line ∷ []));
            left_out = ap (λ l. dropped ++ l) (sym (ap lines_left_out first ∙ none_left_out x others line e)) ∙ h.left_out;
          }

  -- a line that defines a macro is left out, and the names are as they were
  pub line_omitted : (after : List (List ℕ)) (count : ℕ) (read : Entry) → ReadsNumbered names_of numbered (line_read x) known now (Ok read)
      → (allow || defines_no_macro read) ≡ false → count ≡ length known → after ≡ take count now
      → LinesSoFar allow bytes others start after before dropped
  line_omitted after count read is omits count_is cut = by (line_read x) refl is
    where
      by : (plain : Result Entry Dropped) → line_read x ≡ plain → ReadsNumbered names_of numbered plain known now (Ok read)
          → LinesSoFar allow bytes others start after before dropped
      by (Err other) e is = absurd (cc (is.1))
      by (Ok line) e is =
          let same : read ≡ numbered now line = cc (is.1) in
          let omits_line : (allow || defines_no_macro line) ≡ false =
          ap (λ b. allow || b) (sym (ap defines_no_macro same ∙ same_macro now line)) ∙ omits in
          let back = cut_back known now after count count_is (reads_append names_of numbered (Ok line) known now (Ok read) is) cut in
          record {
            done = h.done;
            whole = ap (λ l. h.done ++ l) (sym (ap (kept_where allow) first ∙ omitted_one allow x others line e omits_line)) ∙ h.whole;
            names = back ∙ h.names;
            lines_are = h.lines_are ∙ ap (λ l. numbered_lines l h.done) (sym back);
            left_out = ap (λ l. dropped ++ l) (sym (ap lines_left_out first ∙ none_left_out x others line e)) ∙ h.left_out;
          }

  -- one more line is dropped, and the names are as they were
  pub line_dropped : (after : List (List ℕ)) (count : ℕ) (all : List Dropped) (read : Dropped)
      → ReadsNumbered names_of numbered (line_read x) known now (Err read) → count ≡ length known → after ≡ take count now
      → all ≡ dropped ++ read ∷ [] → LinesSoFar allow bytes others start after before all
  line_dropped after count all read is count_is cut grown = by (line_read x) refl is
    where
      by : (plain : Result Entry Dropped) → line_read x ≡ plain → ReadsNumbered names_of numbered plain known now (Err read)
          → LinesSoFar allow bytes others start after before all
      by (Ok other) e is = absurd (cc (is.1))
      by (Err line) e is =
          let same : read ≡ line = cc (is.1) in
          let back = cut_back known now after count count_is is.0 cut in
          record {
            done = h.done;
            whole = ap (λ l. h.done ++ l) (sym (ap (kept_where allow) first ∙ dropped_one allow x others line e)) ∙ h.whole;
            names = back ∙ h.names;
            lines_are = h.lines_are ∙ ap (λ l. numbered_lines l h.done) (sym back);
            left_out = ap (λ l. l ++ lines_left_out others) (grown ∙ ap (λ d. dropped ++ d ∷ []) same)
                ∙ append_assoc dropped (line ∷ []) (lines_left_out others)
                ∙ ap (λ l. dropped ++ l) (sym (ap lines_left_out first ∙ one_left_out x others line e)) ∙ h.left_out;
          }

-- ---- lines without their numbers

forgotten_items : (names : List (List ℕ)) (assignments : List Assignment)
    → map (λ item. tracked item.inner) (numbered_items names (map tracked assignments)) ≡ map tracked assignments
forgotten_items names [] = refl
forgotten_items names (one ∷ others) = ap (λ l. tracked one ∷ l) (forgotten_items names others)

forgotten_entry : (names : List (List ℕ)) (target : Target) (line : ℕ) (assignments : List Assignment)
    → forgotten (numbered names (entry_for target line (map tracked assignments))) ≡ entry_for target line (map tracked assignments)
forgotten_entry names (pattern p) line assignments = ap (λ l. entry_for (pattern p) line l) (forgotten_items names assignments)
forgotten_entry names (macro name) line assignments = ap (λ l. entry_for (macro name) line l) (forgotten_items names assignments)

forgotten_given : (names : List (List ℕ)) (target : Target) (line : ℕ) (refusals : List Refusal) (assignments : List Assignment) (entry : Entry)
    → result_map_both (entry_for target line) (dropped_for line) (unless_refused refusals (map tracked assignments)) ≡ Ok entry
    → forgotten (numbered names entry) ≡ entry
forgotten_given names target line [] assignments entry is =
    let same : entry_for target line (map tracked assignments) ≡ entry = cc (is) in
    subst (λ e. forgotten (numbered names e) ≡ e) same (forgotten_entry names target line assignments)
forgotten_given names target line (refusal ∷ refusals) assignments entry is = absurd (cc (is))

forgotten_read : (names : List (List ℕ)) (x : LineResult) (entry : Entry) → line_read x ≡ Ok entry → forgotten (numbered names entry) ≡ entry
forgotten_read names (Ok given) entry is =
    forgotten_given names given.target given.line (filter_map result_err given.items) (filter_map result_ok given.items) entry is
forgotten_read names (Err (macro_name line name)) entry is = absurd (cc (is))
forgotten_read names (Err (negative_pattern line text)) entry is = absurd (cc (is))

forgotten_lines : (names : List (List ℕ)) (lines : List LineResult) → map forgotten (numbered_lines names (kept_lines lines)) ≡ kept_lines lines
forgotten_lines names [] = refl
forgotten_lines names (x ∷ lines) = grind (arith, forgotten_lines names lines, forgotten_read names x)

-- the lines of a buffer without their numbers
pub forgotten_kept : (names : List (List ℕ)) (bytes : List ℕ) → map forgotten (numbered_lines names (kept_list bytes)) ≡ kept_list bytes
forgotten_kept names bytes = forgotten_lines names (results_of bytes)

-- what is read without the numbers is what is kept of the buffer
pub forgotten_whole : (bytes : List ℕ) (start names : List (List ℕ)) (old new : List (Mapping Value)) (count : ℕ) (dropped : List Dropped)
    → IsReadWith true bytes start names old dropped → entries_view new ≡ map forgotten (entries_view old) → count ≡ length old
    → IsReadAs bytes (take count (new ++ drop (length new) old)) dropped
forgotten_whole bytes start names old new count dropped h e count_is =
    let longs : length new ≡ length old =
    omega (arith, ap length e, length-map new entry_view, length-map (entries_view old) forgotten, length-map old entry_view) in
    let whole : take count (new ++ drop (length new) old) ≡ new =
    ap (λ n. take n (new ++ drop (length new) old)) count_is ∙ refill_whole old new longs in
    let kept : entries_view new ≡ kept_list bytes = e ∙ ap (map forgotten) h.numbered.lines ∙ forgotten_kept names bytes in
    subst (λ l. IsReadAs bytes l dropped) (sym whole)
    (record { kept = kept; left_out = h.left_out; valid = ap macros_valid kept ∙ kept_macros_valid bytes })

-- Lists whose labels say their indexes keep their sources while lists are added after them and removed.
use Rattle.std.proofs.lemmas.Bool.Decides.{nat_tests}
use Rattle.std.proofs.Common.{◌≡◌, ℕ, ◌+◌, ◌-◌, ◌<◌, ◌≤◌, ◌^◌, List, [], ◌∷◌, ◌++◌, length, map, map-id, take}
use Rattle.std.proofs.Common.{Option, None, sym, ap, ◌∙◌, refl, subst, ap₂, arith, add-zero, length-append, unwrap_or, option_map}
use Rattle.std.specs.Prelude.{Result, OnOk}
use Rattle.std.specs.List.{range_with_len}
use Rattle.std.specs.Fmt.{decimal}
use Rattle.std.proofs.lemmas.List.{get_or_append_left, get_or-append-add, get_or-take, map-append, length-map, length-take-le, take-map}
use Rattle.std.proofs.lemmas.List.FromFn.{map-range_with_len_more, take-map-range_with_len}
use Rattle.gix_attributes.specs.ListView.{Listed}
use Rattle.gix_attributes.specs.Globals.{built_in_source}
use Rattle.gix_attributes.specs.EngineStates.{AddedList, EngineContent, unasked, with_list_below, without_last}
use Rattle.gix_attributes.specs.EngineView.{started}
use Rattle.gix_attributes.specs.Told.{addition_told, content_told, list_told}
use Rattle.yektrod.specs.Sourced.{index_labelled, list_number, source_in}
use Rattle.yektrod.proofs.LabelLemmas.{list_number-decimal}

-- two ways to tell a source agree on a list whose label they agree on
same_source : (f g : List ℕ → List ℕ) (source : Option (List ℕ)) (i : ℕ) → unwrap_or (option_map list_number source) 0 ≡ i
    → ((label : List ℕ) → list_number label ≡ i → f label ≡ g label) → option_map f source ≡ option_map g source
same_source f g source i is agree = grind (arith, nat_tests)

-- and on lists with labels from an index on, if they agree on these
pub same_lists : (f g : List ℕ → List ℕ) (lists : List Listed) (a : ℕ) → map index_labelled lists ≡ range_with_len a (length lists)
    → ((label : List ℕ) → list_number label < a + length lists → f label ≡ g label) → map (list_told f) lists ≡ map (list_told g) lists
same_lists f g [] a labels agree = refl
same_lists f g (l ∷ lists) a labels agree = grind (arith, nat_tests, ap₂, same_source, same_lists f g lists (a + 1))

-- the sources of the lists before one
pub source_before : (sources : List (List ℕ)) (more : List (List ℕ)) (label : List ℕ) → list_number label < length sources
    → source_in (sources ++ more) label ≡ source_in sources label
source_before sources more label before = get_or_append_left sources more [] (list_number label) before

-- the source of the last list
pub source_last : (sources : List (List ℕ)) (source : List ℕ) → length sources < 2 ^ 64
    → source_in (sources ++ source ∷ []) (decimal (length sources)) ≡ source
source_last sources source small =
    grind (arith, nat_tests, list_number-decimal (length sources) small, add-zero (length sources), get_or-append-add sources (source ∷ []) 0)

pub source_kept : (sources : List (List ℕ)) (n : ℕ) (label : List ℕ) → list_number label < n
    → source_in (take n sources) label ≡ source_in sources label
source_kept sources n label before = get_or-take n sources (list_number label) [] before

-- a list more, with the next label
pub labels_more : (lists : List Listed) (l : Listed) → map index_labelled lists ≡ range_with_len 0 (length lists)
    → index_labelled l ≡ length lists → map index_labelled (lists ++ l ∷ []) ≡ range_with_len 0 (length (lists ++ l ∷ []))
labels_more lists l labels is =
    let long : length (lists ++ l ∷ []) ≡ length lists + 1 = length-append lists (l ∷ []) in
    map-append index_labelled lists (l ∷ []) ∙ ap₂ (λ (xs : List ℕ) (n : ℕ). xs ++ n ∷ []) labels is
    ∙ ap (λ xs. xs ++ length lists ∷ []) (sym (map-id (range_with_len 0 (length lists))))
    ∙ sym (map-range_with_len_more (λ n. n) 0 (length lists) (length lists) (omega arith)) ∙ map-id _
    ∙ ap (range_with_len 0) (sym long)

-- fewer lists
pub labels_taken : (lists : List Listed) (n : ℕ) → n ≤ length lists → map index_labelled lists ≡ range_with_len 0 (length lists)
    → map index_labelled (take n lists) ≡ range_with_len 0 (length (take n lists))
labels_taken lists n le labels =
    sym (take-map index_labelled n lists) ∙ ap (take n) (labels ∙ sym (map-id (range_with_len 0 (length lists))))
    ∙ take-map-range_with_len (λ i. i) 0 (length lists) n le ∙ map-id _ ∙ ap (range_with_len 0) (sym (length-take-le n lists le))

-- the built-in list keeps its own label, which is no number
pub labels_started : map index_labelled started.lists ≡ range_with_len 0 (length started.lists)
unfolding built_in_source
labels_started = refl

pub started_told : (sources : List (List ℕ)) → sources ≡ built_in_source ∷ []
    → content_told (source_in sources) (unasked started) ≡ unasked started
unfolding built_in_source
started_told sources is = subst (λ s. content_told (source_in s) (unasked started) ≡ unasked started) (sym is) refl

-- the labels of an engine to which a list was added
pub labels_added : (engine new : EngineContent) (a : AddedList) (n : ℕ)
    → map index_labelled engine.state.lists ≡ range_with_len 0 (length engine.state.lists) → n ≡ length engine.state.lists → n < 2 ^ 64
    → a.source ≡ decimal n → new ≡ with_list_below a engine
    → map index_labelled new.state.lists ≡ range_with_len 0 (length new.state.lists)
labels_added engine new a n labels is small label new_is = grind (arith, nat_tests, labels_more, list_number-decimal)

-- an engine with these lists and no answers, to which a list is added
abbrev with_lists : EngineContent → AddedList → List Listed → EngineContent
with_lists held a lists =
    with_list_below a (record {
      state = record { names = held.state.names; lists = lists; selection = held.state.selection };
      answers = None;
      found = [];
      dropped = [];
    })

-- and what is told of it
pub told_added : (engine new : EngineContent) (sources : List (List ℕ)) (source : List ℕ) (a : AddedList)
    → map index_labelled engine.state.lists ≡ range_with_len 0 (length engine.state.lists) → length sources ≡ length engine.state.lists
    → length sources < 2 ^ 64 → a.source ≡ decimal (length sources) → new ≡ with_list_below a engine
    → ((told : List ℕ → List ℕ) → content_told told (with_list_below a engine)
    ≡ with_list_below (addition_told told a) (content_told told engine))
    → content_told (source_in (sources ++ source ∷ [])) new
    ≡ with_list_below (record a { source = source }) (content_told (source_in sources) engine)
told_added engine new sources source a labels as_many small label new_is law =
    let more = source_in (sources ++ source ∷ []) in
    ap (content_told more) new_is ∙ law more
    ∙ ap (with_lists engine (addition_told more a))
    (same_lists more (source_in sources) engine.state.lists 0 labels
    (λ label before. source_before sources (source ∷ []) label (omega (arith, before, as_many))))
    ∙ ap (λ (s : List ℕ). with_list_below (record a { source = s }) (content_told (source_in sources) engine))
    (ap more label ∙ source_last sources source small)

-- an engine with these lists and no answers
abbrev alone : EngineContent → List Listed → EngineContent
alone held lists =
    record {
      state = record { names = held.state.names; lists = lists; selection = held.state.selection };
      answers = None;
      found = [];
      dropped = held.dropped;
    }

-- the labels of an engine of which the last list was removed
pub labels_popped : (engine new : EngineContent) → map index_labelled engine.state.lists ≡ range_with_len 0 (length engine.state.lists)
    → new ≡ without_last engine → map index_labelled new.state.lists ≡ range_with_len 0 (length new.state.lists)
labels_popped engine new labels new_is = grind (arith, nat_tests, labels_taken)

-- and what is told of it
pub told_popped : (engine new : EngineContent) (sources : List (List ℕ))
    → map index_labelled engine.state.lists ≡ range_with_len 0 (length engine.state.lists) → length sources ≡ length engine.state.lists
    → new ≡ without_last engine
    → ((told : List ℕ → List ℕ) → content_told told (without_last engine) ≡ without_last (content_told told engine))
    → content_told (source_in (take (length sources - 1) sources)) new ≡ without_last (content_told (source_in sources) engine)
told_popped engine new sources labels as_many new_is law =
    let n = length engine.state.lists - 1 in
    let fewer = source_in (take (length sources - 1) sources) in
    let le : n ≤ length engine.state.lists = omega arith in
    ap (content_told fewer) new_is
    ∙ ap (alone engine)
    (same_lists fewer (source_in sources) (take n engine.state.lists) 0 (labels_taken engine.state.lists n le labels)
    (λ label before. source_kept sources (length sources - 1) label (omega (arith, before, as_many, length-take-le n engine.state.lists le))))
    ∙ law (source_in sources)

-- a call that is done leaves what it leaves under each telling
pub on_ok : {T E : Type 0} {P Q : Type 0} (r : Result T E) → (P → Q) → OnOk r P → OnOk r Q
on_ok r f p = grind (arith, nat_tests)

-- the sources that are left, as texts
pub sources_popped : {V : Type 0} (f : V → List ℕ) (old new : List V) (k : ℕ) → k ≡ length old → new ≡ take (k - 1) old
    → map f new ≡ take (length (map f old) - 1) (map f old)
sources_popped f old new k is new_is = grind (arith, nat_tests, take-map, length-map)

pub count_popped : {V : Type 0} (old new : List V) (k : ℕ) → k ≡ length old → new ≡ take (k - 1) old → length new ≡ length old - 1
count_popped old new k is new_is = ap length new_is ∙ length-take-le (k - 1) old (omega (arith, is)) ∙ ap (λ n. n - 1) is

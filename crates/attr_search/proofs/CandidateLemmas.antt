-- A search of a list goes through its candidates alone: the lines that it passes over give nothing.
use Rattle.std.proofs.Common.{◌≡◌, ℕ, ◌+◌, ◌-◌, ◌<◌, ◌≤◌, Bool, true, false, ◌&&◌, List, [], ◌∷◌, length, reverse, map, get_or}
use Rattle.std.proofs.Common.{Option, Some, None, refl, sym, ap, ◌∙◌, arith}
use Rattle.std.specs.Prelude.{All, MatchOption, ⊤, is_none}
use Rattle.std.specs.List.{flat_map}
use Rattle.std.proofs.Math.Logic.{∥∥₁_elim}
use Rattle.std.proofs.Math.Bool.{Bool-set}
use Rattle.std.proofs.lemmas.List.{length-map, length-reverse, map-append, append-nil, get_or-reverse}
use Rattle.std.proofs.lemmas.Grind.{flat_map-append}
use Rattle.std.proofs.lemmas.Nat.{and_assoc}
use Rattle.std.specs.Int.Bits.{bit_and}
use Rattle.attr_wildmatch.specs.declared.case.Case.{Case}
use Rattle.attr_glob.specs.declared.search.pattern.Mapping.{Mapping}
use Rattle.attr_glob.specs.Bases.{rest_below}
use Rattle.attr_glob.specs.Candidates.{has_macro_mode, indexes_where}
use Rattle.attr_glob.specs.Paths.{path_matches}
use Rattle.attr_glob.specs.Patterns.{Reading, reading, has_flag, negative, no_sub_dir, ends_with, must_be_dir, absolute}
use Rattle.attr_glob.specs.Views.{patterns_of}
use Rattle.attr_wildmatch.proofs.ForCallers.{by_test, equal, equal_so, reverse-cons}
use Rattle.attr_lists.specs.declared.types.AttributeId.{AttributeId}
use Rattle.attr_lists.specs.declared.types.Value.{Value}
use Rattle.attr_lists.specs.ListViews.{Entry}
use Rattle.attr_table.specs.shared.Walk.{backwards}
use Rattle.bstr.specs.BStr.{bstr_bytes}
use Rattle.attr_search.specs.declared.indexed_list.IndexedList.{IndexedList}
use Rattle.attr_search.specs.declared.path_query.PathQuery.{PathQuery}
use Rattle.attr_search.specs.IndexedLists.{listed_view}
use Rattle.attr_search.specs.inner.Searched.{list_candidates}
use Rattle.attr_search.specs.shared.ReadLines.{AreRead}
use Rattle.attr_search.specs.inner.EntryAt.{no_entry}
use Rattle.attr_search.specs.inner.Trying.{AreTried, TakesMatching}
use Rattle.attr_search.proofs.EntryAtLemmas.{lines_patterns}
use Rattle.attr_search.specs.Settings.{gives}
use Rattle.attr_search.specs.inner.Lines.{entry_tasks}

-- what has all flags is negative
not_macro : (r : Reading) → has_flag r.mode negative ≡ false → has_macro_mode r ≡ false
not_macro r plain =
    let all = no_sub_dir + ends_with + must_be_dir + negative + absolute in
    by_test (has_macro_mode r)
    (λ t.
    let e : bit_and r.mode all ≡ all = equal (bit_and r.mode all) all t in
    let d : bit_and r.mode negative ≡ negative = sym (and_assoc negative r.mode all) ∙ ap (λ n. bit_and n negative) e in
    let f : has_flag r.mode negative ≡ true = equal_so (bit_and r.mode negative) negative d in
    let g : true ≡ false = sym f ∙ plain in
    absurd (cc))
    (λ f. f)

-- a line that is no candidate gives nothing
passed_by : (case : Case) (is_dir : Option Bool) (rest : List ℕ) (test : Reading → Bool) → TakesMatching case rest test →
    (o : Option AttributeId) (r : Reading) →
    MatchOption o ((text : List ℕ) × (reading text ≡ Some r) × (has_flag r.mode negative ≡ false)) (λ id. ⊤) →
    test r ≡ false → is_none o && path_matches case r rest is_dir ≡ false
passed_by case is_dir rest test takes (Some id) r known out = refl
passed_by case is_dir rest test takes None r known out =
    by_test (path_matches case r rest is_dir)
    (λ t. grind (arith, not_macro))
    (λ f. f)

passed_at : (case : Case) (is_dir : Option Bool) (rest : List ℕ) (test : Reading → Bool) → TakesMatching case rest test → (lines : List Entry) →
    ∥ AreRead lines ∥₁ → (k : ℕ) (d : Entry) → k < length lines → test (get_or lines k d).pattern ≡ false →
    gives case is_dir (Some rest) (get_or lines k d) ≡ false
passed_at case is_dir rest test takes lines read k d lt out =
    ∥∥₁_elim read (Bool-set (gives case is_dir (Some rest) (get_or lines k d)) false)
    (λ all. passed_by case is_dir rest test takes (get_or lines k d).macro (get_or lines k d).pattern (all k d lt) out)

-- a list that is gone through from its end, reversed
pub backwards-reverse : {X Y : Type 0} (f : X → List Y) (xs : List X) → backwards f xs ≡ flat_map f (reverse xs)
backwards-reverse f [] = refl
backwards-reverse f (x ∷ xs) = grind (arith, append-nil, flat_map-append, reverse-cons, backwards-reverse f xs)

-- the indexes by a test of what the elements give
indexes_where-map : {X Y : Type 0} (test : Y → Bool) (g : X → Y) (xs : List X) → indexes_where test (map g xs) ≡ indexes_where (λ x. test (g x)) xs
indexes_where-map test g [] = refl
indexes_where-map test g (x ∷ xs) = grind (arith, length-map, indexes_where-map test g xs)

map-reverse : {X Y : Type 0} (g : X → Y) (xs : List X) → reverse (map g xs) ≡ map g (reverse xs)
map-reverse g [] = refl
map-reverse g (x ∷ xs) = grind (arith, reverse-cons, map-append, map-reverse g xs)

-- what stands at an index of the reversed list, and what it gives where it is no candidate
pub turned_at : {X : Type 0} (xs : List X) (k : ℕ) (d : X) → k < length (reverse xs) →
    get_or xs (length (reverse xs) - 1 - k) d ≡ get_or (reverse xs) k d
turned_at xs k d lt = grind (arith, length-reverse, get_or-reverse)

pub passed_entry : (case : Case) (is_dir : Option Bool) (source : Option (List ℕ)) (rest : List ℕ) (test : Reading → Bool) →
    TakesMatching case rest test → (lines : List Entry) → ∥ AreRead lines ∥₁ → (k : ℕ) → k < length (reverse lines) →
    test (get_or (reverse lines) k no_entry).pattern ≡ false → entry_tasks case is_dir source rest (get_or (reverse lines) k no_entry) ≡ []
passed_entry case is_dir source rest test takes lines read k lt out =
    let long = length-reverse lines in
    let within : k < length lines = omega arith in
    let back : length lines - 1 - k < length lines = omega arith in
    let e = get_or-reverse lines k no_entry within in
    let nothing : gives case is_dir (Some rest) (get_or (reverse lines) k no_entry) ≡ false =
    rw e (passed_at case is_dir rest test takes lines read (length lines - 1 - k) no_entry back (rw e at out)) in
    rw nothing refl

pub tried_turned : (test : Reading → Bool) (lines : List Entry) →
    indexes_where test (reverse (map (λ entry. entry.pattern) lines)) ≡ indexes_where (λ entry. test entry.pattern) (reverse lines)
tried_turned test lines = grind (arith, map-reverse, indexes_where-map)

indexes_fit : {X : Type 0} (test : X → Bool) (xs : List X) (n : ℕ) → length xs ≤ n →
    (k d : ℕ) → k < length (indexes_where test xs) → get_or (indexes_where test xs) k d < n
indexes_fit test [] n le = λ k d lt. absurd (omega arith)
indexes_fit test (x ∷ xs) n le = grind (arith, indexes_fit test xs n)

pub tried_fit : (case : Case) (rest : List ℕ) (ms : List (Mapping Value)) (found : List ℕ) →
    AreTried case rest (patterns_of ms) found → All (λ index. index < length ms) found
tried_fit case rest ms found are = grind (arith, length-reverse, length-map, indexes_fit)

-- a test that implies another passes at no more indexes
fewer_indexes : {X : Type 0} (p q : X → Bool) → ((x : X) → p x ≡ true → q x ≡ true) → (xs : List X) →
    length (indexes_where p xs) ≤ length (indexes_where q xs)
fewer_indexes p q so [] = omega arith
fewer_indexes p q so (x ∷ xs) = grind (arith, fewer_indexes p q so xs)

-- no more lines are tried than there are candidates
pub tried_most : (query : PathQuery) (path : List ℕ) (list : IndexedList) (found : List ℕ) →
    Some path ≡ rest_below (listed_view list).base query.case (bstr_bytes query.path) →
    AreTried query.case path (patterns_of list.list.patterns.items) found → length found ≤ list_candidates (listed_view list) query
tried_most query path list found below are = grind (arith, fewer_indexes, lines_patterns)

use Rattle.std.proofs.lemmas.List.Elements.{All-nil}
use Rattle.std.proofs.lemmas.Bool.Decides.{nat_tests}
use Rattle.std.proofs.Common.{◌≡◌, ◌∙◌, ◌+◌, ◌∷◌, [], ◌++◌, List, Vec, Global, map, drop, string_bytes, sym, ap, subst, arith, Result, OnErr}
use Rattle.std.proofs.lemmas.List.{map-append}
use Rattle.attr_lists.specs.declared.types.Dropped.{Dropped}
use Rattle.attr_lists.specs.Collections.{Collection}
use Rattle.gix_attributes.specs.Additions.{IsIo, RefusedBy, RegisteredLists}
use Rattle.gix_attributes.specs.Keeping.{Adds, AddsBeforeRefusal, Keeps}
use Rattle.gix_attributes.specs.Registers.{no_lists}
use Rattle.gix_attributes.proofs.GlobalLemmas.{one_added, refused_between, refused_by, fails_later, of_error, names_parted, one_more_name}
use Rattle.gix_attributes.proofs.KeepingLemmas.{adds_same, adds_then, keeps_same, keeps_then}
use Rattle.gix_attributes.proofs.search.attributes.Search.new_globals_from.Goals as goal

of_refusal : {T E : Type 0} (r : Result T E) (P : Type 0) → P → OnErr r P
of_refusal r P h = grind (arith, nat_tests)

-- what was added before the call was refused
before_refusal : (old after : Collection) (lists : RegisteredLists) → lists.known ≡ after → Keeps (no_lists old) lists → Adds (no_lists old) lists
    → AddsBeforeRefusal old after
before_refusal old after lists same kept added = record { lists = lists; known = same; kept = kept; added = added }

pub returns-in_err-search-clause-added_before : goal.returns-in_err-search-clause-added_before
returns-in_err-search-clause-added_before g c = of_refusal c.from_residual.result
    (AddsBeforeRefusal c.args.collection.now c.new_built_in.new.collection) (before_refusal c.args.collection.now c.new_built_in.new.collection
    (no_lists c.args.collection.now)
    (sym c.in_err-search.ensures.refused) (keeps_same (no_lists c.args.collection.now)) (adds_same (no_lists c.args.collection.now)))

pub returns-in_err-reserve-clause-added_before : goal.returns-in_err-reserve-clause-added_before
returns-in_err-reserve-clause-added_before g c = grind (arith, nat_tests, of_refusal, before_refusal)

pub returns-in_err-source-clause-added_before : goal.returns-in_err-source-clause-added_before
returns-in_err-source-clause-added_before g c = grind (arith, nat_tests, of_refusal, before_refusal)

pub returns-in_err-added-clause-added_before : goal.returns-in_err-added-clause-added_before
returns-in_err-added-clause-added_before g c = grind (arith, nat_tests, of_refusal, before_refusal)

pub loop-name-init : goal.loop-name-init
loop-name-init g c =
    grind (arith, All-nil, c.in_ok-search.ensures.loaded, c.new-dropped.ensures.items, c.in_ok-search.ensures.kept, c.in_ok-search.ensures.added)

pub returns-in_err-reserve-clause-refused : goal.returns-in_err-reserve-clause-refused
returns-in_err-reserve-clause-refused g c = of_error c.from_residual-in_err-reserve.result _ _ c.from_residual-in_err-reserve.ensures.1 (λ e is.
    refused_between g.F.Files.reads c.args.files.now c.loop-name.files _ (map string_bytes (drop c.loop-name.name-index c.args.names.now)) _
    c.args.collection.now _ _ e c.loop-name.invariant.added (names_parted string_bytes c.args.names.now c.loop-name.name-index) is)

pub returns-in_err-source-clause-refused : goal.returns-in_err-source-clause-refused
returns-in_err-source-clause-refused g c = of_error c.from_residual-in_err-source.result _ _ c.from_residual-in_err-source.ensures.1 (λ e is.
    refused_between g.F.Files.reads c.args.files.now c.loop-name.files _ (map string_bytes (drop c.loop-name.name-index c.args.names.now)) _
    c.args.collection.now _ _ e c.loop-name.invariant.added (names_parted string_bytes c.args.names.now c.loop-name.name-index) is)

pub returns-in_err-added-clause-refused : goal.returns-in_err-added-clause-refused
returns-in_err-added-clause-refused g c = of_error c.from_residual-in_err-added.result _ _ c.from_residual-in_err-added.ensures.1 (λ e is.
    let i = c.loop-name.name-index in
    let names = c.args.names.now in
    let ensured = c.in_err-added.ensures in
    let next = one_more_name string_bytes names i c.name-item.result (string_bytes c.in_ok-source.source) c.loop-name-test.true c.name-item.is
    c.in_ok-source.ensures.cases in
    let refused = refused_by g.F.Files.reads c.args.files.now c.loop-name.files c.add_patterns_file_from.new.files _
    (string_bytes c.in_ok-source.source)
    (map string_bytes (drop (i + 1) names)) _ c.args.collection.now _ _ ensured.read.0 e c.loop-name.invariant.added ensured.read.1
    (ap (λ ns. ns ++ map string_bytes (drop (i + 1) names)) next ∙ names_parted string_bytes names (i + 1))
    (subst (RefusedBy ensured.read.0) (sym is) ensured.read.2) in grind (arith, nat_tests, string_bytes))

pub returns-in_err-added-clause-device : goal.returns-in_err-added-clause-device
returns-in_err-added-clause-device g c = of_error c.from_residual-in_err-added.result _ _ c.from_residual-in_err-added.ensures.1 (λ e is. λ io.
    fails_later _ _ _ c.loop-name.invariant.count c.in_err-added.ensures.count (c.in_err-added.ensures.device (subst IsIo is io)))

pub loop-name-preserved : goal.loop-name-preserved
loop-name-preserved g c =
    let i = c.loop-name.name-index in
    let names = c.args.names.now in
    let ensured = c.in_ok-added.ensures in
    let file = ensured.read.2 in
    let bytes : Vec Dropped Global → List Dropped = λ lines. lines.items in
    let next = one_more_name string_bytes names i c.name-item.result (string_bytes c.in_ok-source.source) c.loop-name-test.true c.name-item.is
    c.in_ok-source.ensures.cases in
    let pushed : c.push_reserved.new.self.items ≡ c.loop-name.dropped.items ++ c.in_ok-added.added.dropped ∷ [] =
    c.push_reserved.ensures.items ∙ ap (λ all. all ++ c.in_ok-added.added.dropped ∷ []) c.in_ok-reserve.ensures.items in
    let grown = ap (map bytes) pushed ∙ map-append bytes c.loop-name.dropped.items (c.in_ok-added.added.dropped ∷ []) in
    record {
      added = grind (arith, nat_tests, one_added, string_bytes, c.loop-name.invariant.added);
      held = ensured.held c.loop-name.invariant.held;
      kept = keeps_then _ _ _ c.loop-name.invariant.kept ensured.kept;
      registered = adds_then _ _ _ c.loop-name.invariant.registered ensured.added;
      count = omega (arith, c.loop-name.invariant.count, ensured.count);
    }

-- The rows of lines whose keys the texts of a path have.
use Rattle.std.proofs.Common.{◌≡◌, ℕ, zero, suc, Bool, true, false, ◌&&◌, ◌||◌, ◌⊎◌, inl, inr, List, [], ◌∷◌, ◌++◌, map, reverse}
use Rattle.std.proofs.Common.{None, Some, Option, refl, sym, ap, subst, ◌∙◌, arith}
use Rattle.std.specs.Prelude.{slice_get, unwrap_or}
use Rattle.std.proofs.lemmas.Bool.Decides.{nat_tests}
use Rattle.std.proofs.lemmas.List.Folds.{list_any-append}
use Rattle.attr_keys.specs.declared.hashed.HashedRows.{HashedRows}
use Rattle.attr_keys.specs.declared.key.Keys.{Keys}
use Rattle.attr_keys.specs.declared.key.Subject.{Subject}
use Rattle.attr_keys.specs.declared.key.View.{View}
use Rattle.attr_keys.specs.declared.key.Subject.TheVariants.{Name, End, Path, Anything, Nothing}
use Rattle.attr_keys.specs.declared.key_index.KeyRows.{KeyRows}
use Rattle.attr_keys.specs.shared.KeyContents.{KeyContent}
use Rattle.attr_keys.specs.inner.Cases.{content_in_case, in_case, keys_seen, natural, seen_keys, seen_text}
use Rattle.attr_keys.specs.inner.Buckets.{IsHashed, IsHashedAt, head_of}
use Rattle.attr_keys.specs.inner.Hashes.{text_hash}
use Rattle.attr_keys.specs.inner.Links.{IsLed}
use Rattle.attr_keys.specs.inner.MetRows.{AppendsMet, AppendsRows}
use Rattle.attr_keys.specs.inner.Orders.{AreSorted, sorted_rows}
use Rattle.attr_keys.specs.shared.Meeting.{directed, is_about, is_end, text_has, content_met_at}
use Rattle.attr_keys.specs.shared.Rows.{has_row}
use Rattle.attr_keys.proofs.Meetings.{has_in_case}
use Rattle.attr_keys.proofs.RowLemmas.{by_test}
use Rattle.attr_keys.proofs.SeenTexts.{directed_in_case, directed_twice, seen_lower}

-- the keys of lines, as they are read
pub seen_by : {K : Type 0} (content : K → KeyContent) (keys : Keys K) (lines : List K) (fold from_end : Bool) → keys.lines.now ≡ lines →
    keys.view.fold ≡ fold → keys.view.from_end ≡ from_end → keys_seen content keys ≡ seen_keys fold from_end (map content lines)
seen_by content keys lines fold from_end is folds ends = grind (arith, nat_tests)

-- a text has a key as both are read
pub text_seen : (view : View) (fold from_end : Bool) (text : List ℕ) (seen keys : List KeyContent) (row : ℕ) (before test : Bool) →
    view.fold ≡ fold → view.from_end ≡ from_end → seen ≡ keys →
    before || (test && text_has (seen_text view text) (slice_get seen row))
    ≡ before || (test && text_has (in_case fold (directed from_end text)) (slice_get keys row))
text_seen view fold from_end text seen keys row before test folds ends is = grind (arith, nat_tests)

-- a key without a capital letter
lower_at : (keys : List KeyContent) (row : ℕ) (key : KeyContent) → map (content_in_case true) keys ≡ keys → slice_get keys row ≡ Some key →
    content_in_case true key ≡ key
lower_at (k ∷ keys) zero key lower is =
    let own : k ≡ key = ap (λ o. unwrap_or o key) is in
    ap (content_in_case true) (sym own) ∙ (ap (λ l. unwrap_or (slice_get l 0) k) lower ∙ own)
lower_at (k ∷ keys) (suc row) key lower is = lower_at keys row key (ap (λ l. tail l) lower) is
  where
    tail : List KeyContent → List KeyContent
    tail [] = []
    tail (x ∷ xs) = xs
lower_at [] row key lower is = let no : None ≡ Some key = is in absurd cc

hashed_lower : (key : KeyContent) (hashed : HashedRows) (row : ℕ) → content_in_case true key ≡ key → IsHashed false key hashed row →
    IsHashed true key hashed row
hashed_lower key hashed row lower is = record {
  kind = is.kind;
  led = subst (λ t. ∥ IsLed hashed.links.items (head_of hashed (text_hash t)) row ∥₁) same is.led;
  short = is.short;
}
  where
    same : natural key ≡ in_case true (natural key)
    same = ap natural (sym lower) ∙ directed_in_case (is_end key.subject) true key.text

-- keys without a capital letter are the same in lower case
pub sorted_for : (fold : Bool) (keys : List KeyContent) (rows : KeyRows) → map (content_in_case true) keys ≡ keys → AreSorted false keys rows →
    AreSorted fold keys rows
sorted_for false keys rows lower are = are
sorted_for true keys rows lower are = record {
  kinds = record {
    counted = are.kinds.counted;
    of = are.kinds.of;
    all = λ row key is keeps lacks. hashed_lower key rows.hashed row (lower_at keys row key lower is) (are.kinds.all row key is keeps lacks);
  };
  names = grind (arith, nat_tests, seen_lower, are.names);
  ends = grind (arith, nat_tests, seen_lower, are.ends);
  paths = grind (arith, nat_tests, seen_lower, are.paths);
}

-- a key is met if its subject has it
name_met : (fold : Bool) (name path : List ℕ) (keys : List KeyContent) (row : ℕ) → is_about Name (slice_get keys row) ≡ true →
    text_has (in_case fold name) (slice_get (seen_keys fold false keys) row) ≡ content_met_at fold name path (slice_get keys row)
name_met fold name path (key ∷ keys) (suc row) is = name_met fold name path keys row is
name_met fold name path [] row is = let no : false ≡ true = is in absurd cc
name_met fold name path (key ∷ keys) zero is = grind (arith, nat_tests, has_in_case fold name key)

path_met : (fold : Bool) (name path : List ℕ) (keys : List KeyContent) (row : ℕ) → is_about Path (slice_get keys row) ≡ true →
    text_has (in_case fold path) (slice_get (seen_keys fold false keys) row) ≡ content_met_at fold name path (slice_get keys row)
path_met fold name path (key ∷ keys) (suc row) is = path_met fold name path keys row is
path_met fold name path [] row is = let no : false ≡ true = is in absurd cc
path_met fold name path (key ∷ keys) zero is = grind (arith, nat_tests, has_in_case fold path key)

end_met : (fold : Bool) (name path : List ℕ) (keys : List KeyContent) (row : ℕ) → is_about End (slice_get keys row) ≡ true →
    text_has (in_case fold (reverse name)) (slice_get (seen_keys fold true keys) row) ≡ content_met_at fold name path (slice_get keys row)
end_met fold name path (key ∷ keys) (suc row) is = end_met fold name path keys row is
end_met fold name path [] row is = let no : false ≡ true = is in absurd cc
end_met fold name path (key ∷ keys) zero is = grind (arith, nat_tests, has_in_case fold (reverse name) key, directed_twice true key.text)

any_met : (fold : Bool) (name path : List ℕ) (key : Option KeyContent) → is_about Anything key ≡ true → content_met_at fold name path key ≡ true
any_met fold name path None is = is
any_met fold name path (Some key) is = grind (arith, nat_tests)

-- What was found by hashes, and among the rows of each subject, are the rows of all lines whose keys the texts have.
pub all_met : (fold : Bool) (name path : List ℕ) (keys : List KeyContent) (rows : KeyRows) (by_hash by_name by_end by_path all : List ℕ) →
    AreSorted fold keys rows →
    AppendsMet (λ row. content_met_at fold name path (slice_get keys row) ≡ true) (IsHashedAt fold keys rows.hashed) [] by_hash →
    AppendsRows (has_row rows.names.rows.items) (seen_keys fold false keys) (in_case fold name) by_hash by_name →
    AppendsRows (has_row rows.ends.rows.items) (seen_keys fold true keys) (in_case fold (reverse name)) by_name by_end →
    AppendsRows (has_row rows.paths.rows.items) (seen_keys fold false keys) (in_case fold path) by_end by_path →
    all ≡ by_path ++ rows.others.items → (row : ℕ) → has_row all row ≡ content_met_at fold name path (slice_get keys row)
all_met fold name path keys rows by_hash by_name by_end by_path all are hashed names ends paths is row =
    same_tests (has_row all row) (content_met_at fold name path (slice_get keys row)) sound (complete (slice_get keys row) refl)
  where
    same_tests : (a b : Bool) → (a ≡ true → b ≡ true) → (b ≡ true → a ≡ true) → a ≡ b
    same_tests true b f g = sym (f refl)
    same_tests false true f g = g refl
    same_tests false false f g = refl

    from_name : has_row by_name row ≡ true → has_row all row ≡ true
    from_name has = grind (arith, nat_tests, list_any-append, ends row, paths row)

    of_hash : has_row by_hash row ≡ true → content_met_at fold name path (slice_get keys row) ≡ true
    of_hash has = none_before (hashed.sound row has)
      where
        none_before : (has_row [] row ≡ true) ⊎ (content_met_at fold name path (slice_get keys row) ≡ true) →
            content_met_at fold name path (slice_get keys row) ≡ true
        none_before (inl lacks) = let bad : false ≡ true = lacks in absurd cc
        none_before (inr met) = met

    of_name : has_row by_name row ≡ true → content_met_at fold name path (slice_get keys row) ≡ true
    of_name has =
        by_test (has_row by_hash row) of_hash
        (λ f. let own : has_row rows.names.rows.items row ≡ true = grind (arith, nat_tests, names row) in
        let text : text_has (in_case fold name) (slice_get (seen_keys fold false keys) row) ≡ true = grind (arith, nat_tests, names row) in
        sym (name_met fold name path keys row (are.kinds.of Name row own)) ∙ text)

    of_end : has_row by_end row ≡ true → content_met_at fold name path (slice_get keys row) ≡ true
    of_end has =
        by_test (has_row by_name row) of_name
        (λ f. let own : has_row rows.ends.rows.items row ≡ true = grind (arith, nat_tests, ends row) in
        let text : text_has (in_case fold (reverse name)) (slice_get (seen_keys fold true keys) row) ≡ true = grind (arith, nat_tests, ends row) in
        sym (end_met fold name path keys row (are.kinds.of End row own)) ∙ text)

    of_path : has_row by_path row ≡ true → content_met_at fold name path (slice_get keys row) ≡ true
    of_path has =
        by_test (has_row by_end row) of_end
        (λ f. let own : has_row rows.paths.rows.items row ≡ true = grind (arith, nat_tests, paths row) in
        let text : text_has (in_case fold path) (slice_get (seen_keys fold false keys) row) ≡ true = grind (arith, nat_tests, paths row) in
        sym (path_met fold name path keys row (are.kinds.of Path row own)) ∙ text)

    sound : has_row all row ≡ true → content_met_at fold name path (slice_get keys row) ≡ true
    sound has =
        by_test (has_row by_path row) of_path
        (λ f. let own : has_row rows.others.items row ≡ true = grind (arith, nat_tests, list_any-append) in
        any_met fold name path (slice_get keys row) (are.kinds.of Anything row own))

    among : (s : Subject) → is_about s (slice_get keys row) ≡ true → content_met_at fold name path (slice_get keys row) ≡ true →
        has_row (sorted_rows s rows) row ≡ true → has_row all row ≡ true
    among Name about met has = grind (arith, nat_tests, list_any-append, names row, ends row, paths row, name_met)
    among End about met has = grind (arith, nat_tests, list_any-append, ends row, paths row, end_met)
    among Path about met has = grind (arith, nat_tests, list_any-append, paths row, path_met)
    among Anything about met has = grind (arith, nat_tests, list_any-append)
    among Nothing about met has = let no : false ≡ true = has in absurd cc

    by : (key : KeyContent) → slice_get keys row ≡ Some key → content_met_at fold name path (slice_get keys row) ≡ true → has_row all row ≡ true
    by key at met =
        by_test (has_row (sorted_rows key.subject rows) row) (among key.subject (grind (arith, nat_tests)) met)
        (λ f. let found : has_row by_hash row ≡ true = hashed.all row (key, at, are.kinds.all row key at (grind (arith, nat_tests)) f) met in
        from_name (grind (arith, nat_tests, names row)))

    complete : (key : Option KeyContent) → slice_get keys row ≡ key →
        content_met_at fold name path (slice_get keys row) ≡ true → has_row all row ≡ true
    complete None at met = let no : false ≡ true = sym (ap (content_met_at fold name path) at) ∙ met in absurd cc
    complete (Some key) at met = by key at met

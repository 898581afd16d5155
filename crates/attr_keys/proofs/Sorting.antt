-- Lines that are sorted by the kinds of their keys.
use Rattle.std.proofs.Common.{◌≡◌, ℕ, zero, suc, ◌+◌, Bool, true, false, ◌⊎◌, inl, inr, List, [], ◌∷◌, ◌++◌, length}
use Rattle.std.proofs.Common.{None, Some, refl, sym, ap, subst, ◌∙◌, arith}
use Rattle.std.specs.Prelude.{slice_get, unwrap_or}
use Rattle.std.proofs.lemmas.Bool.{eqb-true}
use Rattle.std.proofs.lemmas.Bool.Decides.{nat_tests}
use Rattle.std.proofs.lemmas.List.{length_push}
use Rattle.std.proofs.lemmas.List.Folds.{list_any-append}
use Rattle.attr_keys.specs.declared.hashed.HashedRows.{HashedRows}
use Rattle.attr_keys.specs.declared.key.Subject.{Subject}
use Rattle.attr_keys.specs.declared.kinds.KindRows.{KindRows}
use Rattle.attr_keys.specs.shared.KeyContents.{KeyContent}
use Rattle.attr_keys.specs.inner.Buckets.{IsHashed}
use Rattle.attr_keys.specs.inner.Kinds.{AreKinds, is_kept, kind_rows, rows_with}
use Rattle.attr_keys.specs.shared.Meeting.{is_about, same_subject}
use Rattle.attr_keys.specs.shared.Rows.{has_row}
use Rattle.attr_keys.proofs.RowLemmas.{by_test}

pub get_last : (keys : List KeyContent) (more : KeyContent) → slice_get (keys ++ more ∷ []) (length keys) ≡ Some more
get_last [] more = refl
get_last (k ∷ keys) more = get_last keys more

-- a line is one of those before, or the last one
get_cases : (keys : List KeyContent) (more key : KeyContent) (row : ℕ) → slice_get (keys ++ more ∷ []) row ≡ Some key →
    (slice_get keys row ≡ Some key) ⊎ ((row ≡ length keys) × (more ≡ key))
get_cases (k ∷ keys) more key zero is = inl is
get_cases [] more key zero is = inr (refl, ap (λ o. unwrap_or o more) is)
get_cases [] more key (suc row) is = let no : None ≡ Some key = is in absurd cc
get_cases (k ∷ keys) more key (suc row) is = next (get_cases keys more key row is)
  where
    next : (slice_get keys row ≡ Some key) ⊎ ((row ≡ length keys) × (more ≡ key)) →
        (slice_get keys row ≡ Some key) ⊎ ((suc row ≡ suc (length keys)) × (more ≡ key))
    next (inl before) = inl before
    next (inr last) = inr (ap suc last.0, last.1)

about_kept : (keys : List KeyContent) (more : KeyContent) (subject : Subject) (row : ℕ) → is_about subject (slice_get keys row) ≡ true →
    is_about subject (slice_get (keys ++ more ∷ []) row) ≡ true
about_kept (k ∷ keys) more subject zero is = is
about_kept (k ∷ keys) more subject (suc row) is = about_kept keys more subject row is
about_kept [] more subject row is = let no : false ≡ true = is in absurd cc

-- One more line. It is found by its hash, or among the rows of its subject.
pub kinds_more : (fold : Bool) (keys : List KeyContent) (more : KeyContent) (hashed hashed' : HashedRows) (rows rows' : Subject → List ℕ)
    (put : Bool) → AreKinds fold keys hashed rows → length hashed'.links.items ≡ length hashed.links.items + 1 →
    ((key : KeyContent) (row : ℕ) → IsHashed fold key hashed row → IsHashed fold key hashed' row) →
    (put ≡ true → IsHashed fold more hashed' (length keys)) → (put ≡ true → (s : Subject) → rows' s ≡ rows s) →
    (put ≡ false → (s : Subject) → rows' s ≡ rows_with more.subject (length keys) s (rows s)) → AreKinds fold (keys ++ more ∷ []) hashed' rows'
kinds_more fold keys more hashed hashed' rows rows' put are counted kept own same added = record {
  counted = counted ∙ (ap (λ n. n + 1) are.counted ∙ sym (length_push keys more));
  of = λ subject row has. of subject row has;
  all = λ row key is keeps lacks. step row key keeps lacks (get_cases keys more key row is);
}
  where
    were : (s : Subject) (row : ℕ) → has_row (rows' s) row ≡ false → has_row (rows s) row ≡ false
    were s row lacks =
        by_test put (λ t. ap (λ l. has_row l row) (sym (same t s)) ∙ lacks)
        (λ f. grind (arith, nat_tests, list_any-append, added f s))

    of : (s : Subject) (row : ℕ) → has_row (rows' s) row ≡ true → is_about s (slice_get (keys ++ more ∷ []) row) ≡ true
    of s row has =
        by_test (has_row (rows s) row) (λ t. about_kept keys more s row (are.of s row t))
        (λ f. by_test put (λ t. let no : false ≡ true = sym f ∙ (ap (λ l. has_row l row) (sym (same t s)) ∙ has) in absurd cc)
        (λ g. grind (arith, nat_tests, list_any-append, eqb-true, get_last keys more, added g s)))

    last : is_kept more.subject ≡ true → has_row (rows' more.subject) (length keys) ≡ false → IsHashed fold more hashed' (length keys)
    last keeps lacks =
        by_test put own
        (λ f. let among : has_row (rows' more.subject) (length keys) ≡ true =
        grind (arith, nat_tests, list_any-append, added f more.subject, own_subject more.subject) in
        let no : true ≡ false = sym among ∙ lacks in absurd cc)
      where
        own_subject : (s : Subject) → same_subject s s ≡ true
        own_subject s = grind arith

    step : (row : ℕ) (key : KeyContent) → is_kept key.subject ≡ true → has_row (rows' key.subject) row ≡ false →
        (slice_get keys row ≡ Some key) ⊎ ((row ≡ length keys) × (more ≡ key)) → IsHashed fold key hashed' row
    step row key keeps lacks (inl is) = kept key row (are.all row key is keeps (were key.subject row lacks))
    step row key keeps lacks (inr is) =
        subst (λ r. IsHashed fold key hashed' r) (sym is.0) (subst (λ k. IsHashed fold k hashed' (length keys)) is.1
        (last (ap (λ k. is_kept k.subject) is.1 ∙ keeps)
        (ap (λ k. has_row (rows' k.subject) (length keys)) is.1 ∙ (ap (has_row (rows' key.subject)) (sym is.0) ∙ lacks))))

-- the same rows in another order
pub kinds_moved : (fold : Bool) (keys : List KeyContent) (hashed : HashedRows) (rows rows' : Subject → List ℕ) →
    ((s : Subject) (row : ℕ) → has_row (rows' s) row ≡ has_row (rows s) row) → AreKinds fold keys hashed rows → AreKinds fold keys hashed rows'
kinds_moved fold keys hashed rows rows' same are = record {
  counted = are.counted;
  of = λ s row has. are.of s row (sym (same s row) ∙ has);
  all = λ row key is keeps lacks. are.all row key is keeps (sym (same key.subject row) ∙ lacks);
}

-- the rows of a subject are kept beside other rows
pub kind_rows_same : (s : Subject) (rows rows' : KindRows) → rows'.names ≡ rows.names → rows'.ends ≡ rows.ends → rows'.paths ≡ rows.paths →
    rows'.others ≡ rows.others → kind_rows s rows' ≡ kind_rows s rows
kind_rows_same s rows rows' names ends paths others = grind arith

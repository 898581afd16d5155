-- A set of names: what an appended name and a removed one leave of the numbers.
use Rattle.std.proofs.Common.{◌≡◌, ℕ, ◌+◌, Bool, true, false, List, [], ◌∷◌, ◌++◌, length, get_or, map, bytes_eq, Option, Some, None}
use Rattle.std.proofs.Common.{IsTrue, refl, sym, ap, subst, ◌∙◌, ⊎_elim, arith}
use Rattle.std.specs.BTreeMap.{BTreeMap, UpdatesBy}
use Rattle.std.specs.Cmp.{eq_by_cmp_equiv}
use Rattle.std.specs.Cmp.Lexicographic.{bytes_decides, slice_cmp, nat_list_cmp_total, nat_list_eq_equiv}
use Rattle.std.specs.List.{AllZip, IsDistinct}
use Rattle.std.specs.Map.{lookup, IsKeyTest, AreApart, KeepsOthers}
use Rattle.std.specs.Ordering.{is_eq, nat_cmp}
use Rattle.std.specs.Rc.{rc_str_bytes}
use Rattle.std.specs.declared.rc.RcStr.{RcStr}
use Rattle.std.proofs.lemmas.Bool.{cases_Bool}
use Rattle.std.proofs.lemmas.List.{get_or_append_left, length-append}
use Rattle.std.proofs.Math.Seq.{take-append_seam}
use Rattle.std.proofs.lemmas.List.Elements.{All-push, All-take}
use Rattle.std.proofs.lemmas.List.Folds.{list_any-append}
use Rattle.std.proofs.lemmas.Map.Keys.{apart_from_distinct, IsDistinct-from_apart, IsDistinct-push}
use Rattle.std.proofs.lemmas.Map.Text.{is_eq-slice_cmp}
use Rattle.attr_text.specs.Names.{is_valid_name}
use Rattle.attr_lists.specs.Numbers.{number_of}
use Rattle.attr_lists.specs.inner.EntryViews.{AreValid}
use Rattle.attr_lists.specs.declared.name_table.name_set.NameSet.TheInside.{Inside}
use Rattle.attr_lists.specs.inner.NameSets.{texts_of, number_under, IsNameSet}
use Rattle.attr_lists.proofs.ListLemmas.{map_copied}
use Rattle.attr_lists.proofs.NameLemmas.{not_before}
use Rattle.attr_lists.proofs.NamedDefinitions.{absent, without_number}
use Rattle.attr_lists.proofs.NameTableLaws.{number_kept}
use Rattle.attr_lists.proofs.NumberLemmas.{number_of_new}

pub distinct_front : (front rest : List (List ℕ)) → IsDistinct bytes_eq (front ++ rest) → IsDistinct bytes_eq front
distinct_front front rest distinct = IsDistinct-from_apart bytes_eq front (λ i j d before lt.
    ap (bytes_eq (get_or front i d)) (sym (get_or_append_left front rest d j lt))
    ∙ ap (λ x. bytes_eq x (get_or (front ++ rest) j d)) (sym (get_or_append_left front rest d i (omega (arith, before, lt))))
    ∙ apart_from_distinct bytes_eq (front ++ rest) i j d distinct before (omega (arith, lt, length-append front rest)))

-- another name has the number that it had before a name was appended
number_of_other : (names : List (List ℕ)) (text other : List ℕ) → bytes_eq text other ≡ false
    → number_of (names ++ text ∷ []) other ≡ number_of names other
number_of_other names text other differs = known (number_of names other) refl
  where
    known : (o : Option ℕ) → number_of names other ≡ o → number_of (names ++ text ∷ []) other ≡ number_of names other
    known None e =
        let apart : bytes_eq other text ≡ false = nat_list_eq_equiv.symm other text ∙ differs in
        without_number (names ++ text ∷ []) other (grind (arith, list_any-append, absent names other e, apart)) ∙ sym e
    known (Some n) e = number_kept names (text ∷ []) other n e ∙ sym e

others_stay : {K X : Type 0} (eq : K → K → Bool) (test : K → Bool) (old new : List (K × X)) → KeepsOthers eq test old new → (other : K → Bool) →
    IsKeyTest eq other → AreApart test other → lookup other new ≡ lookup other old
unfolding KeepsOthers
others_stay eq test old new h = h

apart : (text other key : List ℕ) → bytes_eq text other ≡ false → is_eq (slice_cmp nat_cmp text key) ≡ true → is_eq (slice_cmp nat_cmp other key) ≡
    false
apart text other key differs equals =
    is_eq-slice_cmp other key ∙ nat_list_eq_equiv.symm other key
    ∙ sym (nat_list_eq_equiv.congr text key other (sym (is_eq-slice_cmp text key) ∙ equals)) ∙ differs

-- the numbers under texts after the one under a text has changed
module _ {Z : Type 0} (text : List ℕ) (old new : BTreeMap (RcStr Z) ℕ) (number : Option ℕ) where
  abbrev pub Changes : Type 0
  Changes = UpdatesBy (λ x y. slice_cmp nat_cmp (rc_str_bytes x) (rc_str_bytes y)) (λ key. slice_cmp nat_cmp text (rc_str_bytes key)) old new number

  under_text : Changes → (other : List ℕ) → bytes_eq text other ≡ true → number_under new other ≡ number
  under_text h other equals = subst (λ t. number_under new t ≡ number) ((bytes_decides text other).0 equals) h.1

  under_others : Changes → (other : List ℕ) → bytes_eq text other ≡ false → number_under new other ≡ number_under old other
  under_others h other differs =
      others_stay _ _ _ _ h.3 _ (λ x y. (eq_by_cmp_equiv nat_list_cmp_total).congr other (rc_str_bytes x) (rc_str_bytes y))
      (λ key. apart text other (rc_str_bytes key) differs)

pub name_set_empty : (set : Inside) → set.texts.items ≡ [] → set.numbers.entries ≡ [] → IsNameSet set
unfolding IsDistinct
name_set_empty set texts numbers = grind (arith, bytes_eq)

module _ (old new : Inside) (text : List ℕ) (is : IsNameSet old) where
  pub name_set_pushed : texts_of new ≡ texts_of old ++ text ∷ [] → number_of (texts_of old) text ≡ None → IsTrue (is_valid_name text) →
      Changes text old.numbers new.numbers (Some (length (texts_of old))) → IsNameSet new
  name_set_pushed texts none valid changes =
      let absent_before = absent (texts_of old) text none in
      let distinct = IsDistinct-push nat_list_eq_equiv (texts_of old) text is.distinct absent_before in
      let number = Some (length (texts_of old)) in
      let last = number_of_new (texts_of old) text absent_before in
      record {
        valid = subst AreValid (sym texts) (All-push (λ n. IsTrue (is_valid_name n)) (texts_of old) text is.valid valid);
        distinct = subst (IsDistinct bytes_eq) (sym texts) distinct;
        numbers = λ other. ⊎_elim
            (λ yes. under_text text old.numbers new.numbers number changes other yes
            ∙ sym (ap (λ l. number_of l other) texts
            ∙ subst (λ t. number_of (texts_of old ++ text ∷ []) t ≡ number) ((bytes_decides text other).0 yes) last))
            (λ no. under_others text old.numbers new.numbers number changes other no ∙ is.numbers other
            ∙ sym (ap (λ l. number_of l other) texts ∙ number_of_other (texts_of old) text other no))
            (cases_Bool (bytes_eq text other));
      }

  pub name_set_popped : texts_of old ≡ texts_of new ++ text ∷ [] → Changes text old.numbers new.numbers None → IsNameSet new
  name_set_popped texts changes =
      let distinct = subst (IsDistinct bytes_eq) texts is.distinct in
      let gone = without_number (texts_of new) text (not_before (texts_of new) text [] distinct) in
      record {
        valid = subst AreValid (take-append_seam (texts_of new) (text ∷ []))
            (All-take (λ n. IsTrue (is_valid_name n)) (length (texts_of new)) (texts_of new ++ text ∷ []) (subst AreValid texts is.valid));
        distinct = distinct_front (texts_of new) (text ∷ []) distinct;
        numbers = λ other. ⊎_elim
            (λ yes. under_text text old.numbers new.numbers None changes other yes
            ∙ sym (subst (λ t. number_of (texts_of new) t ≡ None) ((bytes_decides text other).0 yes) gone))
            (λ no. under_others text old.numbers new.numbers None changes other no ∙ is.numbers other ∙ ap (λ l. number_of l other) texts
            ∙ number_of_other (texts_of new) text other no)
            (cases_Bool (bytes_eq text other));
      }

-- copies of the texts and of their numbers
pub texts_copied : {Z : Type 0} (texts copies : List (RcStr Z)) → AllZip (λ s copy. rc_str_bytes copy ≡ rc_str_bytes s) texts copies
    → map rc_str_bytes copies ≡ map rc_str_bytes texts
texts_copied texts copies same = map_copied rc_str_bytes _ (λ x y h. h) texts copies same

numbers_copied : {Z : Type 0} (text : List ℕ) (es copies : List (RcStr Z × ℕ))
    → AllZip (λ e copy. (rc_str_bytes copy.0 ≡ rc_str_bytes e.0) × (copy.1 ≡ e.1)) es copies
    → lookup (λ key. is_eq (slice_cmp nat_cmp text (rc_str_bytes key))) copies ≡ lookup (λ key. is_eq (slice_cmp nat_cmp text (rc_str_bytes key))) es
numbers_copied text [] [] same = refl
numbers_copied text (e ∷ es) (copy ∷ copies) same = grind (arith, numbers_copied text es copies)
numbers_copied text es copies same = grind arith

pub name_set_copied : (set copy : Inside) → IsNameSet set
    → AllZip (λ s copy. rc_str_bytes copy ≡ rc_str_bytes s) set.texts.items copy.texts.items
    → AllZip (λ e copy. (rc_str_bytes copy.0 ≡ rc_str_bytes e.0) × (copy.1 ≡ e.1)) set.numbers.entries copy.numbers.entries → IsNameSet copy
name_set_copied set copy is same numbers =
    let texts = sym (texts_copied set.texts.items copy.texts.items same) in
    record {
      valid = subst AreValid texts is.valid;
      distinct = subst (IsDistinct bytes_eq) texts is.distinct;
      numbers = λ text. numbers_copied text set.numbers.entries copy.numbers.entries numbers ∙ is.numbers text ∙ ap (λ l. number_of l text) texts;
    }

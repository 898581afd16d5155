-- What an outcome returns after a search that skips what the selected names don't depend on: the answers that a search for them
-- returns which skips nothing.
use Rattle.std.proofs.Common.{arith, ◌≡◌, ℕ, suc, Bool, true, false, List, [], ◌∷◌, length, get_or, All, sym, ap, ◌∙◌, subst}
use Rattle.std.proofs.lemmas.Bool.Decides.{nat_tests}
use Rattle.std.specs.List.{Contains}
use Rattle.std.proofs.lemmas.List.Elements.{All-contains_itself, All-map, All-weaker}
use Rattle.std.proofs.Math.ListN.{get_or-map}
use Rattle.attr_table.specs.Cut.{IsSearched, no_answers}
use Rattle.attr_table.specs.Setting.{Item}
use Rattle.attr_table.specs.Skipped.{IsClosed, narrowed}
use Rattle.attr_table.specs.Table.{Slots}
use Rattle.attr_table.proofs.ForCallers.{narrowed_at, skipping_unseen}
use Rattle.attr_search.specs.Settings.{BodiesAreNamed, HeldAreNamed, ListsAreNamed}
use Rattle.attr_search.specs.Slots.{is_needed, slots_of, table_item, table_items}
use Rattle.gix_attributes.specs.Contents.{Content, bodies_of, found_in, initial_content, looked_up, selected_in, wanted_of}
use Rattle.gix_attributes.specs.Lookups.{FindsAnswers, Lookup, OfTheOnlyTable, answers_by_number, selected_answers, setting_in}
use Rattle.gix_attributes.specs.Searching.{KeepsAllButAnswers, KeepsNames, answers_in, setting_for}
use Rattle.gix_attributes.specs.inner.Needed.{IsNarrowed}
use Rattle.gix_attributes.proofs.LookupLemmas.{all_selected, counted, finds_answers, found_of, nothing_named, the_answers, the_table, wanted_flag}
use Rattle.gix_attributes.proofs.SearchLaws.{empty_at, nothing_in}

-- a number whose flag is set is needed
flag_is_needed : (flags : List Bool) (a : ℕ) → get_or flags a false ≡ true → is_needed flags a ≡ true
flag_is_needed (b ∷ flags) (suc a) e = flag_is_needed flags a e
flag_is_needed flags a e = grind (arith, nat_tests)

module _ (q : Lookup) (before after : Content) (fresh : IsNarrowed q.known q.selected before)
    (lists_named : ListsAreNamed q.known.names q.lists) (bodies_named : BodiesAreNamed q.known.names (bodies_of q.known))
    (searched : IsSearched (setting_for q.lists before q.path q.case q.is_dir) (wanted_of before) (answers_in before) (answers_in after))
    (keeps : KeepsNames q.lists before after) (kept : KeepsAllButAnswers before after) where
  abbrev need : ℕ → Bool
  need = is_needed before.needed

  abbrev first : Content
  first = record (initial_content q.known q.selected) { needed = before.needed }

  from : KeepsAllButAnswers first after
  from = subst (λ b. KeepsAllButAnswers b after) fresh.content kept

  same_needed : after.needed ≡ before.needed
  same_needed = ap (λ (h : Content). h.needed) from.rest

  -- a macro is needed whose body has an item of a needed attribute
  closed : IsClosed (setting_in q).bodies need
  closed m =
      let body = get_or (bodies_of q.known) m [] in
      subst (All (λ (i : Item). need i.attribute ≡ true → need m ≡ true)) (sym (get_or-map table_items (bodies_of q.known) m []))
      (All-map (λ (i : Item). need i.attribute ≡ true → need m ≡ true) table_item body (fresh.needed.closed m))

  wanted_needed : (number : ℕ) → Contains (wanted_of first) number → need number ≡ true
  wanted_needed number c = flag_is_needed before.needed number (fresh.needed.selected number (wanted_flag q number c))

  -- what a search returns that skips nothing
  law : (all : Slots) × IsSearched (setting_in q) (wanted_of first) no_answers all × (answers_in after ≡ narrowed need all)
  law =
      skipping_unseen (setting_in q) need (wanted_of first) no_answers (answers_in after) closed
      (All-weaker (Contains (wanted_of first)) (λ w. need w ≡ true) wanted_needed (wanted_of first) (All-contains_itself (wanted_of first)))
      (subst (λ start. IsSearched (setting_in q) (wanted_of first) start (answers_in after)) (ap (narrowed need) (nothing_in q.known.names))
      (subst (λ b. IsSearched (setting_for q.lists b q.path q.case q.is_dir) (wanted_of b) (answers_in b) (answers_in after)) fresh.content
      searched))

  pub narrowed_named : HeldAreNamed q.known.names after.slots
  narrowed_named =
      subst (λ b. KeepsNames q.lists b after) fresh.content keeps q.known.names lists_named bodies_named
      (nothing_named q.known.names q.known.names)

  -- what is found where it is needed
  seen : (number : ℕ) → need number ≡ true → slots_of after.slots number ≡ law.0 number
  seen number own =
      sym (narrowed_at (is_needed after.needed) (slots_of after.slots) number (ap (λ flags. is_needed flags number) same_needed ∙ own))
      ∙ ap (λ (s : Slots). s number) law.2 ∙ narrowed_at need law.0 number own

  finds : FindsAnswers q.known.names q.selected (the_answers q) after.slots
  finds =
      (finds_answers q need law.0 after closed wanted_needed law.1 seen
      (λ number skip. from.skipped number skip ∙ empty_at q.known.names number) narrowed_named).1

  pub narrowed_found : OfTheOnlyTable (setting_in q) (λ answers. FindsAnswers q.known.names q.selected answers after.slots)
  narrowed_found = (the_table q, finds)

  pub narrowed_answers : OfTheOnlyTable (setting_in q) (λ answers.
      (length q.selected ≡ 0 → found_in after.slots ≡ answers_by_number q.known.names answers)
      × (selected_in after.slots after.selection ≡ selected_answers q.known.names answers q.selected))
  narrowed_answers =
      let count : length after.slots ≡ length q.known.names = from.count ∙ counted q in
      let selection : after.selection ≡ looked_up q.known.names q.selected = ap (λ (h : Content). h.selection) from.rest in (
        the_table q,
        (
          λ none. found_of q after (the_answers q) count selection finds (the_answers q) (finds.all none),
          ap (selected_in after.slots) selection ∙ all_selected q after (the_answers q) count selection finds q.selected finds.selected,
        ),
      )

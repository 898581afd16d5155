-- Sources only tell: lists that differ in their sources alone have the same answers, but for the sources of these.
use Rattle.std.proofs.lemmas.Bool.Decides.{nat_tests}
use Rattle.std.proofs.Common.{arith, ◌≡◌, ℕ, suc, ◌==◌, Bool, List, [], ◌∷◌, ◌++◌, length, map}
use Rattle.std.proofs.Common.{Option, Some, None, MatchOption, option_map, refl, sym, ap, ◌∙◌, subst, get_or}
use Rattle.std.specs.Prelude.{⊤, if◌then◌else◌}
use Rattle.std.specs.List.{filter_map, range_with_len}
use Rattle.std.proofs.lemmas.List.{length-map, map-append, take-map}
use Rattle.std.proofs.lemmas.List.Elements.{All-weaker}
use Rattle.std.proofs.lemmas.Option.{slice_get-map}
use Rattle.attr_table.specs.Cut.{cause_at, no_answers, origin_at}
use Rattle.attr_search.specs.ListView.{Listed}
use Rattle.attr_lists.specs.ListViews.{Entry}
use Rattle.gix_attributes.specs.Lookups.{FindsAnswers, IsFound, OfTheOnlyTable, answers_by_number, named_answer, selected_answers, table_answers}
use Rattle.attr_lists.specs.Numbers.{number_of}
use Rattle.gix_attributes.specs.Registers.{definitions_in}
use Rattle.attr_lists.specs.Definitions.{bodies_named}
use Rattle.attr_table.specs.Setting.{Answer, Line, Setting}
use Rattle.attr_search.specs.Settings.{line_of, lines_of}
use Rattle.attr_search.specs.Slots.{Matched}
use Rattle.attr_table.specs.Table.{Inside, IsEarliest, IsReached, IsStable, Occurrence, Root, Slots, Table, item_at}
use Rattle.attr_wildmatch.specs.declared.case.Case.{Case}
use Rattle.gix_attributes.specs.EngineStates.{AddedList, AnswersTo, EngineContent, EngineState, FindsFor, bodies_by, number_answered}
use Rattle.gix_attributes.specs.EngineStates.{path_setting, returned_answers, specified_among, with_list_below, without_last}
use Rattle.gix_attributes.specs.Told.{addition_told, content_told, list_told, match_told, origin_told, state_told}

-- ---- settings with the same items have the same stable tables

reached_same : (s t : Setting) → ((o : Occurrence) → item_at s o ≡ item_at t o) → (table : Table) (o : Occurrence) → IsReached s table o →
    IsReached t table o
reached_same s t same table o h = grind (arith, nat_tests)

earliest_same : (s t : Setting) → ((o : Occurrence) → item_at s o ≡ item_at t o) → (table : Table) (a : ℕ) (entry : Option Occurrence) →
    IsEarliest s table a entry → IsEarliest t table a entry
earliest_same s t same table a entry none = grind (arith, nat_tests, reached_same)

stable_same : (s t : Setting) → ((o : Occurrence) → item_at s o ≡ item_at t o) → (table : Table) → IsStable s no_answers table →
    IsStable t no_answers table
stable_same s t same table stable a = earliest_same s t same table a (table a) (stable a)

module _ (told : List ℕ → List ℕ) where
  -- ---- a setting whose lines tell other sources

  abbrev line_told : Line → Line
  line_told l = record { origin = origin_told told l.origin; items = l.items }

  abbrev setting_told : Setting → Setting
  setting_told s = record { lists = map (map line_told) s.lists; bodies = s.bodies }

  abbrev answer_told : Answer → Answer
  answer_told x = record { origin = origin_told told x.origin; assignment = x.assignment; is_macro = x.is_macro; cause = x.cause }

  abbrev answers_told : Slots → Slots
  answers_told answers number = option_map answer_told (answers number)

  item_same : (s : Setting) (o : Occurrence) → item_at (setting_told s) o ≡ item_at s o
  item_same s (Root list line item) = grind (arith, nat_tests, slice_get-map)
  item_same s (Inside parent index) = grind (arith, nat_tests, item_same s parent)

  origin_same : (s : Setting) (o : Occurrence) → origin_at (setting_told s) o ≡ option_map (origin_told told) (origin_at s o)
  origin_same s (Root list line item) = grind (arith, nat_tests, slice_get-map)
  origin_same s (Inside parent index) = origin_same s parent

  cause_same : (s : Setting) (o : Occurrence) → cause_at (setting_told s) o ≡ cause_at s o
  cause_same s o = grind (arith, nat_tests, item_same)

  answers_same : (s : Setting) (table : Table) → table_answers (setting_told s) table ≡ answers_told (table_answers s table)
  answers_same s table = grind (arith, nat_tests, origin_same, item_same, cause_same)

  only_told : (s : Setting) (Holds HoldsTold : Slots → Type 0) → ((answers : Slots) → Holds answers → HoldsTold (answers_told answers)) →
      OfTheOnlyTable s Holds → OfTheOnlyTable (setting_told s) HoldsTold
  only_told s Holds HoldsTold from (one, holds) = (
    (
      one.0,
      stable_same s (setting_told s) (λ o. sym (item_same s o)) one.0 one.1,
      λ other stable. one.2 other (stable_same (setting_told s) s (item_same s) other stable),
    ),
    subst HoldsTold (sym (answers_same s one.0)) (from (table_answers s one.0) holds),
  )

  -- ---- lists with other sources

  lines_same : (case : Case) (is_dir : Option Bool) (source rest : Option (List ℕ)) (lines : List Entry) →
      map (line_of case is_dir (option_map told source) rest) lines ≡ map line_told (map (line_of case is_dir source rest) lines)
  lines_same case is_dir source rest [] = refl
  lines_same case is_dir source rest (line ∷ lines) = grind (arith, nat_tests, lines_same case is_dir source rest lines)

  lists_same : (case : Case) (is_dir : Option Bool) (path : List ℕ) (lists : List Listed) →
      map (lines_of case is_dir path) (map (list_told told) lists) ≡ map (map line_told) (map (lines_of case is_dir path) lists)
  lists_same case is_dir path [] = refl
  lists_same case is_dir path (list ∷ lists) = grind (arith, nat_tests, lines_same, lists_same case is_dir path lists)

  definitions_same : (lists : List Listed) (name : List ℕ) → definitions_in (map (list_told told) lists) name ≡ definitions_in lists name
  definitions_same [] name = refl
  definitions_same (list ∷ lists) name = ap (λ ds. bodies_named name list.lines ++ ds) (definitions_same lists name)

  bodies_same : (s : EngineState) → bodies_by (state_told told s) ≡ bodies_by s
  bodies_same s = grind (arith, nat_tests, definitions_same)

  setting_same : (s : EngineState) (path : List ℕ) (case : Case) (is_dir : Option Bool) →
      setting_told (path_setting s path case is_dir) ≡ path_setting (state_told told s) path case is_dir
  setting_same s path case is_dir = grind (arith, nat_tests, lists_same, bodies_same)

  -- ---- what is returned

  selected_same : (names : List (List ℕ)) (answers : Slots) (selected : List (List ℕ)) →
      selected_answers names (answers_told answers) selected ≡ map (match_told told) (selected_answers names answers selected)
  selected_same names answers [] = refl
  selected_same names answers (text ∷ texts) = grind (arith, nat_tests, selected_same names answers texts)

  named_same : (names : List (List ℕ)) (answers : Slots) (numbers : List ℕ) →
      filter_map (λ number. option_map (named_answer (get_or names number [])) (answers_told answers number)) numbers
      ≡ map (match_told told) (filter_map (λ number. option_map (named_answer (get_or names number [])) (answers number)) numbers)
  named_same names answers [] = refl
  named_same names answers (number ∷ numbers) = grind (arith, nat_tests, named_same names answers numbers)

  specified_same : (ms : List Matched) → specified_among (map (match_told told) ms) ≡ map (match_told told) (specified_among ms)
  specified_same [] = refl
  specified_same (m ∷ ms) = grind (arith, nat_tests, specified_same ms)

  returned_same : (s : EngineState) (answers : Slots) →
      map (match_told told) (returned_answers s answers) ≡ returned_answers (state_told told s) (answers_told answers)
  returned_same s answers = at (length s.selection == 0)
    where
      all : specified_among (answers_by_number s.names (answers_told answers))
          ≡ map (match_told told) (specified_among (answers_by_number s.names answers))
      all =
          ap specified_among (named_same s.names answers (range_with_len 0 (length s.names)))
          ∙ specified_same (answers_by_number s.names answers)

      at : (b : Bool) → map (match_told told)
          (if b then specified_among (answers_by_number s.names answers) else selected_answers s.names answers s.selection)
          ≡ (if b then specified_among (answers_by_number s.names (answers_told answers))
          else selected_answers s.names (answers_told answers) s.selection)
      at b = grind (arith, nat_tests, all, selected_same)

  -- ---- what is found

  slot_same : (found : List (Option Matched)) (number : ℕ) →
      get_or (map (option_map (match_told told)) found) number None ≡ option_map (match_told told) (get_or found number None)
  slot_same (slot ∷ found) (suc number) = slot_same found number
  slot_same found number = grind (arith, nat_tests)

  found_same : (names : List (List ℕ)) (answers : Slots) (found : List (Option Matched)) (number : ℕ) → IsFound names answers found number →
      IsFound names (answers_told answers) (map (option_map (match_told told)) found) number
  found_same names answers found number e = grind (arith, nat_tests, slot_same)

  finds_same : (names selected : List (List ℕ)) (answers : Slots) (found : List (Option Matched)) → FindsAnswers names selected answers found →
      FindsAnswers names selected (answers_told answers) (map (option_map (match_told told)) found)
  finds_same names selected answers found finds =
      record {
        part = λ number. grind (arith, nat_tests, slot_same, found_same);
        all = λ none number lt. found_same names answers found number (finds.all none number lt);
        selected = All-weaker (λ text. MatchOption (number_of names text) ⊤ (IsFound names answers found))
            (λ text. MatchOption (number_of names text) ⊤ IsTold) (λ text h. by_number (number_of names text) h) selected finds.selected;
        causes = λ number. grind (arith, nat_tests, slot_same, by_slot);
      }
    where
      IsTold : ℕ → Type 0
      IsTold number = IsFound names (answers_told answers) (map (option_map (match_told told)) found) number

      by_number : (o : Option ℕ) → MatchOption o ⊤ (IsFound names answers found) → MatchOption o ⊤ IsTold
      by_number o h = grind (arith, nat_tests, found_same)

      by_slot : (slot : Option Matched) → MatchOption slot ⊤ (λ m. MatchOption m.cause ⊤ (IsFound names answers found)) →
          MatchOption (option_map (match_told told) slot) ⊤ (λ m. MatchOption m.cause ⊤ IsTold)
      by_slot slot h = grind (arith, nat_tests, by_number)

  -- ---- engines

  pub answers_to_told : (path : List ℕ) (case : Case) (is_dir : Option Bool) (before after : EngineContent) →
      AnswersTo path case is_dir before after → AnswersTo path case is_dir (content_told told before) (content_told told after)
  answers_to_told path case is_dir before after answered =
      subst (λ s. OfTheOnlyTable s IsTold) (setting_same before.state path case is_dir)
      (only_told (path_setting before.state path case is_dir) Is IsTold
      (λ answers e. ap (content_told told) e ∙ ap with_answers (returned_same before.state answers)) answered)
    where
      Is : Slots → Type 0
      Is answers = after ≡ record before { answers = Some (returned_answers before.state answers); found = after.found }

      IsTold : Slots → Type 0
      IsTold answers = content_told told after ≡ record (content_told told before) {
        answers = Some (returned_answers (state_told told before.state) answers);
        found = (content_told told after).found;
      }

      with_answers : List Matched → EngineContent
      with_answers answers = record (content_told told before) { answers = Some answers; found = (content_told told after).found }

  pub finds_for_told : (path : List ℕ) (case : Case) (is_dir : Option Bool) (before after : EngineContent) →
      FindsFor path case is_dir before after → FindsFor path case is_dir (content_told told before) (content_told told after)
  finds_for_told path case is_dir before after finds =
      subst (λ s. OfTheOnlyTable s (λ answers. FindsAnswers before.state.names before.state.selection answers
      (map (option_map (match_told told)) after.found))) (setting_same before.state path case is_dir)
      (only_told (path_setting before.state path case is_dir)
      (λ answers. FindsAnswers before.state.names before.state.selection answers after.found)
      (λ answers. FindsAnswers before.state.names before.state.selection answers (map (option_map (match_told told)) after.found))
      (λ answers h. finds_same before.state.names before.state.selection answers after.found h) finds)

  pub added_told : (a : AddedList) (held : EngineContent) →
      content_told told (with_list_below a held) ≡ with_list_below (addition_told told a) (content_told told held)
  added_told a held = grind (arith, nat_tests, map-append)

  pub popped_told : (held : EngineContent) → content_told told (without_last held) ≡ without_last (content_told told held)
  popped_told held = grind (arith, nat_tests, take-map, length-map)

  pub number_told : (held : EngineContent) (index : ℕ) → number_answered (content_told told held) index ≡ number_answered held index
  number_told held index = at held.answers
    where
      names_same : (ms : List Matched) →
          map (λ (m : Matched). m.assignment.name) (map (match_told told) ms) ≡ map (λ (m : Matched). m.assignment.name) ms
      names_same [] = refl
      names_same (m ∷ ms) = ap (λ names. m.assignment.name ∷ names) (names_same ms)

      at : (o : Option (List Matched)) → number_answered (content_told told (record held { answers = o })) index
          ≡ number_answered (record held { answers = o }) index
      at o = grind (arith, nat_tests, names_same)

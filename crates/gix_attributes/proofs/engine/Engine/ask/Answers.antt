-- A search from nothing answers by the only stable table, and leaves an outcome that can be reset.
use Rattle.gix_attributes.proofs.OutcomeLemmas.{emptied_again}
use Rattle.std.proofs.Common.{arith, ◌≡◌, ℕ, List, Option, Some, refl, ap, ◌∙◌, subst}
use Rattle.std.proofs.lemmas.Bool.Decides.{nat_tests}
use Rattle.gix_attributes.specs.Contents.{Content, names_selected}
use Rattle.gix_attributes.specs.Lookups.{FindsAnswers, Lookup, OfTheOnlyTable}
use Rattle.gix_attributes.specs.SearchViews.{list_ids_in, lists_in}
use Rattle.attr_search.specs.Slots.{Matched}
use Rattle.gix_attributes.specs.EngineStates.{EngineContent, path_setting, returned_answers}
use Rattle.gix_attributes.specs.EngineView.{engine_view, returned_by}
use Rattle.gix_attributes.proofs.AnswerLemmas.{answered, current_at_first, current_searched, found, of_names}
use Rattle.gix_attributes.proofs.RegistrationLemmas.{same_count}
use Rattle.gix_attributes.specs.declared.engine.Engine.TheInside.{Inside}
use Rattle.gix_attributes.specs.declared.engine.Question.{Question}
use Rattle.gix_attributes.proofs.engine.Engine.ask.Goals as goal

-- what is looked up for a question
abbrev looked_for : Inside → List (List ℕ) → Question → Lookup
looked_for e selected question =
    record {
      known = e.collection;
      selected = selected;
      lists = lists_in e.search;
      path = question.path.bytes.now;
      case = question.case;
      is_dir = question.is_dir;
    }

pub invariant_of-self-in_err-pattern_matching_relative_path : goal.invariant_of-self-in_err-pattern_matching_relative_path
invariant_of-self-in_err-pattern_matching_relative_path c = grind (arith, nat_tests, emptied_again, current_at_first, answered)

pub invariant_of-self-in_err-number_answers : goal.invariant_of-self-in_err-number_answers
invariant_of-self-in_err-number_answers c = grind (arith, nat_tests, current_searched, current_at_first, answered)

pub invariant_of-self-2 : goal.invariant_of-self-2
invariant_of-self-2 c = record {
  held = c.self.invariant.held;
  known = c.self.invariant.known;
  current = λ yes. grind (arith, nat_tests, current_searched, current_at_first, c.in_ok-prepare.ensures.ready);
  answered = λ yes. refl;
  numbered = λ yes. c.in_ok-number_answers.ensures;
  named = λ yes.
      let e = c.self.inside in
      let searched = c.in_ok-pattern_matching_relative_path.ensures in
      of_names (looked_for e (names_selected e.outcome.selection) c.args.question) (list_ids_in e.search) c.prepare.new.outcome
      c.pattern_matching_relative_path.new.out (same_count e.search) c.self.invariant.known c.in_ok-prepare.ensures.ready
      searched.searched searched.named searched.kept;
}

-- what is seen of an engine, by the selection of its outcome, the answers and what is found
abbrev Seen : (old : EngineContent) → List (List ℕ) → Option (List Matched) → List (Option Matched) → EngineContent
Seen old selection answers found =
    record {
      state = record { names = old.state.names; lists = old.state.lists; selection = selection };
      answers = answers;
      found = found;
      dropped = old.dropped;
    }

pub returns-clause-answers : goal.returns-clause-answers
returns-clause-answers c =
    let e = c.self.inside in
    let after = c.pattern_matching_relative_path.new.out in
    let searched = c.in_ok-pattern_matching_relative_path.ensures in
    let question = c.args.question in
    let seen = answered (looked_for e (names_selected e.outcome.selection) question) (list_ids_in e.search) c.prepare.new.outcome after
    (same_count e.search) c.self.invariant.known c.in_ok-prepare.ensures.ready searched.searched searched.named searched.kept in
    let selection : names_selected after.selection ≡ names_selected e.outcome.selection =
    ap (λ (h : Content). names_selected h.selection) searched.kept.rest ∙ c.in_ok-prepare.ensures.names in
    subst
    (λ (held : EngineContent). OfTheOnlyTable (path_setting held.state question.path.bytes.now question.case question.is_dir)
    (λ answers. Seen (engine_view e) (names_selected after.selection) (Some (returned_by after)) after.slots
    ≡ record held { answers = Some (returned_answers held.state answers); found = after.slots }))
    c.self.view_is (
      seen.0,
      grind (arith, nat_tests),
    )

pub returns-clause-found : goal.returns-clause-found
returns-clause-found c =
    let e = c.self.inside in
    let after = c.pattern_matching_relative_path.new.out in
    let searched = c.in_ok-pattern_matching_relative_path.ensures in
    let question = c.args.question in
    subst
    (λ (held : EngineContent). OfTheOnlyTable (path_setting held.state question.path.bytes.now question.case question.is_dir)
    (λ answers. FindsAnswers held.state.names held.state.selection answers after.slots))
    c.self.view_is
    (found (looked_for e (names_selected e.outcome.selection) question) (list_ids_in e.search) c.prepare.new.outcome after
    (same_count e.search) c.self.invariant.known c.in_ok-prepare.ensures.ready searched.searched searched.named searched.kept)

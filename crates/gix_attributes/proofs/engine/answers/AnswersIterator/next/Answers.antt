use Rattle.std.proofs.Common.{sym, ◌∙◌}
use Rattle.attr_search.specs.Matches.{match_view}
use Rattle.gix_attributes.proofs.AnswerLemmas.{next_answer}
use Rattle.gix_attributes.proofs.engine.answers.AnswersIterator.next.Goals as goal

pub returns-clause-steps : goal.returns-clause-steps
returns-clause-steps c =
    sym c.self.view_is
    ∙ next_answer c.self.inside.engine.now.answers c.self.inside.next (match_view c.in_ok-found.found)
    c.in_ok-found.ensures

use Rattle.std.proofs.Common.{inr, ap, ◌∙◌}
use Rattle.gix_attributes.specs.Lookups.{OfTheOnlyTable, ReturnsAnswers, setting_in}
use Rattle.worktree.specs.Worktrees.{Files, VisitsDirectory, all_but_last, lookup}
use Rattle.worktree.proofs.FileLemmas.{before_last, if_err, if_ok_with}
use Rattle.worktree.proofs.Worktree.look_up_in.Goals as goal
use Rattle.worktree.proofs.Worktree.look_up_in.Goals.{After-leave}

visits : (c : After-leave) → VisitsDirectory c.args.file c.args.self.now c.leave.new.self
visits c = record { entered = c.enter.new.self; enters = c.in_ok-enter.ensures.entered; left = c.leave.ensures }

pub returns-clause-answers : goal.returns-clause-answers
unfolding visits
returns-clause-answers c =
    if_ok_with (λ (visit : VisitsDirectory c.args.file c.args.self.now c.leave.new.self).
    let q = lookup c.args.question visit.entered in OfTheOnlyTable (setting_in q) (ReturnsAnswers q c.look_up-answered.new.out))
    c.look_up-answered.result (visits c) c.look_up-answered.ensures

pub returns-clause-refused : goal.returns-clause-refused
returns-clause-refused c = if_err c.look_up-answered.result (inr (visits c))

pub returns-clause-directories : goal.returns-clause-directories
returns-clause-directories c =
    let before = c.args.self.now.directories in
    ap (λ (files : Files). files.directories) c.leave.ensures
    ∙ (ap all_but_last c.in_ok-enter.ensures.entered.directories ∙ before_last before _)

pub returns-clause-globals : goal.returns-clause-globals
returns-clause-globals c = ap (λ (files : Files). files.globals) c.leave.ensures ∙ c.in_ok-enter.ensures.entered.globals

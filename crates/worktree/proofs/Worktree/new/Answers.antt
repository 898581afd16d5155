use Rattle.worktree.proofs.KeptLemmas.{kept_first}
use Rattle.worktree.proofs.Worktree.new.Goals as goal

pub invariant_of-result : goal.invariant_of-result
invariant_of-result c =
    let known = c.new-3.result in
    kept_first c.new.result c.new-2.result known c.new.ensures.lists c.new-2.ensures.lists c.new-2.ensures.list_ids (c.new.ensures.held known)
    (c.new-2.ensures.held known) c.new-3.ensures.registered

use Rattle.std.proofs.Common.{ℕ, ap, ◌∙◌}
use Rattle.gix_attributes.specs.ListView.{Listed, list_view}
use Rattle.gix_attributes.specs.Definitions.{HoldsList}
use Rattle.gix_attributes.specs.SearchViews.{list_ids_in, lists_in}
use Rattle.worktree.specs.Worktrees.{without_last_directory}
use Rattle.worktree.proofs.FileLemmas.{count_zip, directory_left}
use Rattle.worktree.proofs.KeptLemmas.{NamesStay, kept_leaving}
use Rattle.worktree.proofs.Worktree.leave.Goals as goal

pub pop_pattern_list-requires : goal.pop_pattern_list-requires
pop_pattern_list-requires c = c.self.invariant.directories_held

pub invariant_of-self : goal.invariant_of-self
invariant_of-self c =
    let w = c.self.inside in
    let law : NamesStay = record { lists = c.names_stay.ensures.lists; covered = c.names_stay.ensures.covered } in
    let popped = c.pop_pattern_list.ensures in
    kept_leaving list_view c.pop_pattern_list.result law w.globals w.directories c.pop_pattern_list.new.self w.collection
    c.pop_pattern_list.new.collection popped.kept popped.removed popped.list popped.collection popped.list_ids popped.held c.self.invariant

pub returns : goal.returns
returns c =
    let w = c.self.inside in
    let popped = c.pop_pattern_list.ensures in
    let count = count_zip (λ (list_id : ℕ) (list : Listed). HoldsList w.collection list_id list.lines)
    (list_ids_in w.directories) (lists_in w.directories)
    c.self.invariant.directories_held.each in
    directory_left list_view c.pop_pattern_list.result (lists_in w.globals) (lists_in w.directories) (lists_in c.pop_pattern_list.new.self)
    (list_ids_in w.directories) (list_ids_in c.pop_pattern_list.new.self) w.collection c.pop_pattern_list.new.collection count popped.list popped.none
    popped.list_ids popped.collection
    ∙ ap without_last_directory c.self.view_is

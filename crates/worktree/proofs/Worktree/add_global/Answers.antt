use Rattle.std.proofs.Common.{refl, sym, ap, subst, ◌∙◌, ◌++◌, ◌∷◌, [], None, Some, true, false}
use Rattle.gix_attributes.specs.Additions.{buffer_list}
use Rattle.gix_attributes.specs.SearchViews.{Holds, list_ids_in, lists_in}
use Rattle.worktree.specs.Worktrees.{AddsGlobalFile, Files}
use Rattle.worktree.proofs.KeptLemmas.{NamesStay, kept_globally, kept_same}
use Rattle.worktree.proofs.Worktree.add_global.Goals as goal

pub invariant_of-self : goal.invariant_of-self
invariant_of-self c =
    let w = c.self.inside in
    let now = c.add_patterns_buffer.new.collection in
    let refused = c.in_err-add_patterns_buffer.ensures in
    kept_same w.globals c.add_patterns_buffer.new.self w.directories w.directories w.collection now refused.refused refused.refused_list_ids refl refl
    refused.unchanged (refused.held c.self.invariant.globals_held)
    (subst (λ k. Holds k w.directories) (sym refused.unchanged) c.self.invariant.directories_held) c.self.invariant

pub invariant_of-self-2 : goal.invariant_of-self-2
invariant_of-self-2 c =
    let w = c.self.inside in
    let law : NamesStay = record { lists = c.names_stay.ensures.lists; covered = c.names_stay.ensures.covered } in
    let added = c.in_ok-add_patterns_buffer.ensures in
    kept_globally law w.globals c.add_patterns_buffer.new.self w.directories w.collection c.add_patterns_buffer.new.collection
    added.kept added.added added.held c.self.invariant

pub returns-clause-added : goal.returns-clause-added
returns-clause-added c =
    let w = c.self.inside in
    let now = c.add_patterns_buffer.new.collection in
    let added = c.in_ok-add_patterns_buffer.ensures in
    let after : Files = record {
      globals = lists_in c.add_patterns_buffer.new.self;
      directories = lists_in w.directories;
      directory_ids = list_ids_in w.directories;
      known = now;
    } in
    subst (λ before. AddsGlobalFile c.args.file before after) c.self.view_is (record {
      globals = added.list
          ∙ ap (λ path. lists_in w.globals ++ buffer_list path None true c.args.file.bytes.now now ∷ []) c.in_ok-source.ensures.ok;
      directories = refl;
      list_id = added.registered.list_id;
      registered = added.registered.registered;
      directory_ids = refl;
    })

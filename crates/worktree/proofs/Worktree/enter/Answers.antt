use Rattle.std.proofs.Common.{refl, sym, ap, subst, ◌∙◌, ◌++◌, ◌∷◌, [], None, Some, true, false}
use Rattle.gix_attributes.specs.Additions.{buffer_list}
use Rattle.gix_attributes.specs.SearchViews.{Holds, list_ids_in, lists_in}
use Rattle.worktree.specs.Worktrees.{EntersDirectory, Files}
use Rattle.worktree.proofs.KeptLemmas.{NamesStay, kept_entering, kept_same}
use Rattle.worktree.proofs.Worktree.enter.Goals as goal

pub invariant_of-self : goal.invariant_of-self
invariant_of-self c =
    let w = c.self.inside in
    let now = c.add_patterns_buffer.new.collection in
    let refused = c.in_err-add_patterns_buffer.ensures in
    kept_same w.globals w.globals w.directories c.add_patterns_buffer.new.self w.collection now refl refl refused.refused refused.refused_list_ids
    refused.unchanged (subst (λ k. Holds k w.globals) (sym refused.unchanged) c.self.invariant.globals_held)
    (refused.held c.self.invariant.directories_held) c.self.invariant

pub invariant_of-self-2 : goal.invariant_of-self-2
invariant_of-self-2 c =
    let w = c.self.inside in
    let law : NamesStay = record { lists = c.names_stay.ensures.lists; covered = c.names_stay.ensures.covered } in
    let added = c.in_ok-add_patterns_buffer.ensures in
    kept_entering law w.globals w.directories c.add_patterns_buffer.new.self w.collection c.add_patterns_buffer.new.collection
    added.kept added.added added.held c.self.invariant

pub returns-clause-entered : goal.returns-clause-entered
returns-clause-entered c =
    let w = c.self.inside in
    let now = c.add_patterns_buffer.new.collection in
    let added = c.in_ok-add_patterns_buffer.ensures in
    let after : Files = record {
      globals = lists_in w.globals;
      directories = lists_in c.add_patterns_buffer.new.self;
      directory_ids = list_ids_in c.add_patterns_buffer.new.self;
      known = now;
    } in
    subst (λ before. EntersDirectory c.args.file before after) c.self.view_is (record {
      globals = refl;
      directories = added.list
          ∙ ap (λ path. lists_in w.directories ++ buffer_list path (Some []) false c.args.file.bytes.now now ∷ []) c.in_ok-source.ensures.ok;
      list_id = added.registered.list_id;
      registered = added.registered.registered;
      directory_ids = added.registered.noted;
    })

use Rattle.std.proofs.Common.{arith, ◌∙◌, refl}
use Rattle.std.proofs.lemmas.Bool.Decides.{nat_tests}
use Rattle.attr_lists.specs.KeptLists.{kept_list_where}
use Rattle.gix_attributes.specs.Additions.{registered_lists}
use Rattle.gix_attributes.proofs.CurrentLemmas.{current_added}
use Rattle.gix_attributes.proofs.RegistrationLemmas.{alone_added}
use Rattle.gix_attributes.proofs.engine.Engine.add_list.Goals as goal

pub invariant_of-self-2 : goal.invariant_of-self-2
invariant_of-self-2 c =
    let old = c.self.inside in
    let added = c.in_ok-self-inside.ensures in
    record {
      held = added.held c.self.invariant.held;
      known = grind (arith, nat_tests, alone_added, c.self.invariant.known);
      current = λ still.
          let stays = c.stays_current-self-inside.ensures in
          current_added (kept_list_where c.args.list.allow_macros c.args.list.buffer.now) (registered_lists old.search old.collection)
          (registered_lists c.add_patterns_below.new.self c.add_patterns_below.new.collection) _ old.outcome c.len-names.ensures.sound
          added.registered added.list refl
          (stays.macros still) (stays.names still ∙ c.len-names.ensures.count) (c.self.invariant.current (stays.current still));
      answered = λ never. absurd (cc);
      numbered = λ never. absurd (cc);
      named = λ never. absurd (cc);
    }

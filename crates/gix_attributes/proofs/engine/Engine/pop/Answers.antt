use Rattle.attr_search.specs.ListView.{list_view}
use Rattle.gix_attributes.specs.SearchViews.{list_ids_in, lists_in}
use Rattle.gix_attributes.proofs.CurrentLemmas.{current_popped}
use Rattle.gix_attributes.proofs.RegistrationLemmas.{alone_popped}
use Rattle.gix_attributes.proofs.engine.Engine.pop.Goals as goal

pub invariant_of-self-2 : goal.invariant_of-self-2
invariant_of-self-2 c =
    let old = c.self.inside in
    let popped = c.pop_pattern_list.ensures in
    record {
      held = popped.held;
      known = alone_popped list_view c.pop_pattern_list.result old.search c.pop_pattern_list.new.self old.collection
          c.pop_pattern_list.new.collection c.self.invariant.held.distinct popped.kept popped.removed popped.list popped.collection
          popped.list_ids c.self.invariant.known;
      current = λ still.
          let stays = c.stays_current-is_current.ensures in
          current_popped list_view c.pop_pattern_list.result (list_ids_in old.search) old.collection c.pop_pattern_list.new.collection
          (lists_in c.pop_pattern_list.new.self) (lists_in old.search) old.outcome c.len-names.ensures.sound c.self.invariant.held
          popped.list popped.collection (stays.macros still) (c.self.invariant.current (stays.current still));
      answered = λ never. absurd (cc);
      numbered = λ never. absurd (cc);
      named = λ never. absurd (cc);
    }

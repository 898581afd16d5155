-- The content of an outcome (own).
use Rattle.gix_attributes.specs.Contents.{Content}
use Rattle.gix_attributes.specs.Selection.{selection_view}
use Rattle.gix_attributes.specs.declared.search.outcome.Outcome.TheInside.{Inside}

abbrev pub outcome_view : Inside → Content
outcome_view o =
    record {
      is_initialized = o.is_initialized;
      slots = o.state.slots.answers;
      bodies = o.state.slots.bodies;
      needed = o.state.slots.needed;
      selection = selection_view o.selected.items;
      kept = o.state.slots.kept;
      taken = o.state.slots.taken;
      tested = o.state.slots.tested;
    }

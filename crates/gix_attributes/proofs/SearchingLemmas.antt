-- From what a search leaves of its state to what it leaves of an outcome.
use Rattle.std.proofs.Common.{◌≡◌, Bool, true, false, List, length, map, None, Ok, sym, ap, ◌∙◌}
use Rattle.std.specs.Result.{is_err}
use Rattle.std.specs.declared.result.Result.{Result}
use Rattle.attr_search.specs.SearchContents.{SearchContents}
use Rattle.gix_attributes.specs.ContentView.{outcome_view}
use Rattle.gix_attributes.specs.Contents.{Content, reset_content}
use Rattle.attr_search.specs.Slots.{is_needed, slots_of}
use Rattle.attr_table.specs.Skipped.{narrowed}
use Rattle.attr_table.specs.Table.{Slots}
use Rattle.attr_lists.specs.declared.types.TrackedAssignment.{TrackedAssignment}
use Rattle.gix_attributes.specs.declared.search.outcome.Outcome.TheInside.{Inside}
use Rattle.gix_attributes.proofs.OutcomeLemmas.{same_empty}

-- the slots of a state as the table has them
abbrev pub slots_seen : SearchContents → Slots
slots_seen state = narrowed (is_needed state.needed) (slots_of state.answers)

-- an outcome with this state of a search
abbrev pub with_state : Content → SearchContents → Content
with_state held state =
    record held
    { slots = state.answers; bodies = state.bodies; needed = state.needed; kept = state.kept; taken = state.taken; tested = state.tested }

-- with the same state it is the same outcome
pub same_state : (o : Inside) (state : SearchContents) → state ≡ o.state.slots → with_state (outcome_view o) state ≡ outcome_view o
same_state o state e = ap (with_state (outcome_view o)) e

-- what is left of an outcome that is reset does not depend on its answers
pub emptied_alike : (o : Inside) (state : SearchContents) → state.bodies ≡ o.state.slots.bodies → state.needed ≡ o.state.slots.needed →
    length state.answers ≡ length o.state.slots.answers →
    reset_content (with_state (outcome_view o) state) ≡ reset_content (outcome_view o)
emptied_alike o state same f e =
    let Emptied : List (List TrackedAssignment) → List Bool → Content = λ bodies needed. record (outcome_view o) {
      is_initialized = true;
      slots = map (λ slot. None) state.answers;
      bodies = bodies;
      needed = needed;
      kept = 0;
      taken = 0;
      tested = 0;
    } in
    ap (λ bodies. Emptied bodies state.needed) same ∙ ap (Emptied o.state.slots.bodies) f
    ∙ ap (λ slots. record (outcome_view o) { is_initialized = true; slots = slots; kept = 0; taken = 0; tested = 0 })
    (same_empty None state.answers o.state.slots.answers e)

pub not_both : {E : Type 0} (r : Result Bool E) → r ≡ Ok false → is_err r ≡ true → ⊥
not_both r e f = let h : false ≡ true = sym (ap is_err e) ∙ f in absurd cc

-- What a caller of C keeps: an engine with its contents, or nothing (own).
use Rattle.std.specs.Prelude.{◌≡◌, ℕ, ℤ, List, [], Option, Some, None, IfSome, MatchOption, if◌then◌else◌, option_and_then, option_map, slice_get, slice_index_or}
use Rattle.gix_attributes.specs.Slots.{Matched}
use Rattle.gix_attributes.specs.declared.search.Dropped.{Dropped}
use Rattle.gix_attributes.specs.EngineStates.{EngineContent}
use Rattle.yektrod.specs.Rows.{text_numbered}
use Rattle.yektrod.specs.Sourced.{told_content}
use Rattle.yektrod.specs.SourcedContents.{SourcedContent}
use Rattle.yektrod.specs.declared.slot.Slot.{Slot}

-- the contents of the engine, with labels as the sources of its lists, and the sources beside it, if there is an engine
abbrev pub sourced : Slot → Option SourcedContent
sourced slot = if slot.live then Some slot.handle.held else None

-- the contents of the engine, if there is one
abbrev pub held : Slot → Option EngineContent
held slot = option_map told_content (sourced slot)

-- the same with labels as the sources
abbrev pub labelled : Slot → Option EngineContent
labelled slot = option_map (λ content. content.labelled) (sourced slot)

-- an engine is held, and after a call one is held that stands to it in a relation
abbrev pub Becomes : (EngineContent → EngineContent → Type 0) → Option EngineContent → Option EngineContent → Type 0
Becomes R before after = IfSome before (λ content. MatchOption after ⊥ (R content))

-- there is an engine, and it has no list
abbrev pub HasNoList : Slot → Type 0
HasNoList slot = option_map (λ content. content.state.lists) (held slot) ≡ Some []

-- the line with this number among those that were dropped of the last list that was added
abbrev pub dropped_held : Slot → ℕ → Option Dropped
dropped_held slot i = option_and_then (λ content. slice_get content.dropped i) (held slot)

-- the answer with this number, if there are answers
abbrev pub answer_in : EngineContent → ℕ → Option Matched
answer_in content i = option_and_then (λ answers. slice_get answers i) content.answers

abbrev pub answer_held : Slot → ℕ → Option Matched
answer_held slot i = option_and_then (λ content. answer_in content i) (held slot)

-- what is found for the attribute with this number
abbrev pub found_held : Slot → ℕ → Option Matched
found_held slot number = option_and_then (λ content. slice_index_or content.found number None) (held slot)

-- the text with this number of that answer
abbrev pub text_in : EngineContent → ℕ → ℤ → Option (List ℕ)
text_in content i which = option_and_then (λ answer. text_numbered content.state.names answer which) (answer_in content i)

abbrev pub text_held : Slot → ℕ → ℤ → Option (List ℕ)
text_held slot i which = option_and_then (λ content. text_in content i which) (held slot)

-- the name with this number
abbrev pub name_held : Slot → ℕ → Option (List ℕ)
name_held slot number = option_and_then (λ content. slice_get content.state.names number) (held slot)

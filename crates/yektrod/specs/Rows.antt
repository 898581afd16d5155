-- What C is told of answers and of lines (own).
use Rattle.std.specs.Prelude.{ℕ, ℤ, pos, negsuc, List, [], ◌∷◌, Option, Some, None, is_some, if◌then◌else◌}
use Rattle.std.specs.Prelude.{option_and_then, option_map, slice_get, unwrap_or}
use Rattle.gix_attributes.specs.Patterns.{written}
use Rattle.gix_attributes.specs.Slots.{Matched}
use Rattle.gix_attributes.specs.States.{value_of}
use Rattle.gix_attributes.specs.declared.State.{State}
use Rattle.gix_attributes.specs.declared.State.TheVariants.{Set, Unset, Value, Unspecified}
use Rattle.gix_attributes.specs.declared.search.Dropped.{Dropped}
use Rattle.gix_attributes.specs.declared.search.DropReason.{DropReason}
use Rattle.gix_attributes.specs.declared.search.DropReason.TheVariants.{MacroName, NegativePattern, InvalidName, Reserved}
use Rattle.yektrod.specs.declared.answers.AnswerRow.{AnswerRow}
use Rattle.yektrod.specs.declared.lists.DroppedRow.{DroppedRow}

abbrev pub state_number : State → ℤ
state_number Unspecified = pos 0
state_number Set = pos 1
state_number Unset = pos 2
state_number (Value bytes) = pos 3

-- an answer without its texts
abbrev pub answer_row : Matched → AnswerRow
answer_row m =
    record {
      state = state_number m.assignment.state;
      is_macro = m.is_macro;
      has_source = is_some m.origin.source;
      has_cause = is_some m.cause;
      line = if is_some m.origin.source then m.origin.line else 0;
    }

-- the pattern, as a file writes it
abbrev pub pattern_text : Matched → List ℕ
pattern_text m = written (record { text = m.origin.text; mode = m.origin.mode; wildcard = m.origin.wildcard })

-- the texts of an answer by number: name, value, source, pattern, and the name of the macro whose body has the attribute
abbrev pub answer_texts : List (List ℕ) → Matched → List (Option (List ℕ))
answer_texts names m =
    Some m.assignment.name ∷ value_of m.assignment.state ∷ m.origin.source
    ∷ option_map (λ source. pattern_text m) m.origin.source
    ∷ option_and_then (slice_get names) m.cause ∷ []

abbrev pub text_numbered : List (List ℕ) → Matched → ℤ → Option (List ℕ)
text_numbered names m (pos n) = unwrap_or (slice_get (answer_texts names m) n) None
text_numbered names m (negsuc n) = None

abbrev pub reason_code : DropReason → ℤ
reason_code MacroName = pos 1
reason_code NegativePattern = pos 2
reason_code InvalidName = pos 3
reason_code Reserved = pos 4

-- a line that was dropped
abbrev pub dropped_row : Dropped → DroppedRow
dropped_row dropped = record { line = dropped.line; reason = reason_code dropped.reason }

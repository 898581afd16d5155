-- What is written of the answers of an engine: the text of the answers of the only stable table.
use Rattle.std.proofs.Common.{[], ap}
use Rattle.std.specs.Prelude.{unwrap_or}
use Rattle.std.specs.List.{flat_map}
use Rattle.gix_attributes.specs.EngineStates.{AnswersTo, EngineContent}
use Rattle.check_attr.specs.Script.{Question}
use Rattle.check_attr.specs.ScriptText.{IsAnswerText, entry_text}

-- the text of the answers that are returned is that of the only stable table
pub answer_text_of : (q : Question) (before after : EngineContent)
    → AnswersTo q.path q.case q.is_dir before after
    → IsAnswerText before.state q (flat_map (entry_text q.form after.state.names q.path) (unwrap_or after.answers []))
answer_text_of q before after found =
    (found.0, ap (λ (held : EngineContent). flat_map (entry_text q.form held.state.names q.path) (unwrap_or held.answers [])) found.1)

-- The text of a match that a search returned (own).
use Rattle.std.specs.Prelude.{ℕ, List}
use Rattle.gix_attributes.specs.Slots.{Matched}
use Rattle.gix_attributes.specs.EngineStates.{EngineContent}
use Rattle.check_attr.specs.ScriptText.{entry_text}
use Rattle.check_attr.specs.declared.script.Question.{Question}

-- the entry of a match, for a question that borrows from a script, by the names of an engine
abbrev pub match_entry : Question → EngineContent → Matched → List ℕ
match_entry q held m = entry_text q.form held.state.names q.asked.path.bytes.now m

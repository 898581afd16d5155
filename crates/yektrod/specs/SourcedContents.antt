-- What an engine holds whose lists have sources of any bytes (own).
use Rattle.std.specs.Prelude.{ℕ, List}
use Rattle.gix_attributes.specs.EngineStates.{EngineContent}

-- the engine, whose lists have labels in the place of their sources; and the sources, by the indexes of the lists
pub record SourcedContent : Type 0 where
  pub labelled : EngineContent
  pub sources : List (List ℕ)

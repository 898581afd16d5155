-- What is true of each engine whose lists have sources of any bytes (own).
use Rattle.std.specs.Prelude.{◌≡◌, map, length}
use Rattle.yektrod.specs.SourcedContents.{SourcedContent}
use Rattle.yektrod.specs.Sourced.{AreLabelled}
use Rattle.yektrod.specs.declared.sourced.SourcedEngine.TheInside.{Inside}

abbrev pub sourced_view : Inside → SourcedContent
sourced_view e = record { labelled = e.engine; sources = map (λ source. source.items) e.sources.items }

-- the label of each list says its index, and each has a source
pub record IsSoundSourced (e : Inside) : Type 0 where
  pub labels : AreLabelled (sourced_view e)
  pub sources : length e.sources.items ≡ length e.engine.state.lists

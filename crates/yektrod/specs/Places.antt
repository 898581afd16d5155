-- The list that C adds below a directory (own).
use Rattle.std.specs.Prelude.{ℕ, Bool, List}
use Rattle.gix_attributes.specs.Bases.{with_slash}
use Rattle.gix_attributes.specs.EngineStates.{AddedList}
use Rattle.yektrod.specs.declared.lists.Place.{Place}

abbrev pub passed_list : (bytes : List ℕ) → Place → (allow_macros : Bool) → AddedList
passed_list bytes place allow_macros =
    record {
      allow_macros = allow_macros;
      source = place.source.now;
      base = with_slash place.directory.now;
      buffer = bytes;
    }

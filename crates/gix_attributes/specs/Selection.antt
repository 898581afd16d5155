-- The views of selected names (own).
use Rattle.std.specs.Prelude.{List, map}
use Rattle.std.specs.Rc.{rc_str_bytes}
use Rattle.gix_attributes.specs.Contents.{Wanted}
use Rattle.gix_attributes.specs.declared.search.selected_name.SelectedName.{SelectedName}

abbrev pub wanted_view : SelectedName → Wanted
wanted_view s = record { name = rc_str_bytes s.name; number = s.number }

abbrev pub selection_view : List SelectedName → List Wanted
selection_view selected = map wanted_view selected

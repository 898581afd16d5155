-- The line at an index of a list (own). Nothing here has to be believed.
use Rattle.std.specs.Prelude.{ℕ, List, [], None, slice_index_or}
use Rattle.attr_lists.specs.ListViews.{Entry}

-- the empty line, for indexes past the last line
abbrev pub no_entry : Entry
no_entry = record { pattern = record { text = []; mode = 0; wildcard = None }; macro = None; items = []; line = 0 }

abbrev pub entry_at : List Entry → ℕ → Entry
entry_at lines index = slice_index_or lines index no_entry

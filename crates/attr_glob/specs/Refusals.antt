-- When undoing quotes is refused (own).
use Rattle.std.specs.Prelude.{◌≡◌, ℕ, List, Err}
use Rattle.attr_glob.specs.declared.quote.ansi_c.UndoError.{UndoError}
use Rattle.attr_glob.specs.declared.quote.ansi_c.UndoError.TheVariants.{NotQuoted, Unclosed, BadEscape, OutOfMemory}
use Rattle.attr_glob.specs.Quotes.{undone, not_quoted, unclosed, bad_escape, HoldsEscape}

-- each error is the first fault of the text; memory runs out only if an escape is undone
abbrev pub IsRefusal : List ℕ → UndoError → Type 0
IsRefusal text NotQuoted = undone text ≡ Err not_quoted
IsRefusal text Unclosed = undone text ≡ Err unclosed
IsRefusal text (BadEscape offset) = undone text ≡ Err (bad_escape offset)
IsRefusal text OutOfMemory = HoldsEscape text

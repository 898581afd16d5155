-- The text of a name (own).
use Rattle.std.specs.Prelude.{ℕ, List, codes}
use Rattle.std.specs.Rc.{rc_str_bytes}
use Rattle.attr_text.specs.declared.name.Text.{Text}
use Rattle.attr_text.specs.declared.name.Text.TheVariants.{Shared, Blank}

-- the text, which is `_` of a blank
abbrev pub text_bytes : Text → List ℕ
text_bytes (Shared text) = rc_str_bytes text
text_bytes Blank = codes "_"

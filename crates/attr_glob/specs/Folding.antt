-- Letters of both cases (own): under `Fold` ASCII letters of different case are the same.
use Rattle.std.specs.Prelude.{ℕ, Bool, List, map, bytes_eq}
use Rattle.std.specs.Char.{to_ascii_lowercase}
use Rattle.attr_wildmatch.specs.declared.case.Case.{Case}
use Rattle.attr_wildmatch.specs.declared.case.Case.TheVariants.{Sensitive, Fold}

-- the text, under `Fold` with small letters in place of capital ones
abbrev pub folded : Case → List ℕ → List ℕ
folded Sensitive text = text
folded Fold text = map to_ascii_lowercase text

-- the texts are equal, under `Fold` ignoring the case of ASCII letters
abbrev pub same_text : Case → List ℕ → List ℕ → Bool
same_text case x y = bytes_eq (folded case x) (folded case y)

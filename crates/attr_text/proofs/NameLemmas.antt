-- Valid names are ASCII, so their bytes are text.
use Rattle.std.proofs.Common.{◌≡◌, ℕ, suc, true, List, ◌∷◌, arith}
use Rattle.std.specs.List.{list_all}
use Rattle.std.specs.Str.{IsAscii, IsUtf8}
use Rattle.std.proofs.lemmas.Str.{IsUtf8-from_ascii}
use Rattle.std.proofs.lemmas.Bool.{and_parts}
use Rattle.attr_text.specs.Names.{is_name_byte, is_valid_name}

pub name_bytes_are_ascii : (name : List ℕ) → list_all is_name_byte name ≡ true → IsAscii name
name_bytes_are_ascii (b ∷ bs) e (suc i) = name_bytes_are_ascii bs (and_parts _ _ e).1 i
name_bytes_are_ascii name e i = grind (arith, and_parts)

pub valid_name_is_text : (name : List ℕ) → is_valid_name name ≡ true → IsUtf8 name
valid_name_is_text name e = IsUtf8-from_ascii name (name_bytes_are_ascii name (and_parts _ _ e).1)

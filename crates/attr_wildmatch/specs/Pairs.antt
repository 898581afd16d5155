-- The pairs of bytes that stand together in a text, and those that tokens need, by kinds (own).
use Rattle.std.specs.Prelude.{ℕ, ◌+◌, ◌*◌, ◌%◌, Bool, false, ◌||◌, ◌==◌, List, [], ◌∷◌}
use Rattle.std.specs.Int.{bit_at}
use Rattle.attr_wildmatch.specs.declared.pairs.Pairs.{Pairs}
use Rattle.attr_wildmatch.specs.Tokens.{Token, lit}

-- the kind of a pair: by five bits of each byte, which leave out the case of a letter
abbrev pub kind : ℕ → ℕ → ℕ
kind first second = (first % 32 * 5 + second % 32) % 64

-- the byte and the one after it are a pair of this kind
abbrev pub is_pair : ℕ → ℕ → List ℕ → Bool
is_pair k first [] = false
is_pair k first (second ∷ bytes) = k == kind first second

-- some byte of the text and the one after it are
abbrev pub has_pair : ℕ → List ℕ → Bool
has_pair k [] = false
has_pair k (byte ∷ bytes) = is_pair k byte bytes || has_pair k bytes

-- so are a literal byte and the next token, if it is a literal byte too
abbrev pub is_literal_pair : ℕ → ℕ → List Token → Bool
is_literal_pair k first (lit second ∷ ts) = k == kind first second
is_literal_pair k first ts = false

abbrev pub begins_with_literals : ℕ → List Token → Bool
begins_with_literals k (lit first ∷ ts) = is_literal_pair k first ts
begins_with_literals k ts = false

-- some tokens that stand together are
abbrev pub needs_pair : ℕ → List Token → Bool
needs_pair k [] = false
needs_pair k (t ∷ ts) = begins_with_literals k (t ∷ ts) || needs_pair k ts

-- the kind is one of these
abbrev pub holds : Pairs → ℕ → Bool
holds pairs k = bit_at pairs.bits k == 1

-- Sets of bytes as bits, 64 to a word (own).
use Rattle.std.specs.Prelude.{ℕ, ◌/◌, ◌%◌, Bool, ◌==◌, List, slice_index}
use Rattle.std.specs.Int.{bit_at}
use Rattle.attr_wildmatch.specs.declared.bracket.ByteSet.{ByteSet}

-- the bit of the byte is set in these words
abbrev pub is_marked : List ℕ → ℕ → Bool
is_marked words b = bit_at (slice_index words (b / 64)) (b % 64) == 1

-- the set has the byte
abbrev pub has : ByteSet → ℕ → Bool
has s b = is_marked s.words b

-- What a room holds is a beginning of the text, and all of it if nothing was left out.
use Rattle.std.proofs.lemmas.Bool.Decides.{nat_tests}
use Rattle.std.proofs.Common.{◌≡◌, ◌≤◌, ◌<◌, ◌^◌, ℕ, List, ◌++◌, length, take, min, arith}
use Rattle.std.specs.Prelude.{Result, is_ok, if◌then◌else◌}
use Rattle.std.proofs.Math.Seq.{take-append-add, take-length}
use Rattle.std.proofs.lemmas.List.{length-append, length-take, length-take-le, take-append-le}
use Rattle.yektrod.specs.Played.{counted_length}

-- a beginning of a text is one of a longer text
pub still_front : (held text more : List ℕ) → held ≡ take (length held) text → held ≡ take (length held) (text ++ more)
still_front held text more front = grind (arith, nat_tests, min, length-take, take-append-le)

-- if so many bytes are held as the text has, they are the text
all_held : (held text : List ℕ) (needed : ℕ) → held ≡ take (length held) text → needed ≡ counted_length text → needed ≤ length held
    → length held < 2 ^ 63 → held ≡ text
all_held held text needed front counted all small = grind (arith, nat_tests, length-take (length held) text, take-length text, min)

-- and with the next bytes, or some of them, a beginning of the longer text
pub front_held : (held text bytes new : List ℕ) (needed n : ℕ) → held ≡ take (length held) text → needed ≡ counted_length text
    → needed ≤ length held → length held < 2 ^ 63 → n ≤ length bytes → new ≡ held ++ take n bytes → new ≡ take (length new) (text ++ bytes)
front_held held text bytes new needed n front counted all small fits new_is =
    grind (arith, nat_tests, all_held, length-append, length-take-le, take-append-add)

-- the same if there may be no memory for the next bytes
pub front_after : {T E : Type 0} (r : Result T E) (held text bytes new : List ℕ) (needed n : ℕ) → held ≡ take (length held) text
    → needed ≡ counted_length text → needed ≤ length held → length held < 2 ^ 63 → n ≤ length bytes
    → new ≡ (if is_ok r then held ++ take n bytes else held) → new ≡ take (length new) (text ++ bytes)
front_after r held text bytes new needed n front counted all small fits new_is = grind (arith, nat_tests, front_held, still_front)

-- The flags of a mode are different bits, so that joining them adds them.
use Rattle.std.proofs.lemmas.Bool.Decides.{nat_tests}
use Rattle.std.proofs.Common.{arith, ◌≡◌, ℕ, ◌+◌, Bool, bit_or}
use Rattle.attr_glob.specs.Patterns.{has_flag, set_where, no_sub_dir, ends_with, must_be_dir, negative, absolute}

abbrev joined : Bool → Bool → Bool → Bool → Bool → ℕ
joined a b c d e =
    bit_or (bit_or (bit_or (bit_or (set_where a no_sub_dir) (set_where b ends_with)) (set_where c must_be_dir)) (set_where d negative))
    (set_where e absolute)

abbrev pub added : Bool → Bool → Bool → Bool → Bool → ℕ
added a b c d e =
    set_where a no_sub_dir + set_where b ends_with + set_where c must_be_dir + set_where d negative + set_where e absolute

pub joined_flags : (a b c d e : Bool) → joined a b c d e ≡ added a b c d e
joined_flags a b c d e = grind arith

pub added-ends_with : (a b c d e : Bool) → has_flag (added a b c d e) ends_with ≡ b
added-ends_with a b c d e = grind (arith, nat_tests)

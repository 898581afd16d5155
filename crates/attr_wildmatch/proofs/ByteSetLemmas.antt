-- A byte that is put into a set, and the bytes that the members of a bracket put in.
use Rattle.std.proofs.Common.{◌≡◌, ℕ, ◌+◌, ◌*◌, ◌/◌, ◌%◌, ◌^◌, ◌<◌, nat_lt, Bool, true, ◌||◌, ◌==◌, ◌&&◌, bit_or, List}
use Rattle.std.proofs.Common.{length, get_or, set, inl, inr, arith, get_or-set_same, get_or-set_other}
use Rattle.std.proofs.lemmas.Bool.{cases_eq}
use Rattle.std.proofs.lemmas.Bool.Decides.{nat_tests}
use Rattle.attr_wildmatch.specs.inner.ByteSets.{is_marked}
use Rattle.attr_wildmatch.proofs.PairLemmas.{one_more}

-- the words with bit i of the word at this index set
abbrev pub with_word : List ℕ → ℕ → ℕ → List ℕ
with_word words index i = set words index (bit_or (get_or words index 0) (1 * 2 ^ i % 2 ^ 64))

-- the words with the bit of n set
abbrev pub with_mark : List ℕ → ℕ → List ℕ
with_mark words n = with_word words (n / 64) (n % 64)

-- one bit more is set
pub marked : (words : List ℕ) (n k : ℕ) → n < 64 * length words → is_marked (with_mark words n) k ≡ (is_marked words k || k == n)
marked words n k within =
    let v : ℕ = bit_or (get_or words (n / 64) 0) (1 * 2 ^ (n % 64) % 2 ^ 64) in
    elim (cases_eq (k / 64) (n / 64)) as (λ _. is_marked (with_mark words n) k ≡ (is_marked words k || k == n)) [
      | inl row ↦
          let same = one_more (get_or words (n / 64) 0) (n % 64) (k % 64) (omega arith) in
          rw (row, get_or-set_same words (n / 64) v 0 (omega arith)) (grind (arith, nat_tests, same))
      | inr apart ↦ rw (get_or-set_other words (n / 64) (k / 64) v 0 apart) (grind (arith, nat_tests))
    ]

-- Of a member's bytes below n, one more is put in, or the member doesn't have it.

pub one_held : (old : Bool) (held : ℕ → Bool) (b n : ℕ) → held n ≡ true → (old || b == n) ≡ (old || (held b && b == n))
one_held old held b n h = grind (arith, nat_tests, cases_eq)

-- those below the next n
pub next_held : (new old start held : Bool) (b n : ℕ) → new ≡ (old || (held && b == n)) → old ≡ (start || (held && nat_lt b n)) →
    new ≡ (start || (held && nat_lt b (n + 1)))
next_held new old start held b n more before = grind (arith, nat_tests, cases_eq, more, before)

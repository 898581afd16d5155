-- Where the first `=` of a word is, and what stands before it.
use Rattle.std.proofs.Common.{◌≡◌, ℕ, ◌+◌, Bool, true, not, List, [], ◌∷◌, ◌++◌, length, position, Some, None, sym, arith, zero-add, length-append}
use Rattle.std.specs.List.{position_or_len, before_first, list_all}
use Rattle.std.proofs.Math.Seq.{take-append_seam}
use Rattle.std.proofs.lemmas.List.{append-nil, take_all}
use Rattle.attr_text.specs.Items.{equals, is_equals}

-- if a list begins with bytes that fail a test, the first that passes it comes after them
offset-behind : (p : ℕ → Bool) (xs ys : List ℕ) → list_all (λ b. not (p b)) xs ≡ true →
    position_or_len p (xs ++ ys) ≡ length xs + position_or_len p ys
offset-behind p [] ys none = sym (zero-add (position_or_len p ys))
offset-behind p (x ∷ xs) ys none = grind (arith, offset-behind p xs ys)

pub before-equals : (name rest : List ℕ) → list_all (λ b. not (is_equals b)) name ≡ true → before_first is_equals (name ++ equals ∷ rest) ≡ name
before-equals name rest none = grind (arith, offset-behind is_equals name (equals ∷ rest), take-append_seam name (equals ∷ rest))

before-no_equals : (name : List ℕ) → list_all (λ b. not (is_equals b)) name ≡ true → position_or_len is_equals name ≡ length name
before-no_equals name none = grind (arith, append-nil name, offset-behind is_equals name [])

pub before-whole : (name : List ℕ) → list_all (λ b. not (is_equals b)) name ≡ true → before_first is_equals name ≡ name
before-whole name none = grind (arith, before-no_equals name, take_all (length name) name)

pub no_offset : (name : List ℕ) → list_all (λ b. not (is_equals b)) name ≡ true → position is_equals name ≡ None
no_offset name none = grind (arith, before-no_equals name)

pub offset-equals : (name rest : List ℕ) → list_all (λ b. not (is_equals b)) name ≡ true → position is_equals (name ++ equals ∷ rest)
    ≡ Some (length name)
offset-equals name rest none = grind (arith, offset-behind is_equals name (equals ∷ rest), length-append name (equals ∷ rest))

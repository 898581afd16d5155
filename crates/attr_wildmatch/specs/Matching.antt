-- Which texts the tokens of a pattern match. The gitignore page: "An asterisk `*` matches anything except a slash"; "A leading
-- `**` followed by a slash means match in all directories"; "A slash followed by two consecutive asterisks then a slash matches
-- zero or more directories". The count of pairs is own.
use Rattle.std.specs.Prelude.{true, ◌≡◌, ◌≢◌, ◌≤◌, ◌+◌, ℕ, Bool, not, ◌⊎◌, List, [], ◌∷◌, ◌++◌, All, IsTrue, ◌==◌, if◌then◌else◌, length, take, sum_by, count_by}
use Rattle.std.specs.List.{range_with_len}
use Rattle.std.specs.Char.{to_ascii_lowercase}
use Rattle.attr_wildmatch.specs.declared.case.Case.{Case}
use Rattle.attr_wildmatch.specs.declared.case.Case.TheVariants.{Sensitive, Fold}
use Rattle.attr_wildmatch.specs.Bytes.{slash}
use Rattle.attr_wildmatch.specs.Brackets.{set_holds}
use Rattle.attr_wildmatch.specs.Spelling.{AreTokens}
use Rattle.attr_wildmatch.specs.Tokens.{Token, lit, one, set, star, dirs, rest}

-- the bytes are equal, or under `Fold` their lower forms are
abbrev pub same_byte : Case → ℕ → ℕ → Bool
same_byte Sensitive c b = b == c
same_byte Fold c b = to_ascii_lowercase b == to_ascii_lowercase c

-- the token takes this text
abbrev pub Takes : Case → Token → List ℕ → Type 0
Takes case (lit c) part = (b : ℕ) × (part ≡ b ∷ []) × IsTrue (same_byte case c b)
Takes case one part = (b : ℕ) × (part ≡ b ∷ []) × (b ≢ slash)
Takes case (set negated ms) part =
    (b : ℕ) × (part ≡ b ∷ []) × (b ≢ slash) × IsTrue (if negated then not (set_holds case ms b) else set_holds case ms b)
Takes case star part = All (λ b. b ≢ slash) part
Takes case dirs part = (part ≡ []) ⊎ ((front : List ℕ) × (part ≡ front ++ slash ∷ []))
Takes case rest part = Unit {0}

-- the value can be split so that each token takes its part, in order
abbrev pub Match : Case → List Token → List ℕ → Type 0
Match case [] value = value ≡ []
Match case (t ∷ ts) value =
    (part : List ℕ) × (others : List ℕ) × (value ≡ part ++ others) × Takes case t part × Match case ts others

-- the text spells tokens that match the value
abbrev pub TextMatches : Case → List ℕ → List ℕ → Type 0
TextMatches case text value = (ts : List Token) × AreTokens true text ts × Match case ts value

-- how many pairs of a number k up to n and an offset j up to t pass the test
abbrev pub pairs_passed : (ℕ → ℕ → Bool) → ℕ → ℕ → ℕ
pairs_passed test n t = sum_by (λ j. count_by (λ k. test k j) (range_with_len 0 (n + 1))) (range_with_len 0 (t + 1))

-- The pairs (k, j) for which the first k tokens match the first j bytes are at most `most`: each test that only such pairs pass is
-- passed by at most so many.
abbrev pub ReachedAtMost : Case → List Token → List ℕ → ℕ → Type 0
ReachedAtMost case ts value most =
    (test : ℕ → ℕ → Bool) → ((k j : ℕ) → IsTrue (test k j) → Match case (take k ts) (take j value)) →
    pairs_passed test (length ts) (length value) ≤ most

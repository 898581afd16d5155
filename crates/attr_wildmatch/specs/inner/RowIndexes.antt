-- The indexes that a matcher has reached, and what one more byte makes of them (own).
use Rattle.std.specs.Prelude.{◌≡◌, ◌≤◌, ◌<◌, ◌+◌, ◌^◌, ℕ, zero, suc, Bool, true, false, not, ◌==◌, ◌⊎◌, List, length, Option, Some, None, slice_get, filter}
use Rattle.std.specs.Prelude.{Vec, vec_capacity}
use Rattle.std.specs.List.{range_with_len}
use Rattle.attr_wildmatch.specs.declared.case.Case.{Case}
use Rattle.attr_wildmatch.specs.Bytes.{slash}
use Rattle.attr_wildmatch.specs.Tokens.{Token, star, dirs, rest}
use Rattle.attr_wildmatch.specs.Deciding.{takes_byte}

-- the token may take nothing
abbrev pub may_be_nothing : Token → Bool
may_be_nothing star = true
may_be_nothing dirs = true
may_be_nothing rest = true
may_be_nothing _ = false

-- the token is a directory star
abbrev pub is_dirs : Token → Bool
is_dirs dirs = true
is_dirs _ = false

-- the token goes on to take this byte
abbrev pub continues_with : Token → ℕ → Bool
continues_with star b = not (b == slash)
continues_with rest b = true
continues_with _ b = false

-- the token ends with this byte
abbrev pub ends_at : Case → Token → ℕ → Bool
ends_at case dirs b = b == slash
ends_at case t b = takes_byte case t b

-- the token of an index may take nothing
abbrev pub may_skip : Option Token → Bool
may_skip None = false
may_skip (Some t) = may_be_nothing t

-- the token of an index is a directory star, so that the index stays for good
abbrev pub is_dirs_at : Option Token → Bool
is_dirs_at None = false
is_dirs_at (Some t) = is_dirs t

-- by the token before it an index stays over the byte
abbrev pub stays_on : Option Token → ℕ → Bool
stays_on None b = false
stays_on (Some t) b = continues_with t b

-- by its token an index advances to the next one with the byte
abbrev pub advances_on : Case → Option Token → ℕ → Bool
advances_on case None b = false
advances_on case (Some t) b = ends_at case t b

-- the token before an index
abbrev pub token_before : List Token → ℕ → Option Token
token_before ts zero = None
token_before ts (suc k) = slice_get ts k

-- the indexes below n that pass the test, in order
abbrev pub indexes_below : (ℕ → Bool) → ℕ → List ℕ
indexes_below test n = filter test (range_with_len 0 n)

-- Of the indexes that are alive, the fresh ones are those to which the tokens before them lead exactly; a directory star's
-- index stays alive once it was. A fresh index is alive, and makes the next one fresh if its token may take nothing.
pub record IsGrowing (ts : List Token) (fresh alive : ℕ → Bool) : Type 0 where
  pub living : (k : ℕ) → fresh k ≡ true → alive k ≡ true
  pub skip : (k : ℕ) → may_skip (slice_get ts k) ≡ true → fresh k ≡ true → fresh (k + 1) ≡ true

-- what a byte makes of the indexes that were alive before it
pub record IsStep (case : Case) (ts : List Token) (b : ℕ) (fresh alive before : ℕ → Bool) : Type 0 where
  pub growing : IsGrowing ts fresh alive
  pub directory : (k : ℕ) → is_dirs_at (slice_get ts k) ≡ true → before k ≡ true → alive k ≡ true
  pub stay : (k : ℕ) → stays_on (token_before ts k) b ≡ true → before k ≡ true → fresh k ≡ true
  pub advance : (k : ℕ) → advances_on case (slice_get ts k) b ≡ true → before k ≡ true → fresh (k + 1) ≡ true
  pub alive_from : (k : ℕ) → k ≤ length ts → alive k ≡ true →
      (fresh k ≡ true) ⊎ ((is_dirs_at (slice_get ts k) ≡ true) × (before k ≡ true))
  pub fresh_from : (k : ℕ) → k < length ts → fresh (k + 1) ≡ true →
      ((stays_on (token_before ts (k + 1)) b ≡ true) × (before (k + 1) ≡ true)) ⊎
      (((advances_on case (slice_get ts k) b ≡ true) × (before k ≡ true)) ⊎
      ((may_skip (slice_get ts k) ≡ true) × (fresh k ≡ true)))

-- The row has the indexes below `free` that are alive. The last of them is just below it, and leads to no further
-- one without a byte.
pub record IsRow (ts : List Token) (fresh alive : ℕ → Bool) (row : List ℕ) (free : ℕ) : Type 0 where
  pub kept : row ≡ indexes_below alive free
  pub last : (k : ℕ) → k + 1 ≡ free → alive k ≡ true
  pub closed : (k : ℕ) → k + 1 ≡ free → fresh k ≡ true → may_skip (slice_get ts k) ≡ true → ⊥

-- all that the indexes below p make alive lies below `free`
pub record IsSettled (case : Case) (ts : List Token) (b : ℕ) (before : ℕ → Bool) (p free : ℕ) : Type 0 where
  pub stay : (k : ℕ) → k < p → before k ≡ true → stays_on (token_before ts k) b ≡ true → k < free
  pub directory : (k : ℕ) → k < p → before k ≡ true → is_dirs_at (slice_get ts k) ≡ true → k < free
  pub advance : (k : ℕ) → k < p → before k ≡ true → advances_on case (slice_get ts k) b ≡ true → k + 1 < free

-- a row that is being made, of which the indexes below p are settled
pub record IsUnderway (case : Case) (ts : List Token) (b : ℕ) (fresh alive before : ℕ → Bool)
    (row : List ℕ) (p free : ℕ) : Type 0 where
  pub step : IsStep case ts b fresh alive before
  pub first : free ≡ 0 → fresh 0 ≡ false
  pub row_is : IsRow ts fresh alive row free
  pub settled : IsSettled case ts b before p free

-- none of the indexes from the first to the last, which is left out, is alive
abbrev pub NoneAlive : (ℕ → Bool) → ℕ → ℕ → Type 0
NoneAlive alive first last = (k : ℕ) → first ≤ k → k < last → alive k ≡ false

-- if the byte leaves an index in the row, the index is below `free`
pub record HasStayed (ts : List Token) (b p free : ℕ) : Type 0 where
  pub stay : stays_on (token_before ts p) b ≡ true → p < free
  pub directory : is_dirs_at (slice_get ts p) ≡ true → p < free

-- a row has room for all indexes among n tokens, and has at most `free` of them; `free` is at most one past the last index
pub record HasRoom {A : Type 0} (n : ℕ) (row : Vec ℕ A) (free : ℕ) : Type 0 where
  pub few : n < 2 ^ 63
  pub capacity : n < vec_capacity row
  pub room : length row.items ≤ free
  pub bound : free ≤ n + 1

-- a row among n tokens, from `old` to `new`, got no index but this one and further ones without a gap, if any
pub record IsExtended {A : Type 0} (n index : ℕ) (old new : Vec ℕ A) (free free' : ℕ) : Type 0 where
  pub grown : free ≤ free'
  pub bound : free ≤ n + 1 → free' ≤ n + 1
  pub short : length new.items ≤ free'
  pub capacity : vec_capacity old ≤ vec_capacity new
  pub reached : (most : ℕ) → index ≤ most → free ≤ most + length old.items → free' ≤ most + length new.items

-- an index among n tokens, or the one after them, may be added to a row that has room
pub record MayInsert {A : Type 0} (n index : ℕ) (row : Vec ℕ A) (free : ℕ) : Type 0 where
  pub inside : index ≤ n
  pub room : HasRoom n row free

-- the row was extended, and has the index
pub record IsInserted {A : Type 0} (n index : ℕ) (old new : Vec ℕ A) (free free' : ℕ) : Type 0 where
  pub added : index < free'
  pub extended : IsExtended n index old new free free'

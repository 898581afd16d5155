-- The words of a text are its first word, and the words of the text after it.
use Rattle.std.proofs.Common.{◌≡◌, ℕ, suc, ◌+◌, ◌-◌, ◌<◌, ◌≤◌, Bool, true, not, List, [], ◌∷◌, length, length-drop, take, drop}
use Rattle.std.proofs.Common.{position, ◌||◌, Some, None, unwrap_or, refl, drop-cons, arith}
use Rattle.std.specs.List.{position_or_len, after_first}
use Rattle.std.proofs.lemmas.Grind.{common_steps}
use Rattle.std.proofs.lemmas.List.Folds.{length-prefix_len}
use Rattle.std.proofs.lemmas.List.Splits.{slice_split_first, slice_split_none}
use Rattle.std.proofs.lemmas.List.Sums.{prefix_len-le-length, fails_before_first, passes_at_first}
use Rattle.std.proofs.lemmas.List.{drop_all, take_all, nil_from_length}
use Rattle.std.proofs.lemmas.Bool.{cases_lt}
use Rattle.attr_text.specs.Items.{is_blank, is_equals, is_some_text, words, after_blanks, before_blank, from_blank}

-- the index that `position` finds, or the length, is the offset that the words name
pub offset_of_first : {X : Type 0} (p : X → Bool) (xs : List X) → unwrap_or (position p xs) (length xs) ≡ position_or_len p xs
offset_of_first p xs = grind (arith, prefix_len-le-length (λ x. not (p x)) xs)

pub offset_in_text : {X : Type 0} (p : X → Bool) (xs : List X) → position_or_len p xs ≤ length xs
offset_in_text p xs = prefix_len-le-length (λ x. not (p x)) xs

pub drop-one_more : {X : Type 0} (n : ℕ) (x : X) (xs : List X) → drop (1 + n) (x ∷ xs) ≡ drop n xs
drop-one_more n x xs = let e : 1 + n ≡ suc n = omega arith in rw e refl

pub take-one_more : {X : Type 0} (n : ℕ) (x : X) (xs : List X) → take (1 + n) (x ∷ xs) ≡ x ∷ take n xs
take-one_more n x xs = let e : 1 + n ≡ suc n = omega arith in rw e refl

pub words-after_blanks : (text : List ℕ) → words (after_blanks text) ≡ words text
words-after_blanks [] = refl
words-after_blanks (b ∷ bs) = grind (arith, drop-one_more, words-after_blanks bs)

words-from_blank : (text : List ℕ) → position_or_len is_blank text < length text → words (from_blank text) ≡ words (after_first is_blank text)
words-from_blank text h = grind (arith, common_steps, drop-cons text (position_or_len is_blank text) 0, passes_at_first is_blank text 0)

-- the words of a text are the text before its first blank, if there is some, and the words from there on
words-first : (text : List ℕ) → is_some_text (before_blank text) ≡ true → words text ≡ before_blank text ∷ words (from_blank text)
words-first text e = grind (arith, cases_lt, slice_split_first, words-from_blank, drop_all, take_all, slice_split_none, fails_before_first)

-- after the blanks in front, a text that has not ended begins with a word
pub begins_word : (text : List ℕ) → 0 < length (after_blanks text) → is_some_text (before_blank (after_blanks text)) ≡ true
begins_word [] some = absurd (omega arith)
begins_word (b ∷ bs) some = grind (arith, drop-one_more, take-one_more, begins_word bs)

-- the step of the iterator: after the blanks in front the text begins with a word, unless nothing is left
pub words-step : (text rest : List ℕ) → rest ≡ after_blanks text → 0 < length rest → words text ≡ before_blank rest ∷ words (from_blank rest)
words-step text rest e some = grind (arith, words-after_blanks text, begins_word text, words-first rest)

pub words-end : (text rest : List ℕ) → rest ≡ after_blanks text → length rest ≡ 0 → words text ≡ []
words-end text rest e none = grind (arith, words-after_blanks text, nil_from_length rest none)

-- the first blank is the first blank from the first byte on that is a blank or a `=`
blank-from_stop : (text : List ℕ) → position_or_len is_blank text
    ≡ position_or_len (λ b. is_blank b || is_equals b) text
    + position_or_len is_blank (drop (position_or_len (λ b. is_blank b || is_equals b) text) text)
blank-from_stop [] = refl
blank-from_stop (b ∷ bs) = grind (arith, drop-one_more, blank-from_stop bs)

-- the same for a slice from the stop on
pub blank-from_slice : (text : List ℕ) (stop : ℕ) → stop ≡ position_or_len (λ b. is_blank b || is_equals b) text
    → stop + position_or_len is_blank (take (length text - stop) (drop stop text)) ≡ position_or_len is_blank text
blank-from_slice text stop e = grind (arith, take_all (length text - stop) (drop stop text), length-drop stop text, blank-from_stop text)

equals-at_stop : (text : List ℕ) → position_or_len is_equals (take (position_or_len is_blank text) text)
    ≡ position_or_len (λ b. is_blank b || is_equals b) text
equals-at_stop [] = refl
equals-at_stop (b ∷ bs) = grind (arith, take-one_more, equals-at_stop bs)

module _ (text : List ℕ) (stop end : ℕ) (first : stop ≡ position_or_len (λ b. is_blank b || is_equals b) text)
    (blank : end ≡ position_or_len is_blank text) where
  -- a `=` before the first blank is the first one of the word
  pub equals-before_blank : stop < end → position is_equals (take end text) ≡ Some stop
  equals-before_blank lt = grind (arith, equals-at_stop text, length-prefix_len (λ b. not (is_blank b)) text)

  -- and if the blank comes first, the word has none
  pub no_equals : end ≤ stop → position is_equals (take end text) ≡ None
  no_equals le = grind (arith, equals-at_stop text, length-prefix_len (λ b. not (is_blank b)) text)

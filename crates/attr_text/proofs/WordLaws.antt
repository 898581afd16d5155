-- The words that are computed are the longest runs of bytes that are not blanks.
use Rattle.std.proofs.Common.{◌≡◌, ℕ, zero, suc, ◌<◌, ◌≤◌, Bool, true, false, not, List, [], ◌∷◌, ◌++◌, length, get_or, take, refl, sym}
use Rattle.std.proofs.Common.{ap, ◌∙◌, arith, inl, inr, subst, length-append}
use Rattle.std.specs.List.{list_all, All, before_first, position_or_len}
use Rattle.std.proofs.lemmas.List.{append-nil, take-append-drop}
use Rattle.std.proofs.lemmas.List.Splits.{slice_split_none, slice_split_at}
use Rattle.std.proofs.lemmas.List.Sums.{AllPass-from_list_all}
use Rattle.std.proofs.lemmas.Bool.{cases_Bool, cases_lt, not-true}
use Rattle.attr_text.specs.Items.{is_blank, words, after_blanks, before_blank, from_blank}
use Rattle.attr_text.specs.Words.{EndsRun, BeginsWith, AreWords}
use Rattle.attr_text.proofs.WordLemmas.{words-step, begins_word, drop-one_more, take-one_more}

-- no byte of a run is a blank
none_blank : (word : List ℕ) → list_all (λ b. not (is_blank b)) word ≡ true → All (λ b. is_blank b ≡ false) word
none_blank word run k d below = not-true (is_blank (get_or word k d)) (AllPass-from_list_all (λ b. not (is_blank b)) word run k d below)

words-blanks : (gap text : List ℕ) → list_all is_blank gap ≡ true → words (gap ++ text) ≡ words text
words-blanks [] text blanks = refl
words-blanks (b ∷ gap) text blanks = grind (arith, words-blanks gap text)

pub words-run : (word rest : List ℕ) → list_all (λ b. not (is_blank b)) word ≡ true → 0 < length word → EndsRun rest → words (word ++ rest) ≡ word ∷
    words rest
words-run word rest run some longest =
    grind (arith, append-nil word, slice_split_none is_blank word (none_blank word run), none_blank word run, slice_split_at is_blank word)

words-all_blank : (text : List ℕ) → list_all is_blank text ≡ true → words text ≡ []
words-all_blank text blanks = ap words (sym (append-nil text)) ∙ words-blanks text [] blanks

pub runs_are_words : (text : List ℕ) (runs : List (List ℕ)) → AreWords text runs → runs ≡ words text
runs_are_words text [] blanks = sym (words-all_blank text blanks)
runs_are_words text (word ∷ others) (gap, rest, begins, after) = grind (arith, words-blanks, words-run, runs_are_words rest others after)

-- what stands before the first byte that passes a test fails it
pub front_fails : (p : ℕ → Bool) (text : List ℕ) → list_all (λ b. not (p b)) (before_first p text) ≡ true
front_fails p [] = refl
front_fails p (b ∷ bs) = grind (arith, take-one_more, front_fails p bs)

-- the blanks in front of a text
abbrev gap_of : List ℕ → List ℕ
gap_of text = take (position_or_len (λ b. not (is_blank b)) text) text

gap_blank : (text : List ℕ) → list_all is_blank (gap_of text) ≡ true
gap_blank [] = refl
gap_blank (b ∷ bs) = grind (arith, take-one_more, gap_blank bs)

all_blank : (text : List ℕ) → length (after_blanks text) ≤ 0 → list_all is_blank text ≡ true
all_blank [] none = refl
all_blank (b ∷ bs) none = grind (arith, drop-one_more, all_blank bs)

run_ends : (text : List ℕ) → EndsRun (from_blank text)
run_ends [] = tt
run_ends (b ∷ bs) = grind (arith, cases_Bool, drop-one_more, run_ends bs)

-- a text that is not all blanks begins with a word
first_of : (text : List ℕ) → 0 < length (after_blanks text)
    → BeginsWith text (gap_of text) (before_blank (after_blanks text)) (from_blank (after_blanks text))
first_of text some =
    grind (arith, gap_blank text, front_fails is_blank (after_blanks text), begins_word text some, run_ends (after_blanks text), take-append-drop)

rest_is_shorter : (text gap word rest : List ℕ) → BeginsWith text gap word rest → length rest < length text
rest_is_shorter text gap word rest b = grind (arith, length-append)

runs-within : (fuel : ℕ) (text : List ℕ) → length text ≤ fuel → AreWords text (words text)
runs-within zero [] enough = refl
runs-within zero (b ∷ bs) enough = absurd (omega arith)
runs-within (suc fuel) text enough = elim (cases_lt 0 (length (after_blanks text))) [
  | inl some ↦
      let rest = from_blank (after_blanks text) in
      let first = first_of text some in
      grind (arith, words-step, rest_is_shorter, runs-within fuel rest)
  | inr none ↦ let blanks = all_blank text none in subst (AreWords text) (sym (words-all_blank text blanks)) blanks
]

pub words_are_runs : (text : List ℕ) → AreWords text (words text)
words_are_runs text = runs-within (length text) text (omega arith)

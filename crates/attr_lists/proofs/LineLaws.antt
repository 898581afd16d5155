-- The lines that are computed are those that the bytes join, and no others are.
use Rattle.std.proofs.Common.{ap, drop, ◌∙◌, ◌≡◌, ◌≢◌, ℕ, zero, suc, ◌+◌, ◌-◌, ◌<◌, ◌≤◌, not, List, [], ◌∷◌, ◌++◌, length, take, get_or, map}
use Rattle.std.proofs.Common.{refl, sym, append_assoc, arith, inl, inr, subst, length-append, eqb}
use Rattle.std.specs.List.{position_or_len, before_first, after_first}
use Rattle.std.proofs.Math.Seq.{take-append_seam, take-append-add, drop-append-add, get_or-append_seam}
use Rattle.std.proofs.lemmas.List.{take_all, take_more, drop_all, length-drop, get_or_append_left}
use Rattle.std.proofs.lemmas.List.Sums.{AllPass-from_list_all, split_at_first, passes_at_first}
use Rattle.std.proofs.lemmas.List.Folds.{list_all-append}
use Rattle.std.proofs.lemmas.Bool.{cases_eq, cases_lt, not-true, eqb-false}
use Rattle.bstr.specs.Text.{line_len, lines_of, no_cr, without_terminator}
use Rattle.bstr.proofs.lemmas.LineLemmas.{line_len-at, line_len-none, lines-step, lines-nil}
use Rattle.attr_lists.specs.LineResults.{byte_order_marks, without_front, lines_in}
use Rattle.attr_text.specs.Items.{carriage_return}
use Rattle.attr_text.proofs.ForCallers.{front_fails}
use Rattle.attr_lists.specs.LinesJoined.{line_feed, IsLine, AreLines}

-- the lines of some bytes, without their ends
abbrev stripped : List ℕ → List (List ℕ)
stripped bytes = map without_terminator (lines_of bytes)

no_feed : (line : List ℕ) → IsLine line → (k : ℕ) → k < length line → get_or line k 0 ≢ line_feed
no_feed line is k below = eqb-false (get_or line k 0) line_feed (not-true (eqb (get_or line k 0) line_feed)
    (AllPass-from_list_all (λ b. not (eqb b line_feed)) line is k 0 below))

-- a list with one more byte at its end: there is one, the last, and what stands before it
pushed : (front : List ℕ) (b : ℕ) → (0 < length (front ++ b ∷ [])) × (get_or (front ++ b ∷ []) (length (front ++ b ∷ []) - 1) 0 ≡ b)
    × (take (length (front ++ b ∷ []) - 1) (front ++ b ∷ []) ≡ front)
pushed front b = grind (arith, length-append front (b ∷ []), get_or-append_seam front b [] 0, take-append_seam front (b ∷ []))

no_cr-push : (line : List ℕ) → no_cr (line ++ carriage_return ∷ []) ≡ line
no_cr-push line = grind (arith, pushed line carriage_return)

without-fed : (front : List ℕ) → without_terminator (front ++ line_feed ∷ []) ≡ no_cr front
without-fed front = grind (arith, pushed front line_feed)

-- the lines of bytes that begin with a front without line feed, and a line feed
fed : (front rest : List ℕ) → IsLine front → stripped (front ++ line_feed ∷ rest) ≡ no_cr front ∷ stripped rest
fed front rest is =
    let bytes = front ++ line_feed ∷ rest in
    let longer = length-append front (line_feed ∷ rest) in
    let before = λ (k : ℕ) (below : k < length front). subst (λ (b : ℕ). b ≢ line_feed) (sym (get_or_append_left front (line_feed ∷ rest) 0 k below))
    (no_feed front is k below) in
    let len : line_len bytes ≡ length front + 1 =
    line_len-at bytes (length front) (omega arith) (get_or-append_seam front line_feed rest 0) before in
    let first : take (line_len bytes) bytes ≡ front ++ line_feed ∷ [] = rw len (take-append-add front (line_feed ∷ rest) 1) in
    let others : drop (line_len bytes) bytes ≡ rest = rw len (drop-append-add front (line_feed ∷ rest) 1) in
    rw (lines-step bytes (omega arith), first, others, without-fed front) refl

is_line-return : (line : List ℕ) → IsLine line → IsLine (line ++ carriage_return ∷ [])
is_line-return line is = grind (arith, list_all-append (λ b. not (eqb b line_feed)) line (carriage_return ∷ []))

is_line-front : (line : List ℕ) → IsLine (line ++ carriage_return ∷ []) → IsLine line
is_line-front line is = grind (arith, list_all-append (λ b. not (eqb b line_feed)) line (carriage_return ∷ []))

joined_lines : (bytes : List ℕ) (lines : List (List ℕ)) → AreLines bytes lines → lines ≡ stripped bytes
joined_lines bytes [] none = rw (none, lines-nil) refl
joined_lines bytes (line ∷ others) (is, inl (rest, whole, ends, more)) = grind (arith, fed, joined_lines rest others more)
joined_lines bytes (line ∷ others) (is, inr (inl (rest, whole, more))) =
    let front = line ++ carriage_return ∷ [] in
    let split : bytes ≡ front ++ line_feed ∷ rest = whole ∙ sym (append_assoc line (carriage_return ∷ []) (line_feed ∷ rest)) in
    rw (split, fed front rest (is_line-return line is), no_cr-push line) (ap (λ l. line ∷ l) (joined_lines rest others more))
joined_lines bytes (line ∷ others) (is, inr (inr (whole, some, none))) =
    grind (arith, line_len-none, no_feed, take_all, drop_all, lines-step, lines-nil)

-- a line whose last byte is a carriage return
cut_return : (front : List ℕ) → get_or front (length front - 1) 0 ≡ carriage_return
    → front ≡ take (length front - 1) front ++ carriage_return ∷ []
cut_return front e = grind (arith, take_more front (length front - 1) 0, take_all (length front) front)

join-fed : (front rest : List ℕ) → IsLine front → AreLines rest (stripped rest) → AreLines (front ++ line_feed ∷ rest)
    (stripped (front ++ line_feed ∷ rest))
join-fed front rest is others = grind (arith, fed, cases_eq, cut_return, no_cr-push, is_line-front, append_assoc)

join-unfed : (line : List ℕ) → IsLine line → AreLines line (stripped line)
join-unfed [] is = rw lines-nil refl
join-unfed (b ∷ bs) is = grind (arith, line_len-none, no_feed, take_all, drop_all, lines-step, lines-nil)

-- what stands before the first line feed, and what comes after it
abbrev front_of : List ℕ → List ℕ
front_of bytes = before_first (λ b. eqb b line_feed) bytes

abbrev rest_of : List ℕ → List ℕ
rest_of bytes = after_first (λ b. eqb b line_feed) bytes

cut_feed : (bytes : List ℕ) → position_or_len (λ b. eqb b line_feed) bytes < length bytes → bytes ≡ front_of bytes ++ line_feed ∷ rest_of bytes
cut_feed bytes has = grind (arith, split_at_first (λ b. eqb b line_feed) bytes 0 has, passes_at_first (λ b. eqb b line_feed) bytes 0 has)

stripped_joins : (fuel : ℕ) (bytes : List ℕ) → length bytes ≤ fuel → AreLines bytes (stripped bytes)
stripped_joins zero [] enough = join-unfed [] refl
stripped_joins zero (b ∷ bs) enough = absurd (omega arith)
stripped_joins (suc fuel) bytes enough = elim (cases_lt (position_or_len (λ b. eqb b line_feed) bytes) (length bytes)) [
  | inl has ↦
      let whole = cut_feed bytes has in
      let shorter : length (rest_of bytes) ≤ fuel = simp length-drop (omega arith) in
      subst (λ (l : List ℕ). AreLines l (stripped l)) (sym whole)
      (join-fed (front_of bytes) (rest_of bytes) (front_fails (λ b. eqb b line_feed) bytes) (stripped_joins fuel (rest_of bytes) shorter))
  | inr none ↦
      let all : front_of bytes ≡ bytes = take_all (position_or_len (λ b. eqb b line_feed) bytes) bytes none in
      join-unfed bytes (subst IsLine all (front_fails (λ b. eqb b line_feed) bytes))
]

pub lines_are_joined : (bytes : List ℕ) → AreLines (without_front byte_order_marks bytes) (lines_in bytes)
lines_are_joined bytes = stripped_joins (length (without_front byte_order_marks bytes)) (without_front byte_order_marks bytes) (omega arith)

pub joined_are_lines : (bytes : List ℕ) (lines : List (List ℕ)) → AreLines (without_front byte_order_marks bytes) lines → lines ≡ lines_in bytes
joined_are_lines bytes lines are = joined_lines (without_front byte_order_marks bytes) lines are

-- A text has a key if it is that text, begins with it or ends in it, under the case.
use Rattle.std.proofs.lemmas.Grind.{common_steps}
use Rattle.std.proofs.Common.{◌≡◌, ℕ, zero, suc, ◌+◌, ◌-◌, ◌<◌, ◌≤◌, false, ◌⊎◌, inl, inr, List, [], ◌∷◌, ◌++◌, length, take, drop}
use Rattle.std.proofs.Common.{◌&&◌, map, reverse, refl, sym, ap, ◌∙◌, arith, nat_eq}
use Rattle.std.specs.Cmp.Lexicographic.{pointwise, bytes_decides}
use Rattle.std.specs.List.{starts_with, ends_with}
use Rattle.std.proofs.lemmas.Bool.Decides.{nat_tests}
use Rattle.std.proofs.lemmas.List.{length-reverse, length-drop, reverse-append, reverse-reverse, take-append-drop, take_all}
use Rattle.attr_keys.specs.declared.key.Subject.{Subject}
use Rattle.attr_keys.specs.declared.key.Subject.TheVariants.{End}
use Rattle.attr_keys.specs.shared.Codes.{byte_code}
use Rattle.attr_keys.specs.shared.LineKeys.{suffix_of, whole_text}
use Rattle.attr_keys.specs.shared.KeyContents.{KeyContent}
use Rattle.attr_keys.specs.shared.Meeting.{content_met, has_content}
use Rattle.attr_wildmatch.specs.declared.case.Case.{Case}
use Rattle.attr_wildmatch.specs.declared.case.Case.TheVariants.{Sensitive, Fold}
use Rattle.attr_glob.specs.Folding.{folded, same_text}
use Rattle.attr_wildmatch.specs.Matching.{same_byte}
use Rattle.attr_glob.specs.shared.LineShapes.{folds}
use Rattle.attr_wildmatch.proofs.ForCallers.{reverse-cons, same_answer}
use Rattle.attr_glob.proofs.MatchingLines.{bytewise, drop-folded, length-folded}

no_end : (a : ℕ) → nat_eq (a + 2) 1 ≡ false
no_end a = grind (arith, nat_tests)

-- a whole key is had by the text that is the same
pub whole_met : (case : Case) (subject : Subject) (text name : List ℕ) → has_content (folds case) name (whole_text subject text)
    ≡ same_text case text name
whole_met case subject (c ∷ cs) (b ∷ bs) = grind (arith, nat_tests, whole_met Sensitive subject cs bs, whole_met Fold subject cs bs)
whole_met case subject [] [] = grind (arith, nat_tests)
whole_met Sensitive subject [] (b ∷ bs) = grind (arith, nat_tests)
whole_met Fold subject [] (b ∷ bs) = grind (arith, nat_tests)
whole_met Sensitive subject (c ∷ cs) [] = ap (λ t. t && pointwise nat_eq (map (byte_code false) cs ++ 1 ∷ [])
    (take (length (map (byte_code false) cs ++ 1 ∷ [])) [])) (no_end c)
whole_met Fold subject (c ∷ cs) [] = grind (arith, nat_tests)

-- a key that isn't whole is had by the text that begins with it
abbrev pub front_text : Subject → List ℕ → KeyContent
front_text subject text = record { subject = subject; text = text; is_whole = false }

pub front_met : (case : Case) (subject : Subject) (front text : List ℕ) →
    has_content (folds case) text (front_text subject front) ≡ starts_with (same_byte case) text front
front_met case subject (c ∷ cs) (b ∷ bs) = grind (arith, nat_tests, front_met Sensitive subject cs bs, front_met Fold subject cs bs)
front_met case subject front text = grind (arith, nat_tests)

map_reverse : (f : ℕ → ℕ) (x : List ℕ) → map f (reverse x) ≡ reverse (map f x)
map_reverse f [] = refl
map_reverse f (b ∷ bs) = grind (arith, common_steps, nat_tests, reverse-cons, map_reverse f bs)

folded-reverse : (case : Case) (x : List ℕ) → folded case (reverse x) ≡ reverse (folded case x)
folded-reverse case x = grind (arith, nat_tests, map_reverse)

same_reversed : (x y : List ℕ) → pointwise nat_eq (reverse x) (reverse y) ≡ pointwise nat_eq x y
same_reversed x y =
    same_answer (pointwise nat_eq (reverse x) (reverse y)) (pointwise nat_eq x y)
    (λ t. (bytes_decides x y).1 (sym (reverse-reverse x) ∙ (ap reverse ((bytes_decides (reverse x) (reverse y)).0 t) ∙ reverse-reverse y)))
    (λ t. (bytes_decides (reverse x) (reverse y)).1 (ap reverse ((bytes_decides x y).0 t)))

take_exact : (xs ys : List ℕ) (n : ℕ) → length xs ≡ n → take n (xs ++ ys) ≡ xs
take_exact (x ∷ xs) ys (suc n) e = ap (λ l. x ∷ l) (take_exact xs ys n (omega arith))
take_exact xs ys n e = grind (arith, nat_tests)

-- the first bytes of a text turned round are its last ones
turned_front : (n : ℕ) (text : List ℕ) → take n (reverse text) ≡ reverse (drop (length text - n) text)
turned_front n text = elim (sides n (length text)) [ inl le ↦ inside le | inr lt ↦ outside lt ]
  where
    inside : n ≤ length text → take n (reverse text) ≡ reverse (drop (length text - n) text)
    inside le =
        let m = length text - n in
        let back = reverse (drop m text) in
        let len : length back ≡ n = let a = length-reverse (drop m text) in let b = length-drop m text in omega arith in
        ap (take n) (ap reverse (sym (take-append-drop m text)) ∙ reverse-append (take m text) (drop m text))
        ∙ take_exact back (reverse (take m text)) n len

    outside : length text < n → take n (reverse text) ≡ reverse (drop (length text - n) text)
    outside lt = grind (arith, nat_tests, length-reverse, take_all)

    sides : (a b : ℕ) → (a ≤ b) ⊎ (b < a)
    sides zero b = inl (omega arith)
    sides (suc a) zero = inr (omega arith)
    sides (suc a) (suc b) = elim (sides a b) [ inl l ↦ inl (omega arith) | inr l ↦ inr (omega arith) ]

-- a suffix, from its last byte on
suffix_met : (case : Case) (base end : List ℕ) →
    has_content (folds case) (reverse base) (front_text End (reverse end)) ≡ ends_with nat_eq (folded case base) (folded case end)
suffix_met case base end =
    let n = length end in
    let m = length base - n in
    let lr : length (reverse end) ≡ n = length-reverse end in
    front_met case End (reverse end) (reverse base)
    ∙ (ap (λ k. pointwise (same_byte case) (reverse end) (take k (reverse base))) lr
    ∙ (ap (pointwise (same_byte case) (reverse end)) (turned_front n base)
    ∙ (bytewise case (reverse end) (reverse (drop m base))
    ∙ (ap (λ l. pointwise nat_eq l (folded case (reverse (drop m base)))) (folded-reverse case end)
    ∙ (ap (pointwise nat_eq (reverse (folded case end))) (folded-reverse case (drop m base))
    ∙ (same_reversed (folded case end) (folded case (drop m base))
    ∙ (ap (pointwise nat_eq (folded case end)) (sym (drop-folded case m base))
    ∙ ap (λ k. pointwise nat_eq (folded case end) (drop k (folded case base))) lens)))))))
  where
    lens : length base - length end ≡ length (folded case base) - length (folded case end)
    lens = let a = length-folded case base in let b = length-folded case end in omega arith

pub end_met : (case : Case) (base path end : List ℕ) →
    content_met (folds case) base path (suffix_of end) ≡ ends_with nat_eq (folded case base) (folded case end)
end_met case base path end = grind (arith, nat_tests, suffix_met case base)

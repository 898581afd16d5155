-- Base names and ends that are their extensions.
use Rattle.std.proofs.Common.{◌≡◌, ℕ, zero, suc, ◌<◌, ◌≤◌, ◌-◌, Bool, true, false, not, ◌&&◌, List, [], ◌∷◌, ◌++◌, length, take, drop, get_or}
use Rattle.std.proofs.Common.{reverse, Some, None, refl, sym, ap, ◌∙◌, arith, eqb, nat_eq, option_map}
use Rattle.std.specs.List.{list_any, starts_with}
use Rattle.std.proofs.Math.Seq.{drop-cons}
use Rattle.std.proofs.lemmas.Grind.{common_steps}
use Rattle.std.proofs.lemmas.Bool.{eqb-true}
use Rattle.std.proofs.lemmas.Bool.Decides.{nat_tests}
use Rattle.std.proofs.lemmas.List.{length-drop, length_push, reverse-append, reverse-reverse, take_all}
use Rattle.std.proofs.lemmas.List.Folds.{list_any-append}
use Rattle.attr_keys.specs.inner.Cases.{in_case}
use Rattle.attr_keys.specs.inner.Extensions.{dot_byte, extension, is_reversed_extension, or_from_dot}
use Rattle.attr_keys.proofs.RowLemmas.{and_none, by_test}

-- what follows has the extension of the whole
extension_of_rest : (name rest : List ℕ) (offset : ℕ) → extension (drop offset name) ≡ Some rest → extension name ≡ Some rest
extension_of_rest name rest zero e = e
extension_of_rest [] rest (suc n) e = e
extension_of_rest (b ∷ bs) rest (suc n) e = ap (λ o. or_from_dot o b bs) (extension_of_rest bs rest n e)

-- a dot after which there is none
extension_from_dot : (name : List ℕ) (offset : ℕ) → offset < length name → eqb (get_or name offset 0) dot_byte ≡ true →
    extension (drop (suc offset) name) ≡ None → extension name ≡ Some (drop offset name)
extension_from_dot name offset lt is none = grind (arith, nat_tests, extension_of_rest name (drop offset name) offset, drop-cons name offset 0 lt)

-- one byte more, at the end
extension_snoc : (b : ℕ) → eqb b dot_byte ≡ false → (name : List ℕ) → extension (name ++ b ∷ []) ≡ option_map (λ e. e ++ b ∷ []) (extension name)
extension_snoc b other [] = rw other refl
extension_snoc b other (c ∷ cs) = grind (arith, nat_tests, extension_snoc b other cs)

extension_snoc_dot : (b : ℕ) → eqb b dot_byte ≡ true → (name : List ℕ) → extension (name ++ b ∷ []) ≡ Some (b ∷ [])
extension_snoc_dot b is [] = rw is refl
extension_snoc_dot b is (c ∷ cs) = ap (λ o. or_from_dot o c (cs ++ b ∷ [])) (extension_snoc_dot b is cs)

reversed_snoc : (b : ℕ) (bs : List ℕ) → reverse (b ∷ bs) ≡ reverse bs ++ b ∷ []
reversed_snoc b bs = reverse-append (b ∷ []) bs

-- a text that, from its last byte on, begins with an extension has it
reversed_extension : (key text : List ℕ) → is_reversed_extension key ≡ true → starts_with nat_eq text key ≡ true →
    extension (reverse text) ≡ Some (reverse key)
reversed_extension (k ∷ ks) (b ∷ bs) is has =
    grind (arith, common_steps, eqb-true, reversed_snoc, extension_snoc_dot, extension_snoc, nat_tests, reversed_extension ks bs)
reversed_extension key text is has = grind (arith, nat_tests)

-- the text that a text from its last byte on begins with, if this is an extension
pub extension_of_begun : (text key : List ℕ) → is_reversed_extension key ≡ true → starts_with nat_eq (reverse text) key ≡ true →
    extension text ≡ Some (reverse key)
extension_of_begun text key is begins = ap extension (sym (reverse-reverse text)) ∙ reversed_extension key (reverse text) is begins

abbrev pub any_dot : List ℕ → Bool
any_dot text = list_any (λ b. eqb b dot_byte) text

snoc_extension : (b : ℕ) (xs : List ℕ) → eqb b dot_byte && not (any_dot xs) ≡ is_reversed_extension (xs ++ b ∷ [])
snoc_extension b [] = by_test (eqb b dot_byte) (λ t. rw t refl) (λ f. rw f refl)
snoc_extension b (c ∷ cs) = grind (arith, nat_tests, and_none, length_push, snoc_extension b cs)

any_reversed : (xs : List ℕ) → any_dot (reverse xs) ≡ any_dot xs
any_reversed [] = refl
any_reversed (x ∷ xs) = grind (arith, nat_tests, reversed_snoc, list_any-append, any_reversed xs)

-- an end that is an extension begins with a dot, and has no other
pub extension_cons : (b : ℕ) (rest : List ℕ) → eqb b dot_byte && not (any_dot rest) ≡ is_reversed_extension (reverse (b ∷ rest))
extension_cons b rest = grind (arith, nat_tests, any_reversed, snoc_extension, reversed_snoc)

rest_is : (name : List ℕ) (offset : ℕ) → offset ≤ length name → take (length name - offset) (drop offset name) ≡ drop offset name
rest_is name offset within = take_all (length name - offset) (drop offset name) (omega (arith, length-drop offset name))

-- the dot before an offset from which on there is none
pub extension_from_dot_at : (name : List ℕ) (offset : ℕ) → 0 < offset → offset ≤ length name → get_or name (offset - 1) 0 ≡ dot_byte →
    extension (drop offset name) ≡ None → extension name ≡ Some (take (length name - (offset - 1)) (drop (offset - 1) name))
extension_from_dot_at name offset some le is none =
    let m : offset ≡ suc (offset - 1) = omega arith in
    grind (arith, nat_tests, extension_from_dot, rest_is)
  where
    equal : (b : ℕ) → b ≡ dot_byte → eqb b dot_byte ≡ true
    equal b e = grind (arith, nat_tests)

-- an extension that does not begin at an offset, or after it, is longer than what follows the offset
extension_before : (name text : List ℕ) (offset : ℕ) → offset ≤ length name → extension (drop offset name) ≡ None →
    extension name ≡ Some text → length name - offset < length text
extension_before (b ∷ bs) text (suc n) le none is = grind (arith, nat_tests, extension_before bs text n)
extension_before name text offset le none is = grind (arith, nat_tests)

-- an extension that none of the last bytes begins is longer than these
pub longer_extension : (name text : List ℕ) (offset longest : ℕ) → offset ≤ length name → offset ≤ length name - longest →
    extension (drop offset name) ≡ None → extension name ≡ Some text → longest < length text
longer_extension name text offset longest le first none is = grind (arith, nat_tests, extension_before name text)

-- the extension of a text in lower case
pub extension_in_case : (fold : Bool) (text : List ℕ) → extension (in_case fold text) ≡ option_map (in_case fold) (extension text)
extension_in_case true (b ∷ bs) = grind (arith, nat_tests, extension_in_case true bs)
extension_in_case fold text = grind (arith, nat_tests)

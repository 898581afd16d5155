-- A printed assignment is one word, which reads as the same assignment.
use Rattle.std.proofs.lemmas.Grind.{common_steps}
use Rattle.std.proofs.Common.{◌≡◌, ℕ, ◌<◌, true, false, not, List, [], ◌∷◌, length, Ok, IsTrue, refl, sym, ap, ◌∙◌, arith, length-append}
use Rattle.std.specs.List.{list_all}
use Rattle.std.proofs.lemmas.List.{append-nil}
use Rattle.std.proofs.lemmas.List.Folds.{list_all-append}
use Rattle.std.proofs.lemmas.Str.{utf8_lossy-IsUtf8}
use Rattle.bstr.proofs.lemmas.LossyLemmas.{lossy_chars-utf8_lossy}
use Rattle.attr_text.specs.Names.{is_name_byte, is_valid_name, is_reserved_name}
use Rattle.attr_text.specs.Items.{is_blank, words, items_of, printed_state, printed}
use Rattle.attr_text.specs.Words.{IsPlain}
use Rattle.attr_text.specs.ItemForms.{HasForm, HasNoEquals, HasNoMark, accepted, after_exclamation_mark, after_minus, name_alone, name_and_value}
use Rattle.attr_text.specs.declared.state.State.{State}
use Rattle.attr_text.specs.declared.assignment.Assignment.{Assignment}
use Rattle.attr_text.proofs.ItemLaws.{item_only}
use Rattle.attr_text.proofs.WordLaws.{words-run}

-- the bytes of a name are neither blanks nor `=`
name_bytes : (name : List ℕ) → list_all is_name_byte name ≡ true → (list_all (λ b. not (is_blank b)) name ≡ true) × HasNoEquals name
name_bytes [] all = (refl, refl)
name_bytes (b ∷ bs) all = grind (arith, name_bytes bs)

name_parts : (name : List ℕ) → is_valid_name name ≡ true → (0 < length name) × HasNoMark name × (list_all is_name_byte name ≡ true)
name_parts name valid = grind (arith, common_steps)

one_word : (text : List ℕ) → list_all (λ b. not (is_blank b)) text ≡ true → 0 < length text → words text ≡ text ∷ []
one_word text none some = ap words (sym (append-nil text)) ∙ words-run text [] none some tt

pub printed_is_word : (a : Assignment) → IsTrue (is_valid_name a.name) → IsPlain a.state → words (printed a) ≡ printed a ∷ []
printed_is_word a valid plain =
    grind (arith, one_word, name_bytes, name_parts, lossy_chars-utf8_lossy, utf8_lossy-IsUtf8, list_all-append, length-append)

-- a printed state has the form of its name and itself
printed-form : (name : List ℕ) (state : State) → HasNoMark name → HasNoEquals name → IsPlain state → HasForm (printed_state name state) name state
printed-form name state mark none plain =
    let minus = after_minus name [] none tt in
    let bang = after_exclamation_mark name [] none tt in
    grind (arith, append-nil name, name_alone, minus, bang, name_and_value, lossy_chars-utf8_lossy, utf8_lossy-IsUtf8)

pub printed_reads : (a : Assignment) → IsTrue (is_valid_name a.name) → is_reserved_name a.name ≡ false → IsPlain a.state → items_of (printed a) ≡ Ok a
    ∷ []
printed_reads a valid free plain =
    let parts = name_parts a.name valid in
    let form = printed-form a.name a.state parts.1 (name_bytes a.name parts.2).1 plain in
    rw (printed_is_word a valid plain) (ap (λ item. item ∷ []) (sym (item_only (printed a) _ (accepted a.name a.state form valid free))))

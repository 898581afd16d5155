-- Each word has a form, and its item follows from the form.
use Rattle.std.proofs.lemmas.Grind.{common_steps}
use Rattle.std.proofs.Common.{◌≡◌, ◌≢◌, ℕ, Bool, true, false, List, [], ◌∷◌, ◌++◌, drop, map, Result, refl, arith, subst, inl, inr}
use Rattle.std.specs.List.{before_first, AllZip, position_or_len}
use Rattle.std.proofs.Math.Seq.{drop-append-add}
use Rattle.std.proofs.lemmas.List.{append-nil, take-append-drop}
use Rattle.std.proofs.lemmas.Bool.{cases_Bool, cases_eq, eqb-true}
use Rattle.std.proofs.lemmas.Bool.Decides.{nat_tests}
use Rattle.attr_wildmatch.specs.Bytes.{exclamation_mark, hyphen}
use Rattle.attr_text.specs.Names.{is_valid_name, is_reserved_name}
use Rattle.attr_text.specs.Items.{is_equals, Refusal, checked_name, with_state, item_of, items_of}
use Rattle.attr_text.specs.ItemForms.{HasNoEquals, HasNoMark, IsValuePart, HasForm, name_alone, name_and_value, after_minus}
use Rattle.attr_text.specs.ItemForms.{after_exclamation_mark, IsItem, accepted, bad_name, reserved_name}
use Rattle.attr_text.specs.Words.{AreWords}
use Rattle.attr_text.specs.declared.state.State.{State}
use Rattle.attr_text.specs.declared.state.State.TheVariants.{Set, Unset, Value, Unspecified}
use Rattle.attr_text.specs.declared.assignment.Assignment.{Assignment}
use Rattle.attr_text.proofs.ItemLemmas.{before-equals, before-whole, no_offset, offset-equals}
use Rattle.attr_text.proofs.WordLemmas.{drop-one_more}
use Rattle.attr_text.proofs.WordLaws.{front_fails, runs_are_words}

before-part : (name rest : List ℕ) → HasNoEquals name → IsValuePart rest → before_first is_equals (name ++ rest) ≡ name
before-part name rest none part = grind (arith, append-nil name, before-whole name, before-equals name)

form-reads : (word name : List ℕ) (state : State) → HasForm word name state → item_of word ≡ with_state (checked_name name) state
form-reads _ _ _ (name_alone name mark none) = grind (arith, nat_tests, before-whole name none, no_offset name none)
form-reads _ _ _ (name_and_value name value mark none) = grind (arith, nat_tests, before-equals, offset-equals, drop-append-add)
form-reads _ _ _ (after_minus name rest none part) = grind (arith, before-part (hyphen ∷ name) rest none part)
form-reads _ _ _ (after_exclamation_mark name rest none part) = grind (arith, before-part (exclamation_mark ∷ name) rest none part)

-- an item that the relation gives is the computed one
pub item_only : (word : List ℕ) (item : Result Assignment Refusal) → IsItem word item → item ≡ item_of word
item_only word _ (accepted name state form valid free) = grind (arith, form-reads word name state form)
item_only word _ (bad_name name state form invalid) = grind (arith, form-reads word name state form)
item_only word _ (reserved_name name state form valid taken) = grind (arith, form-reads word name state form)

-- so the computed item is one that the relation gives, if it gives any
held : (word : List ℕ) (item : Result Assignment Refusal) → IsItem word item → IsItem word (item_of word)
held word item is = subst (IsItem word) (item_only word item is) is

item_by : (word name : List ℕ) (state : State) → HasForm word name state → (valid taken : Bool) → is_valid_name name ≡ valid →
    is_reserved_name name ≡ taken → IsItem word (item_of word)
item_by word name state form true false v r = held word _ (accepted name state form v r)
item_by word name state form true true v r = held word _ (reserved_name name state form v r)
item_by word name state form false taken v r = held word _ (bad_name name state form v)

-- the first `=` of a text and the bytes after it
abbrev from_equals : List ℕ → List ℕ
from_equals text = drop (position_or_len is_equals text) text

value_part : (text : List ℕ) → IsValuePart (from_equals text)
value_part [] = tt
value_part (b ∷ bs) = grind (arith, cases_Bool, eqb-true, drop-one_more, value_part bs)

-- a text is the part before its first `=`, and the rest
cut : (text : List ℕ) → before_first is_equals text ++ from_equals text ≡ text
cut text = take-append-drop (position_or_len is_equals text) text

-- a word has one of the forms
Formed : List ℕ → Type 0
Formed word = (name : List ℕ) × (state : State) × HasForm word name state

unmarked : (b : ℕ) (bs name rest : List ℕ) → b ≢ hyphen → b ≢ exclamation_mark → name ++ rest ≡ b ∷ bs → HasNoMark name
unmarked b bs name rest no_minus no_bang whole = grind (arith, common_steps)

named-formed : (word name rest : List ℕ) → HasNoMark name → name ++ rest ≡ word → HasNoEquals name → IsValuePart rest → Formed word
unfolding Formed
named-formed word name [] mark whole none part = (name, Set, grind (arith, append-nil name, name_alone name))
named-formed word name (c ∷ value) mark whole none part = (name, Value value, grind (arith, name_and_value name value))

formed : (word : List ℕ) → Formed word
unfolding Formed
formed [] = ([], Set, name_alone [] ((λ e. omega arith), (λ e. omega arith)) refl)
formed (b ∷ bs) =
    let text = b ∷ bs in
    let name = before_first is_equals bs in
    elim (cases_eq b hyphen) [
      | inl e ↦ (name, Unset, grind (arith, cut bs, after_minus name, front_fails is_equals bs, value_part bs))
      | inr no_minus ↦ elim (cases_eq b exclamation_mark) [
        | inl e ↦ (name, Unspecified, grind (arith, cut bs, after_exclamation_mark name, front_fails is_equals bs, value_part bs))
        | inr no_bang ↦
            let mark = unmarked b bs (before_first is_equals text) (from_equals text) no_minus no_bang (cut text) in
            named-formed text (before_first is_equals text) (from_equals text) mark (cut text) (front_fails is_equals text) (value_part text)
      ]
    ]

item_of_formed : (word : List ℕ) → Formed word → IsItem word (item_of word)
unfolding Formed
item_of_formed word (name, state, form) = item_by word name state form (is_valid_name name) (is_reserved_name name) refl refl

-- the computed item is one that the relation gives
pub item_holds : (word : List ℕ) → IsItem word (item_of word)
item_holds word = item_of_formed word (formed word)

items-each : (ws : List (List ℕ)) → AllZip IsItem ws (map item_of ws)
items-each [] = tt
items-each (w ∷ ws) = (item_holds w, items-each ws)

-- the items of a text are those of its longest runs
pub items_hold : (text : List ℕ) (runs : List (List ℕ)) → AreWords text runs → AllZip IsItem runs (items_of text)
items_hold text runs are = subst (λ ws. AllZip IsItem runs (map item_of ws)) (runs_are_words text runs are) (items-each runs)

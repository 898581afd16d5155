-- Slots that are open: needed, and without an answer.
use Rattle.std.proofs.Common.{◌≡◌, ℕ, suc, ◌<◌, Bool, true, false, ◌&&◌, List, ◌∷◌, length, get_or, set, map, take, replicate}
use Rattle.std.proofs.Common.{nat_eq, ◌++◌, ◌-◌, Option, Some, None, is_some, is_none, sym, ap, ◌∙◌, arith}
use Rattle.std.specs.Prelude.{if◌then◌else◌}
use Rattle.std.proofs.lemmas.Bool.{cases_eq}
use Rattle.std.proofs.Math.Bool.{and-false, and-true}
use Rattle.std.proofs.lemmas.List.{ext_get_or, get_or_append_left, get_or-set_other, get_or-set_same}
use Rattle.std.proofs.lemmas.List.{get_or-take, length-set, length-take}
use Rattle.attr_table.specs.Cut.{is_done}
use Rattle.attr_table.specs.Skipped.{narrowed, skipped_answer}
use Rattle.attr_table.specs.Table.{Slots}
use Rattle.attr_search.specs.Slots.{is_needed, slots_of}
use Rattle.attr_search.specs.inner.AnswerRefs.{matches_by_ref}
use Rattle.attr_search.specs.inner.PartsContents.{PartsContent}
use Rattle.attr_search.specs.inner.SlotsView.{AreOpen}
use Rattle.attr_search.specs.shared.SlotContents.{AreFlagsAmong, count_remaining, wanted_numbers}
use Rattle.attr_search.specs.declared.answer_parts.MatchRef.{MatchRef}
use Rattle.attr_search.proofs.SlotLemmas.{left_done, none_at, seen_filled}

-- a number whose flag is set is needed
pub flag_needed : (flags : List Bool) (a : ℕ) → get_or flags a false ≡ true → is_needed flags a ≡ true
flag_needed (b ∷ flags) (suc a) e = flag_needed flags a e
flag_needed flags a e = grind arith

-- a slot that is not filled where others are skipped is needed, and is not filled
pub open_needed : (needed : ℕ → Bool) (slots : Slots) (a : ℕ) → is_some (narrowed needed slots a) ≡ false → needed a ≡ true
open_needed needed slots a free = grind arith

pub narrowed_needed : (needed : ℕ → Bool) (slots : Slots) (a : ℕ) → needed a ≡ true → narrowed needed slots a ≡ slots a
narrowed_needed needed slots a own = ap (λ b. if b then slots a else Some skipped_answer) own

pub open_free : (needed : ℕ → Bool) (slots : Slots) (a : ℕ) → is_some (narrowed needed slots a) ≡ false → is_some (slots a) ≡ false
open_free needed slots a free = grind (arith, narrowed_needed, open_needed)

pub open_filled : {X : Type 0} (needed : List Bool) (slots : List (Option X)) (is_open : List Bool) (i : ℕ) (x : X) → i < length slots →
    AreOpen needed slots is_open → AreOpen needed (set slots i (Some x)) (set is_open i false)
open_filled needed slots is_open i x lt sound = grind (arith, length-set, get_or-set_same, get_or-set_other, cases_eq, and-false)

pub open_emptied : {X : Type 0} (needed : List Bool) (slots : List (Option X)) (is_open : List Bool) (i : ℕ) → i < length slots →
    get_or needed i false ≡ true → AreOpen needed slots is_open → AreOpen needed (set slots i None) (set is_open i true)
open_emptied needed slots is_open i lt own sound = grind (arith, length-set, get_or-set_same, get_or-set_other, cases_eq)

-- if no slot is filled, those that are needed are open
pub all_open : {X : Type 0} (needed : List Bool) (slots : List (Option X)) (is_open : List Bool) → length needed ≡ length slots →
    ((a : ℕ) → get_or slots a None ≡ None) → AreOpen needed slots is_open → is_open ≡ needed
all_open needed slots is_open same none sound = grind (arith, ext_get_or false is_open needed (sound.0 ∙ sym same), and-true)

pub open_all : {X Y : Type 0} (needed is_open : List Bool) (slots : List (Option X)) (ys : List Y) → is_open ≡ needed →
    length needed ≡ length slots → slots ≡ map (λ y. None) ys → AreOpen needed slots is_open
open_all {X} needed is_open slots ys is same none = grind (arith, none_at, and-true)

-- nothing is left where each wanted slot is filled, since what is wanted is needed
pub is_done_left : (flags needed : List Bool) (store : PartsContent) (slots : List (Option MatchRef)) (left : ℕ) →
    length flags ≡ length slots → AreFlagsAmong flags needed → left ≡ count_remaining flags slots →
    nat_eq left 0 ≡ is_done (wanted_numbers flags) (narrowed (is_needed needed) (slots_of (matches_by_ref store slots)))
is_done_left flags needed store slots left same among counted =
    ap (λ n. nat_eq n 0) counted
    ∙ left_done flags slots (narrowed (is_needed needed) (slots_of (matches_by_ref store slots))) same
    (λ a w. ap is_some (narrowed_needed (is_needed needed) (slots_of (matches_by_ref store slots)) a (flag_needed needed a (among a w)))
    ∙ seen_filled store slots a)

-- the flags of the first slots, one by one
pub record AreOpenUpTo {X : Type 0} (needed : List Bool) (slots : List (Option X)) (is_open : List Bool) (number : ℕ) : Type 0 where
  pub count : length is_open ≡ number
  pub at : (a : ℕ) → a < number → get_or is_open a false ≡ (get_or needed a false && is_none (get_or slots a None))

-- flags of as many numbers as a count: the first of those that there were, and more that are not set
pub flag_resized : (flags resized : List Bool) (n count number : ℕ) → n ≡ length flags → resized ≡ take count flags ++ replicate (count - n) false →
    number < count → number < length flags → get_or resized number false ≡ get_or flags number false
flag_resized flags resized n count number same is lt within = grind (arith, get_or-take, length-take, get_or_append_left)

-- any flags are among as many that are all set
pub all_among : (flags : List Bool) (n : ℕ) → length flags ≡ n → AreFlagsAmong flags (replicate n true)
all_among (b ∷ flags) (suc n) same (suc number) e = all_among flags n (omega arith) number e
all_among flags n same number e = grind arith

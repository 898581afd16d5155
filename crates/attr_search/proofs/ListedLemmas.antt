-- The first filled slot from a number on, by numbers in their order.
use Rattle.attr_search.proofs.SlotLemmas.{is_some_map}
use Rattle.std.proofs.Common.{◌≡◌, ℕ, ◌<◌, ◌≤◌, true, List, length, get_or, Option, None, sym, ◌∙◌, arith, ⊎_elim}
use Rattle.std.proofs.Common.{MatchOption, subst, nat_eq, is_some, [], map, option_map}
use Rattle.std.specs.Prelude.{slice_get}
use Rattle.std.proofs.Math.ListN
use Rattle.std.specs.Cmp.{nat_eq_equiv}
use Rattle.std.specs.List.Sorted.{IsStrictlyIncreasing, IsPermutation}
use Rattle.std.proofs.lemmas.List.Elements.{All-get_or}
use Rattle.std.proofs.lemmas.List.Sorted.{All-permutation, list_any-IsPermutation}
use Rattle.std.proofs.lemmas.Map.Keys.{IsDistinct-IsPermutation, non_decreasing_from_sorted, sorted_from_strictly_increasing}
use Rattle.std.proofs.lemmas.List.{get_or_default}
use Rattle.std.proofs.lemmas.Bool.{cases_lt}
use Rattle.std.proofs.lemmas.List.Folds.{list_any_none}
use Rattle.std.proofs.lemmas.Option.{slice_get_cases}
use Rattle.attr_search.specs.Slots.{AreFreeFrom, IsNextFilled}
use Rattle.attr_search.specs.shared.SlotContents.{AreListed}

-- a slot is free if its number is below those that are listed from an index on, and not below those before
free_between : {X : Type 0} (slots : List (Option X)) (numbers : List ℕ) (from start n : ℕ) → AreListed slots numbers →
    ((j d : ℕ) → j < start → j < length numbers → get_or numbers j d < from) →
    ((j d : ℕ) → start ≤ j → j < length numbers → n < get_or numbers j d) → from ≤ n → get_or slots n None ≡ None
free_between slots numbers from start n listed below above le = grind (arith, list_any_none, cases_lt)

-- the first number that is not below another one
pub first_listed : {X : Type 0} (slots : List (Option X)) (numbers : List ℕ) (from start : ℕ) → AreListed slots numbers →
    IsStrictlyIncreasing numbers → ((j d : ℕ) → j < start → j < length numbers → get_or numbers j d < from) →
    ((j d : ℕ) → start ≤ j → j < length numbers → from ≤ get_or numbers j d) →
    MatchOption (slice_get numbers start) (AreFreeFrom slots from) (IsNextFilled slots from)
first_listed slots numbers from start listed rising below above = ⊎_elim
    (λ here. subst (λ o. MatchOption o (AreFreeFrom slots from) (IsNextFilled slots from)) (sym here.2) (record {
      reached = omega (arith, here.3, above start here.0 (omega arith) here.1);
      filled = subst (λ n. is_some (get_or slots n None) ≡ true) here.3
          (All-get_or (λ n. is_some (get_or slots n None) ≡ true) numbers start here.0 here.1 listed.filled);
      free = λ n le lt. free_between slots numbers from start n listed below
          (λ j d ge within. omega (
            arith,
            lt,
            here.3,
            get_or_default numbers start here.0 d here.1,
            non_decreasing_from_sorted numbers (sorted_from_strictly_increasing numbers rising) start j d ge within,
          )) le;
    }))
    (λ past. subst (λ o. MatchOption o (AreFreeFrom slots from) (IsNextFilled slots from)) (sym past.1)
    (λ n le. free_between slots numbers from start n listed below (λ j d ge lt. absurd (omega (arith, past.0, ge, lt))) le))
    (slice_get_cases numbers start).1

pub seen_match : {X Y : Type 0} (f : X → Y) (slots slots' : List (Option X)) (from : ℕ) (found : Option ℕ) → slots' ≡ slots →
    MatchOption found (AreFreeFrom slots' from) (IsNextFilled slots' from) →
    MatchOption found (AreFreeFrom (map (λ o. option_map f o) slots) from) (IsNextFilled (map (λ o. option_map f o) slots) from)
seen_match f slots slots' from found same free = grind (arith, ListN.get_or-map (λ o. option_map f o) slots, is_some_map)

pub rising_nothing : (numbers : List ℕ) → numbers ≡ [] → IsStrictlyIncreasing numbers
rising_nothing numbers none = grind arith

-- numbers that are put in order list the same slots
pub listed_permuted : {X : Type 0} (slots : List (Option X)) (numbers sorted : List ℕ) → IsPermutation numbers sorted → AreListed slots numbers →
    AreListed slots sorted
listed_permuted slots numbers sorted same listed = record {
  filled = All-permutation (λ n. is_some (get_or slots n None) ≡ true) numbers sorted same listed.filled;
  distinct = IsDistinct-IsPermutation nat_eq nat_eq_equiv.symm numbers sorted same listed.distinct;
  others = λ a none. listed.others a (list_any-IsPermutation (nat_eq a) numbers sorted same ∙ none);
}

-- How many flags are set.
use Rattle.std.proofs.Common.{◌≡◌, ℕ, suc, ◌+◌, ◌<◌, ◌≤◌, Bool, true, false, not, cond, List, [], ◌∷◌, length, get_or, set, map, replicate}
use Rattle.std.proofs.Common.{None, sym, ◌∙◌, arith, ◌⊎◌, ◌≢◌}
use mathlib.Core.Bool.{beq}
use mir.Val.{bool_byte}
use Rattle.std.proofs.Math.Bool.{or-false, or-true}
use Rattle.std.proofs.lemmas.List.{length-set, get_or-replicate, get_or-set_other, get_or-set_same, length-replicate}
use Rattle.std.proofs.lemmas.List.Sums.{sum_by-cons, sum_by-set}
use Rattle.std.specs.Prelude.{if◌then◌else◌}
use Rattle.std.specs.BTreeMap.{is_at}
use Rattle.std.specs.BTreeSet.{contains}
use Rattle.std.specs.List.{list_any}
use Rattle.std.specs.Ordering.{nat_cmp}
use Rattle.std.proofs.lemmas.Bool.{cases_eq, cases_lt}
use Rattle.std.proofs.lemmas.List.FromFn.{fill_by_all, get_or-map-range_with_len, length-map-range_with_len}
use Rattle.attr_search.specs.shared.SlotContents.{count_wanted, count_remaining}
use Rattle.attr_search.specs.inner.WantedView.{is_flag_set, wanted_flags_view}
use Rattle.attr_search.specs.declared.wanted.WantedFlags.TheInside.{Inside}

abbrev one : Bool → ℕ
one w = cond w 1 0

one_small : (w : Bool) → cond w 1 0 ≤ 1
one_small w = grind arith

pub count_small : (flags : List Bool) → count_wanted flags ≤ length flags
count_small [] = omega arith
count_small (w ∷ flags) =
    let cons = sum_by-cons (λ w. cond w 1 0) w flags in grind (arith, one_small, count_small flags)

-- all flags are set, or none
pub count_replicate : (n : ℕ) (w : Bool) → count_wanted (replicate n w) ≡ cond w n 0
count_replicate (suc n) true =
    let cons = sum_by-cons (λ w. cond w 1 0) true (replicate n true) in grind (arith, count_replicate n true)
count_replicate (suc n) false = grind (arith, sum_by-cons, count_replicate n false)
count_replicate n w = grind arith

-- one more is set, if it wasn't before
pub count_set : (flags : List Bool) (number count more : ℕ) (w : Bool) → number < length flags → count ≡ count_wanted flags →
    w ≡ get_or flags number w → more ≡ bool_byte (not w) → (count + more ≤ length flags) × (count + more ≡ count_wanted (set flags number true))
count_set flags number count more w lt counted read told =
    grind (arith, count_small (set flags number true), length-set flags number true, sum_by-set)

-- another number is not at this one's index
pub at_other : (n k : ℕ) → k ≢ n → is_at (nat_cmp n) k ≡ false
at_other n k apart = grind (arith, cases_lt)

-- the flag of a number
pub flag_at : (w : Inside) (k : ℕ) → k < w.len → get_or (wanted_flags_view w) k false ≡ is_flag_set w k
flag_at w k lt = get_or-map-range_with_len (is_flag_set w) 0 w.len k k false lt (omega arith)

pub length_flags : (w : Inside) → length (wanted_flags_view w) ≡ w.len
length_flags w = length-map-range_with_len (is_flag_set w) 0 w.len

-- at first they are all the same
pub flags_same : (w : Inside) → w.numbers.keys ≡ [] → wanted_flags_view w ≡ replicate w.len w.all
flags_same w none =
    sym (fill_by_all (is_flag_set w) (replicate w.len w.all) w.len false (length-replicate w.len w.all)
    (λ k lt. grind (arith, get_or-replicate, or-false)))

-- one more flag is set
pub flags_more : (w v : Inside) (number : ℕ) → number < w.len → v.len ≡ w.len → v.all ≡ w.all → contains nat_cmp v.numbers number ≡ true →
    ((k : ℕ) → is_at (nat_cmp number) k ≡ false → contains nat_cmp v.numbers k ≡ contains nat_cmp w.numbers k) →
    wanted_flags_view v ≡ set (wanted_flags_view w) number true
flags_more w v number lt len all here others =
    let flags = wanted_flags_view w in
    sym (fill_by_all (is_flag_set v) (set flags number true) v.len false (length-set flags number true ∙ length_flags w ∙ sym len)
    (λ k below. grind (arith, get_or-set_same, length_flags, or-true, get_or-set_other, flag_at, at_other, cases_eq)))

-- where all slots are free, each wanted one is left
pub count_empty : {Y : Type 0} (X : Type 0) (flags : List Bool) (xs : List Y) → length flags ≡ length xs →
    count_remaining {X = X} flags (map (λ x. None) xs) ≡ count_wanted flags
count_empty X (true ∷ flags) (x ∷ xs) e =
    let cons = sum_by-cons (λ w. cond w 1 0) true flags in
    let rest = count_empty X flags xs (omega arith) in
    omega arith
count_empty X (false ∷ flags) (x ∷ xs) e = grind (arith, sum_by-cons, count_empty X flags xs)
count_empty X flags xs e = grind arith

-- a flag after flags of some numbers were set, by its number: of these it has the value, and else what it had
abbrev pub after_set : List ℕ → Bool → ℕ → Bool → Bool
after_set seen value number before = if list_any (is_at (nat_cmp number)) seen then value else before

-- flags that are all set, or cleared, and then set at some numbers are those of these numbers
pub written_flags : (w : Inside) (flags : List Bool) → length flags ≡ w.len →
    ((a : ℕ) → a < length flags → get_or flags a false ≡ after_set w.numbers.keys true a w.all) → flags ≡ wanted_flags_view w
written_flags w flags same at = fill_by_all (is_flag_set w) flags w.len false same (λ k lt. grind (arith, or-true, or-false))

-- a flag is that of all, or where these are the same it is as it was
abbrev pub IsBase : Inside → Inside → ℕ → Bool → Type 0
IsBase w v a flag = (flag ≡ w.all) ⊎ ((w.all ≡ v.all) × (flag ≡ is_flag_set v a))

pub base_set : (w v : Inside) (a : ℕ) (flag : Bool) → w.all ≡ true → IsBase w v a flag → flag ≡ w.all
base_set w v a flag all base = grind arith

pub base_cleared : (w v : Inside) (a : ℕ) (flag : Bool) → w.all ≡ false → IsBase w v a flag → after_set v.numbers.keys false a flag ≡ w.all
base_cleared w v a flag none base = grind arith

pub beq_same : (a b : Bool) → beq a b ≡ true → a ≡ b
beq_same a b e = grind arith

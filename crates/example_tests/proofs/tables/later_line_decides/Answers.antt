use Rattle.std.proofs.Common.{◌≡◌, ◌⊎◌, inl, inr, ℕ, zero, suc, [], Option, Some, None, refl, arith}
use Rattle.std.specs.Prelude.{option_and_then, slice_get}
use Rattle.bstr.specs.Text.{line_len, lines_from}
use Rattle.attr_table.specs.Setting.{Item, Unset, body_of}
use Rattle.attr_table.specs.Table.{Inside, IsEarlier, Occurrence, Root, item_at}
use Rattle.example_tests.specs.Tables.{two_lines}
use Rattle.example_tests.proofs.tables.later_line_decides.Goals as goal

-- no macro has a body, so no item is inside another
no_body : (parent : Option Item) (index : ℕ) (i : Item) → option_and_then (λ j. slice_get (body_of [] j.attribute) index) parent ≡ Some i → ⊥
no_body None index i e = absurd cc
no_body (Some j) index i e = absurd cc

-- each item is of attribute 0, and that of the second line comes first
pub earliest : (p : Occurrence) (i : Item) → item_at two_lines p ≡ Some i → (i.attribute ≡ 0) × ((Root 0 1 0 ≡ p) ⊎ IsEarlier (Root 0 1 0) p)
earliest (Root zero zero zero) i e = (cc, inr (inr (refl, inl (omega arith))))
earliest (Root zero zero (suc item)) i e = absurd cc
earliest (Root zero (suc zero) zero) i e = (cc, inl refl)
earliest (Root zero (suc zero) (suc item)) i e = absurd cc
earliest (Root zero (suc (suc line)) item) i e = absurd cc
earliest (Root (suc list) line item) i e = absurd cc
earliest (Inside parent index) i e = absurd (no_body (item_at two_lines parent) index i e)

pub returns-clause-setting : goal.returns-clause-setting
unfolding line_len lines_from
returns-clause-setting c = refl

pub returns-clause-stable : goal.returns-clause-stable
returns-clause-stable c zero =
    ((record { attribute = 0; state = Unset }, record { item = refl; reached = tt }, refl), λ p i live same. (earliest p i live.item).1)
returns-clause-stable c (suc a) = λ p i live same. omega (arith, same, (earliest p i live.item).0)

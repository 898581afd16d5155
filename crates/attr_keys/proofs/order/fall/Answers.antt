use Rattle.std.proofs.Common.{◌∙◌, sym, ap, eqb, rules}
use Rattle.std.proofs.lemmas.List.Filters.{dedup_is}
use Rattle.std.proofs.lemmas.List.Sorted.{list_any-IsPermutation}
use Rattle.attr_keys.specs.shared.Rows.{has_row}
use Rattle.attr_keys.proofs.Ordering.{falling_dedup, sorted_falling}
use Rattle.attr_keys.proofs.RowLemmas.{has_dedup}
use Rattle.attr_keys.proofs.order.fall.Goals as goal

pub returns-clause-rows : goal.returns-clause-rows
returns-clause-rows c = λ row.
    let kept = dedup_is eqb _ _ c.dedup.ensures.filtered in
    sym (list_any-IsPermutation (λ r. eqb r row) _ _ c.sort_unstable_by.ensures.permutation
    ∙ (sym (has_dedup row c.sort_unstable_by.new.self.items) ∙ ap (λ rows. has_row rows row) (sym kept)))

pub returns-clause-falling : goal.returns-clause-falling
returns-clause-falling c =
    let kept = dedup_is eqb _ _ c.dedup.ensures.filtered in
    rw kept (falling_dedup _ (sorted_falling c.sort_unstable_by.new.self.items c.sort_unstable_by.ensures.sorted (λ a r q k. search rules)))

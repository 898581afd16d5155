use Rattle.std.proofs.Common.{◌≡◌, ℕ, false, true, map, refl, subst, sym, eqb}
use Rattle.std.proofs.lemmas.List.Sorted.{list_any-IsPermutation}
use Rattle.attr_keys.specs.declared.key.Subject.{Subject}
use Rattle.attr_keys.specs.declared.key.Subject.TheVariants.{Name, End, Path, Anything, Nothing}
use Rattle.attr_keys.specs.declared.key_index.KeyRows.{KeyRows}
use Rattle.attr_keys.specs.inner.Kinds.{kind_rows}
use Rattle.attr_keys.specs.inner.Orders.{sorted_rows}
use Rattle.attr_keys.specs.shared.Rows.{ArePrefixes, has_row}
use Rattle.attr_keys.proofs.Gathering.{seen_by}
use Rattle.attr_keys.proofs.Sorting.{kinds_moved}
use Rattle.attr_keys.proofs.key_index.KeyRows.of.Goals as goal

pub returns : goal.returns
returns g c =
    let keys = map g.K.Keyed.content c.args.lines.now in
    let fold = c.args.kinds.fold in
    let by = c.keys_of-keys.ensures in
    let by' = c.keys_of-ends.ensures in
    let seen = seen_by g.K.Keyed.content c.keys_of-keys.result c.args.lines.now fold false by.lines by.fold by.from_end in
    let seen' = seen_by g.K.Keyed.content c.keys_of-ends.result c.args.lines.now fold true by'.lines by'.fold by'.from_end in
    record {
      kinds = kinds_moved fold keys c.args.kinds.hashed (λ s. kind_rows s c.args.kinds) _ same c.requires.kinds;
      names = subst (λ ks. ArePrefixes ks c.in_ok-of.field-0) seen c.in_ok-of.ensures.sorted;
      ends = subst (λ ks. ArePrefixes ks c.in_ok-of-2.field-0) seen' c.in_ok-of-2.ensures.sorted;
      paths = subst (λ ks. ArePrefixes ks c.in_ok-of-3.field-0) seen c.in_ok-of-3.ensures.sorted;
    }
  where
    sorted : KeyRows
    sorted = record {
      hashed = c.args.kinds.hashed;
      names = c.in_ok-of.field-0;
      ends = c.in_ok-of-2.field-0;
      paths = c.in_ok-of-3.field-0;
      others = c.reverse.new.self;
    }

    same : (s : Subject) (row : ℕ) → has_row (sorted_rows s sorted) row ≡ has_row (kind_rows s c.args.kinds) row
    same Name row = c.in_ok-of.ensures.rows row
    same End row = c.in_ok-of-2.ensures.rows row
    same Path row = c.in_ok-of-3.ensures.rows row
    same Anything row = sym (list_any-IsPermutation (λ r. eqb r row) _ _ c.reverse.ensures.permutation)
    same Nothing row = refl

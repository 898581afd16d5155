use Rattle.std.proofs.Common.{Some, [], ap, sym, subst, ◌∙◌}
use Rattle.std.specs.Bool.{IsTrue}
use Rattle.std.specs.Cmp.Lexicographic.{bytes_decides}
use Rattle.attr_text.specs.Names.{is_valid_name}
use Rattle.attr_lists.specs.inner.EntryViews.{AreValid}
use Rattle.attr_lists.proofs.NamedDefinitions.{number_name, number_where}
use Rattle.attr_lists.proofs.name_table.name_set.NameSet.recent.Goals as goal

pub returns-then-eq-clause-number : goal.returns-then-eq-clause-number
returns-then-eq-clause-number c =
    number_where c.args.self.now c.args.name.now c.get-number.result c.in_ok-known.ensures.distinct
    (sym c.in_ok-known.ensures.name
    ∙ ap Some (sym c.as_bytes.ensures.value ∙ (bytes_decides c.as_bytes.result.now c.args.name.now).0 (sym c.eq.ensures ∙ c.if-eq.true)))

pub returns-then-eq-clause-valid : goal.returns-then-eq-clause-valid
returns-then-eq-clause-valid c =
    let here = number_name c.args.self.now c.args.name.now c.get-number.result (returns-then-eq-clause-number c) in
    subst (λ name. IsTrue (is_valid_name name)) here.1 (subst AreValid c.self.view_is c.self.invariant.valid c.get-number.result [] here.0)

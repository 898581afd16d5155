use Rattle.std.proofs.Common.{[], ◌∷◌, ◌∙◌, arith}
use Rattle.attr_lists.proofs.NameLemmas.{not_inserted, with_names-extends}
use Rattle.attr_lists.proofs.NamedDefinitions.{named_at}
use Rattle.attr_lists.proofs.name_table.numbers.number_item.Goals as goal

pub returns-in_err-item-clause-inserted : goal.returns-in_err-item-clause-inserted
returns-in_err-item-clause-inserted c =
    let more = with_names-extends c.args.names.now (c.as_str.result.now ∷ []) in
    not_inserted c.from_residual-in_err-item.result _ _ _ c.from_residual-in_err-item.ensures.0
    (more.0, c.in_ok-number.ensures.inserted.ok ∙ more.1)

pub returns-clause-numbered : goal.returns-clause-numbered
returns-clause-numbered c = grind (arith, named_at)

use Rattle.attr_lists.proofs.RegisteredLemmas.{next_above}
use Rattle.attr_lists.proofs.name_table.registered.next_id.Goals as goal

pub returns-in-Some : goal.returns-in-Some
returns-in-Some c =
    next_above c.args.lists.now c.in-Some.list.now c.checked_add.result c.requires c.in-Some.ensures.item.1 c.checked_add.ensures

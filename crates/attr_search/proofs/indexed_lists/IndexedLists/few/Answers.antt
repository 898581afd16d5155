use Rattle.std.proofs.Common.{arith}
use Rattle.attr_search.proofs.DirectoryLemmas.{few_found}
use Rattle.attr_search.proofs.indexed_lists.IndexedLists.few.Goals as goal

pub returns-then-len-clause-few : goal.returns-then-len-clause-few
returns-then-len-clause-few c = λ case path.
    let lists = c.args.self.now.lists in
    few_found case path lists.items c.len-then-len.result (omega (arith, c.len-then-len.ensures, lists.ok))
    (omega (arith, c.if-len.true, c.len.ensures, c.len-then-len.ensures))

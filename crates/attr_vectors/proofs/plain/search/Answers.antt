use Rattle.std.proofs.Common.{arith, length}
use Rattle.std.proofs.lemmas.List.{get_or-replicate}
use Rattle.attr_table.specs.Cut.{no_answers}
use Rattle.attr_vectors.specs.inner.Plain.{plain_answers, plain_bodies, plain_lists, plain_setting}
use Rattle.attr_table.proofs.ForCallers.{taken_most, taken_least, walked_searched, searched_joined}
use Rattle.attr_vectors.proofs.Seen.{plain_answers-empty}
use Rattle.attr_vectors.proofs.plain.search.Goals as goal

pub returns-in-Ok : goal.returns-in-Ok
returns-in-Ok c =
    let s = plain_setting c.args.lists.now c.args.bodies.now in
    let before = plain_answers c.args.slots.now in
    let after = plain_answers c.search_lists.new.slots in
    let searched = walked_searched s c.args.wanted.now before after c.in-Ok.ensures.walks in
    record {
      searched = searched;
      joined = λ lists first.
          searched_joined lists (plain_lists c.args.lists.now) (plain_bodies c.args.bodies.now) c.args.wanted.now no_answers
          before after first searched;
      most = taken_most s c.args.wanted.now before after c.in-Ok.taken c.in-Ok.ensures;
      least = taken_least s c.args.wanted.now before after c.in-Ok.taken (length c.search_lists.new.slots) (omega arith)
          c.in-Ok.ensures;
      refused = tt;
    }

pub returns-in-Err-clause-refused : goal.returns-in-Err-clause-refused
returns-in-Err-clause-refused c =
    let emptied = c.fill.ensures.after (λ y h. grind arith) in plain_answers-empty _ (λ k lt. grind (arith, emptied, get_or-replicate))

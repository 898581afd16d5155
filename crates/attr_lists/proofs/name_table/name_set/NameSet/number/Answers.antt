use Rattle.std.proofs.Common.{arith, ◌∙◌, ap, sym, Some}
use Rattle.attr_lists.specs.Numbers.{number_of}
use Rattle.attr_lists.proofs.NamedDefinitions.{absent}
use Rattle.attr_lists.proofs.NumberLemmas.{number_of_new, numbered_known}
use Rattle.attr_lists.proofs.name_table.name_set.NameSet.number.Goals as goal
use Rattle.attr_lists.proofs.name_table.name_set.NameSet.number.Goals.{in-Some-number_of, in-None+in_ok-number-in-None}

pub returns-in-Some-clause-inserted : goal.returns-in-Some-clause-inserted
returns-in-Some-clause-inserted c = record {
  ok = numbered_known c.args.self.now c.args.name.now c.in-Some.number
      (ap (number_of c.args.self.now) (sym c.as_bytes.ensures.value) ∙ c.in-Some.ensures.number);
  err = tt;
}

pub returns-clause-inserted : goal.returns-clause-inserted
returns-clause-inserted c =
    elim c.match-number_of.branch [
      | in-Some-number_of w ↦ record {
        ok = c.self-2.view_is ∙ w.self-is ∙ numbered_known c.args.self.now c.args.name.now _ (sym w.in-Some-number_of.ensures);
        err = tt;
      }
      | in-None+in_ok-number-in-None w ↦ grind (arith, absent)
    ]

pub returns-clause-number : goal.returns-clause-number
returns-clause-number c =
    elim c.match-number_of.branch [
      | in-Some-number_of w ↦ ap (λ names. number_of names c.args.name.now) (c.self-2.view_is ∙ w.self-is) ∙ sym w.in-Some-number_of.ensures
          ∙ ap Some (sym w.number-is)
      | in-None+in_ok-number-in-None w ↦ grind (arith, absent, number_of_new)
    ]

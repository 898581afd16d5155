use Rattle.attr_table.proofs.Cuts.{searched_joined}
use Rattle.attr_table.specs.Cut.{no_answers}
use Rattle.attr_table.proofs.laws.searches_extend_cuts.Goals as goal

pub returns : goal.returns
returns c = λ s wanted before after searched lists first.
    searched_joined lists s.lists s.bodies wanted no_answers before after first searched

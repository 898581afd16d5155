use Rattle.std.proofs.Common.{arith}
use Rattle.std.proofs.lemmas.Bool.Decides.{nat_tests}
use Rattle.gix_attributes.proofs.LabelLemmas.{label_below, source_at_label, state_told-more}
use Rattle.gix_attributes.proofs.engine.laws.labels_stand_for_sources.Goals as goal

pub returns-clause-label : goal.returns-clause-label
returns-clause-label c sources index source below here = grind (arith, nat_tests, source_at_label)

pub returns-clause-below : goal.returns-clause-below
returns-clause-below c = label_below

pub returns-clause-more : goal.returns-clause-more
returns-clause-more c = state_told-more

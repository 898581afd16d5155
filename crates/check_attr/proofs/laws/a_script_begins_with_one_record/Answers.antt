use Rattle.check_attr.proofs.SpellingLemmas.{one_record}
use Rattle.check_attr.proofs.laws.a_script_begins_with_one_record.Goals as goal

pub returns : goal.returns
returns c = λ script rest others r other. one_record script r other rest others

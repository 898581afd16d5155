use Rattle.check_attr.proofs.RecordLemmas.{records_written, records_read_back}
use Rattle.check_attr.proofs.laws.records_have_a_script.Goals as goal

pub returns-clause-written : goal.returns-clause-written
returns-clause-written c = records_written

pub returns-clause-read : goal.returns-clause-read
returns-clause-read c = records_read_back

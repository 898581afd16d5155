use Rattle.check_attr.proofs.RecordLemmas.{has_records, writes_records}
use Rattle.check_attr.proofs.laws.a_script_is_of_records.Goals as goal

pub returns-clause-holds : goal.returns-clause-holds
returns-clause-holds c = has_records

pub returns-clause-only : goal.returns-clause-only
returns-clause-only c = writes_records

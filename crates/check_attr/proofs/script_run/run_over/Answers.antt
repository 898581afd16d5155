-- What was read is the script that is played.
use Rattle.std.proofs.Common.{arith, ℕ, List, Option, Some, None}
use Rattle.std.proofs.lemmas.Bool.Decides.{nat_tests}
use Rattle.gix_attributes.specs.EngineStates.{EngineState}
use Rattle.check_attr.specs.ScriptText.{WritesFrontFrom}
use Rattle.check_attr.proofs.CommandLemmas.{returned}
use Rattle.check_attr.proofs.PieceLemmas.{nothing_written}
use Rattle.check_attr.proofs.TextLemmas.{OneText-of}
use Rattle.check_attr.proofs.script_run.run_over.Goals as goal

-- nothing is a beginning of the text of each script
unread_front : (s : EngineState) (script contents : Option (List ℕ)) → WritesFrontFrom s script contents contents
unread_front s None contents = tt
unread_front s (Some script) contents = let one = OneText-of s 1 script in (one.0, one.1, one.2, nothing_written contents one.1)

pub returns-in_err-script-clause-plays : goal.returns-in_err-script-clause-plays
returns-in_err-script-clause-plays g c = grind (arith, nat_tests, returned, unread_front)

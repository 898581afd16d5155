use Rattle.std.proofs.Common.{arith}
use Rattle.std.proofs.lemmas.Bool.Decides.{nat_tests}
use Rattle.std.proofs.lemmas.Grind.{common_steps}
use Rattle.std.proofs.lemmas.List.Elements.{filter_map-append}
use Rattle.std.proofs.lemmas.List.{take_more, append-nil}
use Rattle.gix_attributes.proofs.search.selection.numbers.Goals as goal
use Rattle.gix_attributes.proofs.search.selection.numbers.Goals.{in-Some+in_ok-push, in_default}

pub loop-wanted-preserved : goal.loop-wanted-preserved
loop-wanted-preserved c = grind (arith, nat_tests, in-Some+in_ok-push, common_steps, take_more, filter_map-append, in_default, append-nil)

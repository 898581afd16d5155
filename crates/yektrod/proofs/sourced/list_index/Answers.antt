use Rattle.std.proofs.Common.{◌∙◌}
use Rattle.yektrod.proofs.LabelLemmas.{parsed}
use Rattle.yektrod.proofs.sourced.list_index.Goals as goal

pub returns : goal.returns
returns c = c.unwrap_or.ensures ∙ parsed c.args.label.now c.parse.result c.parse.ensures.value.0

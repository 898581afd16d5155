-- A valid name is ASCII, so its bytes are text.
use Rattle.std.proofs.Common.{◌∙◌, ap}
use Rattle.attr_text.specs.Names.{is_valid_name}
use Rattle.attr_text.proofs.ForCallers.{valid_name_is_text}
use Rattle.attr_lists.proofs.name_table.numbers.macro_name.Goals as goal

pub unreachable-requires : goal.unreachable-requires
unreachable-requires c = c.in-Err.ensures.cases.0 (valid_name_is_text _ (ap is_valid_name c.as_slice.ensures.value ∙ c.requires))

-- What is printed so far and what is left to print are together the number and what is printed of all items.
use Rattle.std.proofs.Common.{◌≡◌, ◌++◌, codes}
use Rattle.std.specs.Fmt.{decimal}
use Rattle.std.specs.List.{flat_map}
use Rattle.check_attr.specs.LinesText.{item_text}
use Rattle.check_attr.proofs.line_report.push_parsed.Given as goal

abbrev pub invariant-loop-item : goal.invariant-loop-item
invariant-loop-item l =
    l.held ++ flat_map item_text l.item-iterator ≡ l.fn.held ++ (decimal l.number ++ codes ":" ++ flat_map item_text l.fn.items)

-- What the parts of answers are: the content, and not where it is in memory (own).
use Rattle.std.specs.Prelude.{List, map, length, ◌-◌, Option, slice_get}
use Rattle.attr_lists.specs.declared.types.TrackedAssignment.{TrackedAssignment}
use Rattle.attr_table.specs.Setting.{Origin}
use Rattle.attr_search.specs.declared.matching_line.AnsweringLine.{AnsweringLine}
use Rattle.attr_search.specs.inner.PartsContents.{PartsContent}
use Rattle.attr_search.specs.shared.Slotted.{SharedBody, bodies_view, index_origin}

-- where a line is
abbrev pub origin_of_line : AnsweringLine → Origin
origin_of_line l = index_origin l.index.value l.line

abbrev pub origins : List AnsweringLine → List Origin
origins lines = map origin_of_line lines

-- where the last line is, if there is one
abbrev pub last_origin : List AnsweringLine → Option Origin
last_origin lines = slice_get (origins lines) (length lines - 1)

abbrev pub parts_view : List AnsweringLine → List TrackedAssignment → List SharedBody → PartsContent
parts_view lines items bodies = record { lines = origins lines; items = items; bodies = bodies_view bodies }

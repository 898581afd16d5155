use Rattle.std.proofs.Common.{ap, map, subst, sym, take, ◌∙◌}
use Rattle.std.proofs.lemmas.List.{map_push, take_more}
use Rattle.attr_keys.specs.shared.KeyContents.{KeyContent}
use Rattle.attr_keys.specs.shared.LineKeys.{line_content, shape_content}
use Rattle.attr_keys.specs.shared.SortedLines.{SortsLines}
use Rattle.attr_keys.specs.declared.line_key.Shape.{Shape}
use Rattle.list_rows.proofs.keys.index_of.Goals as goal

pub loop-line-preserved : goal.loop-line-preserved
loop-line-preserved c =
    let content : Shape → KeyContent = λ line. line_content (shape_content line) in
    let lines = c.args.lines.now in
    let at = c.loop-line.line-index in
    subst (λ keys. SortsLines keys c.push.new.self)
    (sym (ap (map content) (take_more lines at _ c.loop-line-test.true) ∙ map_push content (take at lines) _))
    (c.in_ok-push.ensures.sorted (map content (take at lines)) c.loop-line.invariant)

use Rattle.std.proofs.Common.{◌∙◌, ◌∷◌, [], Ok, Err, ap, sym}
use Rattle.std.proofs.lemmas.List.{map-append}
use Rattle.attr_lists.specs.LineViews.{line_view, IsOver}
use Rattle.attr_lists.specs.ListViews.{entry_view, entries_view}
use Rattle.attr_lists.specs.Numbers.{names_in}
use Rattle.attr_lists.specs.inner.LineSteps.{kept_line_view}
use Rattle.attr_lists.proofs.NameLemmas.{not_read}
use Rattle.attr_lists.proofs.ReadingLemmas.{appended_after, back_appends, line_dropped, line_kept, line_omitted, told_appends, told_line}
use Rattle.attr_lists.proofs.parser.read_buffer.Goals as goal

pub returns-in_err-mapping : goal.returns-in_err-mapping
returns-in_err-mapping c =
    let h = c.loop-line.invariant in
    not_read c.from_residual.result _ c.args.names.now c.read_line.new.names c.from_residual.ensures.0
    (appended_after c.args.names.now c.loop-line.names c.read_line.new.names (names_in h.done) h.names c.in_err-mapping.ensures.err)

pub loop-line-preserved-in-Continue-branch-3 : goal.loop-line-preserved-in-Continue-branch-3
loop-line-preserved-in-Continue-branch-3 c =
    let read = entry_view c.in-Ok.mapping in
    let told = told_line (IsOver c.next.new.self) (line_view c.in-Some.line) c.loop-line.line-iterator.results c.next.new.self.results
    c.loop-line.names c.read_line.new.names (kept_line_view c.in_ok-mapping.field-0) (Ok read) c.in-Some.ensures.steps c.in_ok-mapping.ensures.ok
    (ap kept_line_view c.in-Ok.is) in
    line_kept c.args.allow_macros c.args.bytes.now c.loop-line.line-iterator.results c.next.new.self.results told.0 c.args.names.now
    c.loop-line.names c.read_line.new.names (entries_view c.loop-line.mappings.items) c.loop-line.dropped.items c.loop-line.invariant told.1
    (entries_view c.push.new.self.items) read told.2 (sym c.is_kept.ensures ∙ c.if-is_kept.true)
    (ap entries_view c.in_ok-push-in-Ok.ensures.items ∙ map-append entry_view c.loop-line.mappings.items (c.in-Ok.mapping ∷ []))

pub loop-line-preserved : goal.loop-line-preserved
loop-line-preserved c =
    let read = c.in-Err.line in
    let told = told_line (IsOver c.next.new.self) (line_view c.in-Some.line) c.loop-line.line-iterator.results c.next.new.self.results
    c.loop-line.names c.read_line.new.names (kept_line_view c.in_ok-mapping.field-0) (Err read) c.in-Some.ensures.steps c.in_ok-mapping.ensures.ok
    (ap kept_line_view c.in-Err.is) in
    line_dropped c.args.allow_macros c.args.bytes.now c.loop-line.line-iterator.results c.next.new.self.results told.0 c.args.names.now
    c.loop-line.names c.read_line.new.names (entries_view c.loop-line.mappings.items) c.loop-line.dropped.items c.loop-line.invariant told.1
    c.truncate-in-Err.new.self c.len-count.result c.push-in-Err.new.self.items read told.2 c.len-count.ensures.count c.truncate-in-Err.ensures
    c.in_ok-push-in-Err.ensures.items

pub loop-line-preserved-else-is_kept : goal.loop-line-preserved-else-is_kept
loop-line-preserved-else-is_kept c =
    let read = entry_view c.in-Ok.mapping in
    let told = told_line (IsOver c.next.new.self) (line_view c.in-Some.line) c.loop-line.line-iterator.results c.next.new.self.results
    c.loop-line.names c.read_line.new.names (kept_line_view c.in_ok-mapping.field-0) (Ok read) c.in-Some.ensures.steps c.in_ok-mapping.ensures.ok
    (ap kept_line_view c.in-Ok.is) in
    line_omitted c.args.allow_macros c.args.bytes.now c.loop-line.line-iterator.results c.next.new.self.results told.0 c.args.names.now
    c.loop-line.names c.read_line.new.names (entries_view c.loop-line.mappings.items) c.loop-line.dropped.items c.loop-line.invariant told.1
    c.truncate.new.self c.len-count.result read told.2 (sym c.is_kept.ensures ∙ c.if-is_kept.false) c.len-count.ensures.count c.truncate.ensures

pub returns-in_err-push-in-Ok : goal.returns-in_err-push-in-Ok
returns-in_err-push-in-Ok c =
    let h = c.loop-line.invariant in
    not_read c.from_residual-in_err-push-in-Ok.result _ c.args.names.now c.read_line.new.names c.from_residual-in_err-push-in-Ok.ensures.0
    (appended_after c.args.names.now c.loop-line.names c.read_line.new.names (names_in h.done) h.names
    (told_appends (line_view c.in-Some.line) c.loop-line.names c.read_line.new.names (kept_line_view c.in_ok-mapping.field-0)
    c.in_ok-mapping.ensures.ok))

pub returns-in_err-push-in-Err : goal.returns-in_err-push-in-Err
returns-in_err-push-in-Err c =
    let h = c.loop-line.invariant in
    not_read c.from_residual-in_err-push-in-Err.result _ c.args.names.now c.truncate-in-Err.new.self c.from_residual-in_err-push-in-Err.ensures.0
    (back_appends c.args.names.now c.loop-line.names c.read_line.new.names c.truncate-in-Err.new.self (names_in h.done) c.len-count.result h.names
    c.len-count.ensures.count
    (told_appends (line_view c.in-Some.line) c.loop-line.names c.read_line.new.names (kept_line_view c.in_ok-mapping.field-0)
    c.in_ok-mapping.ensures.ok) c.truncate-in-Err.ensures)

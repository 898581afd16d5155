use Rattle.std.proofs.Common.{◌∙◌, ap, map, arith}
use Rattle.attr_lists.specs.ListViews.{entries_view}
use Rattle.attr_lists.specs.inner.LineSteps.{forgotten}
use Rattle.attr_lists.proofs.ReadingLemmas.{forgotten_whole}
use Rattle.attr_lists.proofs.parser.AttributesPattern.bytes_to_patterns.Goals as goal

pub returns : goal.returns
returns c =
    let mappings = c.in_ok-mappings.mappings in
    forgotten_whole c.args.bytes.now c.new-names.result c.read_buffer.new.names mappings.items c.forget_all_numbers.new.mappings mappings.len
    c.in_ok-mappings.dropped.items c.in_ok-mappings.ensures.ok
    (c.forget_all_numbers.ensures ∙ ap (λ l. map forgotten (entries_view l)) c.deref_mut.ensures.value) (omega (arith, mappings.ok.0))

use Rattle.std.proofs.Common.{arith, ◌≡◌, ◌<◌, ap, get_or, length, ◌≤◌, ◌∙◌, subst, sym}
use Rattle.std.proofs.lemmas.List.{map_push}
use Rattle.attr_keys.specs.shared.KeyIndexes.{IsKeyIndex}
use Rattle.attr_keys.specs.shared.SortedLines.{SortsLines}
use Rattle.attr_glob.specs.Indexed.{indexed_lines, listed_lines}
use Rattle.attr_glob.specs.shared.LineShapes.{indexed_keys, key_of_pattern}
use Rattle.attr_glob.proofs.IndexLemmas.{take_whole}
use Rattle.attr_glob.proofs.IndexedLemmas.{lines_more, patterns_same}
use Rattle.attr_glob.proofs.search.pattern.index.Index.of.Goals as goal

pub loop-mapping-preserved : goal.loop-mapping-preserved
loop-mapping-preserved g c =
    let lines = c.loop-mapping.lines.items in
    let line = c.in_ok-line.line in
    let here : c.loop-mapping.mapping-index < length c.args.list.now.patterns.items =
    grind (arith, c.loop-mapping-test.true, c.deref-mapping-items.ensures.value) in
    record {
      lines = lines_more lines c.push-in-loop-mapping.new.self.items c.args.list.now.patterns.items line c.mapping-item.result
          c.loop-mapping.mapping-index here
          (c.mapping-item.is ∙ ap (λ l. get_or l c.loop-mapping.mapping-index c.mapping-item.result) c.deref-mapping-items.ensures.value)
          c.loop-mapping.invariant.lines c.in_ok-push-2.ensures.items
          c.in_ok-line.ensures.pattern c.in_ok-line.ensures.number;
      sorted = subst (λ keys. SortsLines keys c.push.new.self)
          (sym (ap indexed_keys c.in_ok-push-2.ensures.items ∙ map_push (λ l. key_of_pattern l.pattern) lines line))
          (c.in_ok-push.ensures.sorted (indexed_keys lines) c.loop-mapping.invariant.sorted);
    }

pub invariant_of-result : goal.invariant_of-result
invariant_of-result g c = record {
  keyed = subst (λ ls. IsKeyIndex (indexed_keys ls) c.in_ok-keys.keys) c.deref.ensures.value c.in_ok-keys.ensures;
}

pub returns-clause-patterns : goal.returns-clause-patterns
returns-clause-patterns g c =
    let mappings = c.args.list.now.patterns.items in
    let all : length mappings ≤ c.loop-mapping.mapping-index = grind (arith, c.loop-mapping-test.false, c.deref-mapping-items.ensures.value) in
    let same : indexed_lines c.loop-mapping.lines.items ≡ listed_lines mappings =
    c.loop-mapping.invariant.lines ∙ ap listed_lines (take_whole mappings c.loop-mapping.mapping-index all) in
    patterns_same c.loop-mapping.lines.items mappings same

pub returns-clause-lines : goal.returns-clause-lines
returns-clause-lines g c =
    let mappings = c.args.list.now.patterns.items in
    let all : length mappings ≤ c.loop-mapping.mapping-index = grind (arith, c.loop-mapping-test.false, c.deref-mapping-items.ensures.value) in
    c.loop-mapping.invariant.lines ∙ ap listed_lines (take_whole mappings c.loop-mapping.mapping-index all)

use Rattle.std.proofs.Common.{◌∙◌, ◌++◌, ◌∷◌, [], ap, arith, map, subst, sym, take}
use Rattle.std.proofs.lemmas.List.{map_push, take_more}
use Rattle.attr_keys.specs.inner.Kinds.{AreKindRows}
use Rattle.attr_keys.proofs.key_index.folded_rows.Goals as goal

pub loop-line-preserved : goal.loop-line-preserved
loop-line-preserved g c =
    let content = g.K.Keyed.content in
    let lines = c.args.lines.now in
    let index = c.loop-line.line-index in
    let line = c.line-item.result in
    let more = take_more lines index line (grind (arith, c.loop-line-test.true)) ∙ ap (λ l. take index lines ++ l ∷ []) (sym c.line-item.is) in
    record {
      kinds = subst (λ keys. AreKindRows keys c.push.new.self) (sym (ap (map content) more ∙ map_push content (take index lines) line))
          (c.in_ok-push.ensures.kinds (map content (take index lines)) c.loop-line.invariant.kinds);
      fold = c.in_ok-push.ensures.fold ∙ c.loop-line.invariant.fold;
    }

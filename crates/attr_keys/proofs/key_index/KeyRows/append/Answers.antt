use Rattle.std.proofs.Common.{◌∙◌, ◌++◌, map, subst, ap, false, true}
use Rattle.std.proofs.lemmas.Result.{on_ok_weaker}
use Rattle.attr_keys.specs.inner.Buckets.{IsHashedAt}
use Rattle.attr_keys.specs.inner.MetRows.{AppendsMet, IsMet}
use Rattle.attr_keys.proofs.Gathering.{all_met, seen_by, text_seen}
use Rattle.attr_keys.proofs.key_index.KeyRows.append.Goals as goal

pub returns : goal.returns
returns g c =
    let content = g.K.Keyed.content in
    let lines = c.args.lines.now in
    let keys = map content lines in
    let fold = c.args.texts.fold in
    let name = c.args.texts.name.now in
    let path = c.args.texts.path.now in
    let rows = c.args.self.now in
    let by = c.keys_of-keys.ensures in
    let by' = c.keys_of-ends.ensures in
    let seen = seen_by content c.keys_of-keys.result lines fold false by.lines by.fold by.from_end in
    let seen' = seen_by content c.keys_of-ends.result lines fold true by'.lines by'.fold by'.from_end in
    let met = subst (λ old. AppendsMet (IsMet c.args.texts keys) (IsHashedAt fold keys rows.hashed) old c.append.new.found.items) c.requires.empty
    c.in_ok-append.ensures in
    on_ok_weaker c.append-5.result
    (λ more. all_met fold name path keys rows c.append.new.found.items c.append-2.new.found.items c.append-3.new.found.items
    c.append-4.new.found.items c.append-5.new.found.items c.requires.sorted met
    (λ row. c.in_ok-append-2.ensures row ∙ text_seen c.keys_of-keys.result.view fold false name _ _ row _ _ by.fold by.from_end seen)
    (λ row. c.in_ok-append-3.ensures row ∙ text_seen c.keys_of-ends.result.view fold true name _ _ row _ _ by'.fold by'.from_end seen')
    (λ row. c.in_ok-append-4.ensures row ∙ text_seen c.keys_of-keys.result.view fold false path _ _ row _ _ by.fold by.from_end seen)
    (more ∙ ap (λ l. c.append-4.new.found.items ++ l) c.deref.ensures.value)) c.append-5.ensures

use Rattle.std.proofs.Common.{Some, sym, ap, ◌∙◌}
use Rattle.std.proofs.lemmas.Option.{slice_get-get_or}
use Rattle.attr_keys.specs.inner.Cases.{seen, text_standing}
use Rattle.attr_keys.specs.shared.Codes.{key_codes}
use Rattle.attr_keys.specs.shared.Meeting.{is_end, is_whole_row}
use Rattle.attr_keys.proofs.SeenTexts.{codes_seen, directed_twice, row_is, row_seen}
use Rattle.attr_keys.proofs.key.parts.Goals as goal

pub returns-in-Some-clause-codes : goal.returns-in-Some-clause-codes
returns-in-Some-clause-codes g c = λ fold from_end.
    let lines = c.args.lines.now in
    let line = c.in-Some.line.now in
    let at = c.in-Some.ensures.lookup.3 in
    codes_seen fold from_end c.key-key.result
    ∙ (ap (λ k. key_codes (Some (seen fold from_end k))) c.key-key.ensures
    ∙ row_seen g.K.Keyed.content fold from_end lines c.args.row (Some line)
    (slice_get-get_or lines c.args.row line at.0 ∙ ap Some (sym (at.1 line))))

pub returns-in-Some-clause-text : goal.returns-in-Some-clause-text
returns-in-Some-clause-text g c =
    let key = c.key-key.result in
    let at = c.in-Some.ensures.lookup.3 in
    let line = c.in-Some.line.now in
    sym (directed_twice (is_end key.subject) key.text.now)
    ∙ sym (ap text_standing (row_is g.K.Keyed.content c.args.lines.now c.args.row line key at.0 (at.1 line) c.key-key.ensures))

pub returns-in-Some-clause-is_whole : goal.returns-in-Some-clause-is_whole
returns-in-Some-clause-is_whole g c =
    let at = c.in-Some.ensures.lookup.3 in
    let line = c.in-Some.line.now in
    sym (ap is_whole_row (row_is g.K.Keyed.content c.args.lines.now c.args.row line c.key-key.result at.0 (at.1 line) c.key-key.ensures))

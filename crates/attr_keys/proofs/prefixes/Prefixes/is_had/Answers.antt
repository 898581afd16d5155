use Rattle.std.proofs.Common.{arith, ap, length, ◌<◌, ◌≡◌, ◌∙◌}
use Rattle.std.specs.Prelude.{slice_get, slice_index}
use Rattle.std.proofs.lemmas.Bool.Decides.{nat_tests}
use Rattle.std.proofs.lemmas.List.{get_or-map, get_or_default, length-map}
use Rattle.attr_keys.specs.inner.Cases.{keys_seen, seen_text}
use Rattle.attr_keys.specs.shared.Codes.{row_codes}
use Rattle.attr_keys.specs.shared.Meeting.{text_has}
use Rattle.attr_keys.proofs.FirstCodes.{first_apart, first_none}
use Rattle.attr_keys.proofs.prefixes.Prefixes.is_had.Goals as goal

pub returns-then-first-eq0 : goal.returns-then-first-eq0
returns-then-first-eq0 g c = grind (arith, nat_tests, get_or-map, length-map, first_none, c.requires.firsts, c.requires.index)

pub returns-then-first-text_first : goal.returns-then-first-text_first
returns-then-first-text_first g c =
    let row = slice_index c.args.self.now.rows.items c.args.index in
    let at : c.index-first.result.now ≡ slice_index (row_codes (keys_seen g.K.Keyed.content c.args.keys) row) 0 =
    grind (arith, nat_tests, get_or-map, length-map, c.requires.firsts, c.requires.index) in
    grind (arith, nat_tests, at, first_apart, c.requires.text_first, c.if-first-eq0.false, c.if-first-text_first.true)

pub returns : goal.returns
returns g c =
    let rows = c.args.self.now.rows.items in
    let within : c.args.index < length rows = grind (arith, nat_tests, length-map, c.requires.firsts, c.requires.index) in
    let own : c.index.result.now ≡ slice_index rows c.args.index = grind (arith, nat_tests, get_or_default, within, c.index.ensures) in
    c.has_row_key.ensures
    ∙ ap (λ row. text_has (seen_text c.args.keys.view c.args.text.now) (slice_get (keys_seen g.K.Keyed.content c.args.keys) row)) own

use Rattle.std.proofs.Common.{arith, ◌∙◌, ap, get_or, sym}
use Rattle.bstr.specs.BStr.{bstr_bytes}
use Rattle.attr_glob.specs.Paths.{matched_part}
use Rattle.attr_glob.specs.Views.{pattern_view}
use Rattle.attr_glob.specs.declared.search.pattern.index.Index.{Index}
use Rattle.attr_search.proofs.IndexedListLemmas.{busy_at, entry_pattern}
use Rattle.attr_search.proofs.EntryAtLemmas.{lacking, matched_answer}
use Rattle.attr_search.proofs.indexed_list.IndexedList.matches.Goals as goal
use Rattle.attr_search.proofs.indexed_list.IndexedList.matches.Goals.{then-not-takes_kind-via-then-not-takes_kind}
use Rattle.attr_search.proofs.indexed_list.IndexedList.matches.Goals.{then-not-takes_kind-via-else-not-takes_kind+then-not-may_match}

pub returns-then-not-takes_kind : goal.returns-then-not-takes_kind
returns-then-not-takes_kind c =
    let list = c.args.self.now in
    let line = c.index-line.result.now in
    let at = busy_at list c.args.index c.requires.index in
    let here = entry_pattern list.index.value.lines.items list.list.patterns.items c.args.index line at.lines at.within
    (c.index-line.ensures ∙ ap (λ (x : Index). get_or x.lines.items c.args.index line) c.deref.ensures) in
    elim c.then-not-takes_kind.branch [
      | then-not-takes_kind-via-then-not-takes_kind w ↦ grind (arith, entry_pattern)
      | then-not-takes_kind-via-else-not-takes_kind+then-not-may_match w ↦
          lacking list.list.patterns.items c.args.index (pattern_view line.pattern) c.args.rest.case (bstr_bytes c.args.rest.path)
          c.args.rest.is_dir c.args.rest.pairs w.may_match.result here c.args.rest.paired w.may_match.ensures w.if-not-may_match.true
    ]

pub returns : goal.returns
returns c =
    let list = c.args.self.now in
    let line = c.index-line.result.now in
    let at = busy_at list c.args.index c.requires.index in
    let here = entry_pattern list.index.value.lines.items list.list.patterns.items c.args.index line at.lines at.within
    (c.index-line.ensures ∙ ap (λ (x : Index). get_or x.lines.items c.args.index line) c.deref.ensures) in
    matched_answer list.list.patterns.items c.args.index (pattern_view line.pattern) c.args.rest.case (bstr_bytes c.args.rest.path)
    c.matched_part-part.result.now c.args.rest.is_dir c.matches_part.result list.read
    at.within c.requires.no_macro here (sym c.takes_kind.ensures ∙ c.if-not-takes_kind.false)
    (c.matched_part-part.ensures ∙ ap (matched_part (pattern_view line.pattern)) c.as_bytes.ensures)
    c.matches_part.ensures.matched

use Rattle.std.proofs.Common.{arith, ◌≡◌, ◌∙◌, ℕ, List, ap, map, slice_get, subst, sym, true≢false}
use Rattle.attr_lists.specs.Collections.{NumberedBody}
use Rattle.attr_lists.specs.Definitions.{HoldsList}
use Rattle.attr_lists.specs.ListViews.{entries_view}
use Rattle.attr_lists.specs.inner.NameTableView.{name_table_view}
use Rattle.attr_lists.specs.inner.Registered.{AgreesOn, numbered_body, registered_views}
use Rattle.attr_lists.proofs.NameTableLaws.{lack_registered}
use Rattle.attr_lists.proofs.NameTableSteps.{held_lines, lines_held, view_at}
use Rattle.attr_lists.proofs.name_table.NameTable.holds.Goals as goal

pub returns-in-Some : goal.returns-in-Some
returns-in-Some c =
    let p = c.self.inside in
    let at = c.in-Some.at in
    let e = c.in-Some.ensures in
    let lines = entries_view c.args.mappings.now in
    let Agrees = λ (list : List NumberedBody). (name : List ℕ) → AgreesOn p.names list lines name in
    let here = ap (λ ls. slice_get (registered_views ls) at) (sym c.deref.ensures.value) ∙ e.1 in
    let macros : map numbered_body c.deref-in-Some.result.now ≡ e.0.macros = grind (arith, view_at) in
    rw (← c.self.view_is) (
      λ yes. subst (λ id. HoldsList (name_table_view p) id lines) e.2
          (held_lines (name_table_view p) at e.0 c.self.invariant.sound here lines (subst Agrees macros (c.has_lines.ensures.0 yes))),
      λ holds. c.has_lines.ensures.1 (subst Agrees (sym macros) (lines_held (name_table_view p) at e.0 c.self.invariant.sound here lines
          (subst (λ id. HoldsList (name_table_view p) id lines) (sym e.2) holds))),
    )

pub returns-in-None : goal.returns-in-None
returns-in-None c = grind (arith, true≢false, lack_registered)

use Rattle.std.proofs.Common.{[], append-nil, arith, refl, subst, sym}
use Rattle.std.proofs.lemmas.List.{length-take}
use Rattle.attr_lists.specs.Definitions.{IsSoundCollection}
use Rattle.attr_lists.specs.inner.NameTableView.{name_table_view}
use Rattle.attr_lists.specs.shared.Reading.{with_first}
use Rattle.attr_lists.proofs.FreshNames.{first_whole}
use Rattle.attr_lists.proofs.name_table.NameTable.take_back.Goals as goal

pub invariant_of-self : goal.invariant_of-self
invariant_of-self c =
    let p = c.self.inside in
    let whole = c.self.invariant in
    let count = c.args.count in
    rw (c.keep_first.ensures.names, c.keep_first.ensures.entries)
    (first_whole p.entries.items p.entries.items p.macros (name_table_view p) p.names whole ([], sym (append-nil p.names)) whole.entries
    (λ n. refl) count (omega (arith, whole.counted, length-take count p.entries.items, length-take count p.names))
    (subst (λ known. IsSoundCollection (with_first count known)) (sym c.self.view_is) c.requires))

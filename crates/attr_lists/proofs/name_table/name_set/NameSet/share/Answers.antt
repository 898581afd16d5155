use Rattle.std.proofs.Common.{◌≡◌, Some, get_or, ap, sym, subst, ◌∙◌}
use Rattle.std.specs.Bool.{IsTrue}
use Rattle.std.specs.Rc.{rc_str_bytes}
use Rattle.std.proofs.lemmas.Option.{slice_get-get_or}
use Rattle.attr_text.specs.Names.{is_valid_name}
use Rattle.attr_lists.specs.inner.EntryViews.{AreValid}
use Rattle.attr_lists.proofs.ListLemmas.{get_or-map}
use Rattle.attr_lists.proofs.name_table.name_set.NameSet.share.Goals as goal

-- the text at the number
text_at : (c : goal.In_ok-clone) → get_or c.args.self.now c.args.number (rc_str_bytes c.index.result.now) ≡ rc_str_bytes c.in_ok-clone.field-0
text_at c =
    let text = c.index.result.now in
    ap (λ names. get_or names c.args.number (rc_str_bytes text)) (sym c.self.view_is)
    ∙ get_or-map rc_str_bytes c.self.inside.texts.items c.args.number text ∙ ap rc_str_bytes (sym c.index.ensures) ∙ sym c.in_ok-clone.ensures.cases

pub of-requires : goal.of-requires
of-requires c =
    subst (λ name. IsTrue (is_valid_name name)) (text_at c)
    (subst AreValid c.self.view_is c.self.invariant.valid c.args.number (rc_str_bytes c.index.result.now) c.requires)

pub returns : goal.returns
returns c =
    slice_get-get_or c.args.self.now c.args.number (rc_str_bytes c.index.result.now) c.requires
    ∙ ap Some (text_at c.before ∙ sym c.of.ensures)

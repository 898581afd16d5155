use Rattle.std.proofs.Common.{◌≡◌, ◌∙◌, Ok, ap, arith, sym}
use Rattle.attr_text.specs.TextViews.{name_text}
use Rattle.attr_lists.specs.Numbers.{number_of, with_name}
use Rattle.attr_lists.proofs.KeptLemmas.{name_checked}
use Rattle.attr_lists.proofs.NumberLemmas.{numbered_known}
use Rattle.attr_lists.proofs.name_table.name_set.NameSet.number_item.Goals as goal

pub returns : goal.returns
returns c = grind (arith, numbered_known)

pub returns-in_ok-number-in-Ok : goal.returns-in_ok-number-in-Ok
returns-in_ok-number-in-Ok c =
    let named : c.as_str.result.now ≡ c.args.name.now = c.as_str.ensures ∙ name_checked c.args.name.now (name_text c.in-Ok.name) c.in-Ok.ensures in
    record {
      ok = (
        sym c.in-Ok.ensures ∙ ap Ok (name_checked c.args.name.now (name_text c.in-Ok.name) c.in-Ok.ensures),
        c.in_ok-number-in-Ok.ensures.inserted.ok ∙ ap (with_name c.args.self.now) named,
        ap (number_of c.number.new.self) (sym named) ∙ c.in_ok-number-in-Ok.ensures.number,
      );
      err = tt;
    }

use Rattle.std.proofs.Common.{sym, ap, ◌∙◌}
use Rattle.std.specs.Cmp.Lexicographic.{bytes_decides}
use Rattle.attr_keys.specs.inner.Cases.{in_case}
use Rattle.attr_keys.proofs.Cuts.{begins_if_cut}
use Rattle.attr_keys.proofs.key.has_part.Goals as goal

pub returns-then-view : goal.returns-then-view
returns-then-view c =
    let own = c.cut-own.result.now in
    let part = c.args.part.now in
    begins_if_cut c.args.view.fold c.args.view.from_end c.args.text.now part own c.cut-own.ensures c.eq_ignore_ascii_case.result
    (λ t. ap (λ f. in_case f own) c.if-view.true ∙ (c.eq_ignore_ascii_case.ensures.test.0 t ∙ sym (ap (λ f. in_case f part) c.if-view.true)))
    (λ e. c.eq_ignore_ascii_case.ensures.test.1 (sym (ap (λ f. in_case f own) c.if-view.true) ∙ (e ∙ ap (λ f. in_case f part) c.if-view.true)))

pub returns-else-view : goal.returns-else-view
returns-else-view c =
    let own = c.cut-own.result.now in
    let part = c.args.part.now in
    begins_if_cut c.args.view.fold c.args.view.from_end c.args.text.now part own c.cut-own.ensures c.eq.result
    (λ t. ap (in_case c.args.view.fold) (sym ((bytes_decides part own).0 (sym c.eq.ensures ∙ t))))
    (λ e. c.eq.ensures ∙ (bytes_decides part own).1
    (sym (sym (ap (λ f. in_case f own) c.if-view.false) ∙ (e ∙ ap (λ f. in_case f part) c.if-view.false))))

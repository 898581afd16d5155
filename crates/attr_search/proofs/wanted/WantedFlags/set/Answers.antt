use Rattle.std.proofs.Common.{◌≡◌, ◌+◌, ◌<◌, ◌∙◌, false, get_or, length, refl, sym, ap, arith}
use Rattle.attr_search.specs.inner.WantedView.{wanted_flags_view}
use Rattle.attr_search.specs.shared.SlotContents.{count_wanted}
use Rattle.attr_search.proofs.WantedLemmas.{count_set, flags_more, length_flags}
use Rattle.attr_search.proofs.wanted.WantedFlags.set.Goals as goal

pub overflow_add-self : goal.overflow_add-self
overflow_add-self c =
    let w = c.self.inside in
    let flags = wanted_flags_view w in
    let lt : c.args.number < length flags = omega (arith, c.requires, ap length c.self.view_is) in
    let free : get_or flags c.args.number false ≡ false =
    ap (λ l. get_or l c.args.number false) c.self.view_is ∙ sym c.has.ensures ∙ c.if-has.false in
    let counted = count_set flags c.args.number w.count 1 false lt c.self.invariant.counted (sym free) refl in
    omega (arith, counted.0, length_flags w, c.self.ranges.0.1)

pub invariant_of-self-2 : goal.invariant_of-self-2
invariant_of-self-2 c =
    let w = c.self.inside in
    let flags = wanted_flags_view w in
    let lt : c.args.number < length flags = omega (arith, c.requires, ap length c.self.view_is) in
    let free : get_or flags c.args.number false ≡ false =
    ap (λ l. get_or l c.args.number false) c.self.view_is ∙ sym c.has.ensures ∙ c.if-has.false in
    let counted = count_set flags c.args.number w.count 1 false lt c.self.invariant.counted (sym free) refl in
    record {
      counted = counted.1 ∙ ap count_wanted (sym (flags_more w (record w { numbers = c.insert.new.self; count = w.count + 1 })
          c.args.number (omega (arith, lt, length_flags w)) refl refl c.in_ok-insert.ensures.updates.1 c.in_ok-insert.ensures.updates.2));
    }

pub returns-clause-ok : goal.returns-clause-ok
returns-clause-ok c =
    let w = c.self.inside in
    let lt : c.args.number < w.len = omega (arith, c.requires, ap length c.self.view_is, length_flags w) in
    rw (← c.self.view_is) (flags_more w (record w { numbers = c.insert.new.self; count = w.count + 1 }) c.args.number lt refl refl
    c.in_ok-insert.ensures.updates.1 c.in_ok-insert.ensures.updates.2)

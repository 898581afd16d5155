use Rattle.std.proofs.Common.{◌≡◌, ◌<◌, ◌-◌, ◌++◌, refl, [], ◌∷◌, length, false, true, get_or, is_some, None, Some, sym, ap, ◌∙◌, arith}
use Rattle.std.proofs.Math.ListN.{length-set, length-map}
use Rattle.std.proofs.lemmas.List.{get_or_default, length-append}
use Rattle.std.proofs.lemmas.List.Elements.{All-push}
use Rattle.attr_search.specs.declared.answer_parts.MatchRef.{MatchRef}
use Rattle.attr_search.specs.inner.SlotsView.{kept_parts, slots_view}
use Rattle.attr_search.specs.shared.SlotContents.{open_slots}
use Rattle.attr_search.specs.inner.PartsView.{parts_view}
use Rattle.attr_search.proofs.PartLemmas.{answer_kept, grows_same}
use Rattle.attr_search.proofs.OpenLemmas.{open_filled, open_free, open_needed}
use Rattle.attr_search.proofs.SlotLemmas.{listed_more, fill_counts, slots_filled, matches_filled, seen_filled}
use Rattle.std.proofs.lemmas.Bool.{false≢true}
use Rattle.attr_search.proofs.slots.AnswerSlots.fill.Goals as goal

pub overflow_sub-self : goal.overflow_sub-self
overflow_sub-self c =
    let b = c.self.inside in
    let number = c.args.attribute in
    let closed : is_some (open_slots (slots_view b) number) ≡ false = grind (arith, is_some, c.requires.free) in
    let free : is_some (get_or b.slots.items number None) ≡ false = grind (arith, seen_filled, open_free) in
    let within : number < length b.slots.items = grind (arith, length-map, c.requires.within) in
    let read : c.index.result.now ≡ get_or b.wanted number false = grind (arith, get_or_default) in
    (fill_counts b.wanted b.slots.items number (record { line = 0; at = c.args.item }) c.index.result.now b.remaining c.from.result
    c.self.invariant.same_length within free c.self.invariant.counted read c.from.ensures).0

pub invariant_of-self-2 : goal.invariant_of-self-2
invariant_of-self-2 c =
    let b = c.self.inside in
    let number = c.args.attribute in
    let found : MatchRef = record { line = c.len-line.result - 1; at = record { cause = c.args.item.cause; index = c.in_ok-index.index } } in
    let answer = answer_kept b.lines.items b.bodies.items c.len-line.result (omega (arith, c.len-line.ensures))
    (rw (← c.self.view_is) at c.requires.line) c.in_ok-index.ensures.kept (rw (← c.self.view_is) at c.requires.inside) in
    let pushed : c.push_reserved.new.self.items ≡ b.filled.items ++ number ∷ [] = c.push_reserved.ensures.items
    ∙ ap (λ l. l ++ number ∷ []) c.reserve.ensures.items in
    let closed : is_some (open_slots (slots_view b) number) ≡ false = grind (arith, is_some, c.requires.free) in
    let free : is_some (get_or b.slots.items number None) ≡ false = grind (arith, seen_filled, open_free) in
    let within : number < length b.slots.items = grind (arith, length-map, c.requires.within) in
    let read : c.index.result.now ≡ get_or b.wanted number false = grind (arith, get_or_default) in
    let own : get_or b.needed number false ≡ true = grind (arith, get_or_default, open_needed) in
    record {
      same_length = c.self.invariant.same_length ∙ sym (length-set b.slots.items number (Some found));
      needed_length = c.self.invariant.needed_length ∙ sym (length-set b.slots.items number (Some found));
      among = c.self.invariant.among;
      bodies = rw (length-set b.slots.items number (Some found)) c.self.invariant.bodies;
      opened = open_filled b.needed b.slots.items b.is_open.items number found within c.self.invariant.opened;
      flagged = c.self.invariant.flagged;
      filled_needed = rw pushed (All-push (λ n. get_or b.needed n false ≡ true) b.filled.items number c.self.invariant.filled_needed own);
      within = slots_filled (kept_parts b) (parts_view b.lines.items c.keep_item.new.items.items b.bodies.items) b.slots.items number found
          (record { lines = grows_same _; items = c.in_ok-index.ensures.kept.grows; bodies = refl }) c.self.invariant.within answer.0;
      counted = grind (arith, fill_counts);
      listed = rw pushed (listed_more b.slots.items b.filled.items number found within free c.self.invariant.listed);
      before = grind (arith, length-append);
      ordered = λ t. absurd (false≢true t);
    }

pub returns-clause-filled : goal.returns-clause-filled
returns-clause-filled c =
    let b = c.self.inside in
    let number = c.args.attribute in
    let found : MatchRef = record { line = c.len-line.result - 1; at = record { cause = c.args.item.cause; index = c.in_ok-index.index } } in
    let answer = answer_kept b.lines.items b.bodies.items c.len-line.result (omega (arith, c.len-line.ensures))
    (rw (← c.self.view_is) at c.requires.line) c.in_ok-index.ensures.kept (rw (← c.self.view_is) at c.requires.inside) in
    let held = matches_filled (kept_parts b) (parts_view b.lines.items c.keep_item.new.items.items b.bodies.items) b.slots.items number found _
    (record { lines = grows_same _; items = c.in_ok-index.ensures.kept.grows; bodies = refl }) c.self.invariant.within answer.1 in
    record {
      inside = c.requires.inside;
      within = rw c.requires.own at c.requires.within;
      free = rw c.requires.own at c.requires.free;
      filled = grind (arith, held, length-append, c.self.invariant.before);
    }

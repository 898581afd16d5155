use Rattle.attr_search.specs.declared.answer_parts.MatchRef.{MatchRef}
use Rattle.std.proofs.Common.{ap, ◌≡◌, false, get_or, true, arith, ◌∙◌, sym}
use Rattle.attr_search.specs.inner.PartsView.{parts_view}
use Rattle.attr_search.specs.shared.SlotContents.{count_remaining}
use Rattle.std.proofs.lemmas.List.Elements.{All-nil}
use Rattle.attr_search.proofs.OpenLemmas.{open_all}
use Rattle.attr_search.proofs.SlotLemmas.{emptied_seen, empty_listed, empty_within}
use Rattle.attr_search.proofs.WantedLemmas.{count_empty}
use Rattle.attr_search.proofs.ListedLemmas.{rising_nothing}
use Rattle.attr_search.proofs.slots.AnswerSlots.reset.Goals as goal

pub invariant_of-self : goal.invariant_of-self
invariant_of-self c =
    let b = c.self.inside in
    let same = c.self.invariant.same_length in
    record {
      same_length = same ∙ sym c.empty.ensures.len;
      needed_length = c.self.invariant.needed_length ∙ sym c.empty.ensures.len;
      among = c.self.invariant.among;
      bodies = rw c.empty.ensures.len c.self.invariant.bodies;
      opened = open_all b.needed c.empty.new.is_open.items c.empty.new.slots.items b.slots.items
          (c.empty.ensures.opened b.needed c.self.invariant.needed_length c.self.invariant.opened
          (rw c.deref.ensures.value c.self.invariant.filled_needed))
          (c.self.invariant.needed_length ∙ sym c.empty.ensures.len) c.empty.ensures.items;
      flagged = c.self.invariant.flagged;
      filled_needed = rw c.clear.ensures.items (All-nil (λ n. get_or b.needed n false ≡ true));
      within = empty_within (parts_view c.keep_none.new.lines.items c.keep_none.new.items.items b.bodies.items) c.empty.new.slots.items
          b.slots.items c.empty.ensures.items;
      counted = c.count-self-inside.ensures ∙ sym (count_empty MatchRef b.wanted b.slots.items same)
          ∙ ap (count_remaining b.wanted) (sym c.empty.ensures.items);
      listed = rw c.clear.ensures.items (empty_listed c.empty.new.slots.items b.slots.items c.empty.ensures.items);
      before = omega arith;
      ordered = λ t. rising_nothing c.clear.new.self.items c.clear.ensures.items;
    }

pub returns : goal.returns
returns c = grind (arith, emptied_seen)

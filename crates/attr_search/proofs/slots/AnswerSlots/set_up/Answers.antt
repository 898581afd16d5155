use Rattle.std.proofs.lemmas.List.Elements.{All-nil}
use Rattle.attr_search.specs.declared.answer_parts.MatchRef.{MatchRef}
use Rattle.std.proofs.Common.{None, ap, get_or, length, refl, sym, true, ◌∙◌, ◌≡◌, arith, false, Bool, List, Option, map}
use Rattle.attr_search.specs.shared.SlotContents.{count_remaining}
use Rattle.std.proofs.lemmas.List.{length-map}
use Rattle.attr_lists.specs.declared.types.TrackedAssignment.{TrackedAssignment}
use Rattle.attr_search.specs.declared.bodies.BodyChange.{BodyChange}
use Rattle.attr_search.specs.inner.SlotsView.{BodiesFit}
use Rattle.attr_search.specs.shared.BodyChanges.{changed_bodies, sized_bodies}
use Rattle.std.specs.Vec.{vec_len}
use Rattle.attr_search.specs.shared.Slotted.{BodiesHaveSlots, bodies_view}
use Rattle.attr_search.proofs.BodyLemmas.{length_changed, length_resized, length_sized}
use Rattle.attr_search.proofs.OpenLemmas.{open_all}
use Rattle.attr_search.proofs.SlotLemmas.{empty_listed, empty_resized, empty_seen, empty_within}
use Rattle.attr_search.proofs.ListedLemmas.{rising_nothing}
use Rattle.attr_search.proofs.WantedLemmas.{count_empty}
use Rattle.attr_search.proofs.slots.AnswerSlots.set_up.Goals as goal

-- bodies that have a slot for each of their items, as many as there are flags
fitting : (bodies : List (List TrackedAssignment)) (slots : List (Option MatchRef)) (wanted : List Bool) (changes : List BodyChange)
    (old : List (List TrackedAssignment)) →
    bodies ≡ changed_bodies changes (sized_bodies (length wanted) old) → slots ≡ map (λ flag. None) wanted →
    BodiesHaveSlots (length wanted) (changed_bodies changes (sized_bodies (length wanted) old)) → BodiesFit (length slots) bodies
fitting bodies slots wanted changes old is cut within = record {
  same_length = grind (arith, length-map, length_changed, length_sized);
  in_bodies = rw (is, cut, length-map {B = Option MatchRef} wanted (λ flag. None)) within;
}

pub change-requires : goal.change-requires
change-requires c = grind (arith, length_resized)

pub write-requires-clause-before : goal.write-requires-clause-before
write-requires-clause-before c =
    let b = c.self.inside in
    c.empty.ensures.opened b.needed (rw c.make_room.ensures.items c.self.invariant.needed_length)
    (rw (c.make_room.ensures.items, c.make_room-2.ensures.items) c.self.invariant.opened) (rw c.deref.ensures.value c.self.invariant.filled_needed)

pub invariant_of-self-2 : goal.invariant_of-self-2
invariant_of-self-2 c =
    let b = c.self.inside in
    let wanted = c.args.wanted in
    let slots = c.resize-2.new.self.items in
    let cut = empty_resized c.make_room.new.elements.items c.empty.new.slots.items slots
    (vec_len c.empty.new.slots) c.len-count.result wanted c.len-count.ensures
    (omega arith) c.empty.ensures.items (rw c.unwrap.ensures at c.resize-2.ensures.items) in
    let many : length slots ≡ length wanted = ap length cut ∙ length-map wanted (λ flag. None) in
    let bodies = c.in_ok-resize.ensures.ok ∙ ap (λ n. sized_bodies n (bodies_view b.bodies.items)) c.len-count.ensures in
    record {
      same_length = sym many;
      needed_length = c.requires.needed ∙ sym many;
      among = c.requires.among;
      bodies = fitting (bodies_view c.change.new.bodies.items) slots wanted c.args.changes.items (bodies_view b.bodies.items)
          (c.change.ensures ∙ ap (changed_bodies c.args.changes.items) bodies) cut (rw (← c.self.view_is) at c.requires.within);
      opened = open_all c.args.needed c.write.new.flags.items slots wanted c.write.ensures (c.requires.needed ∙ sym many) cut;
      flagged = c.write-2.ensures;
      filled_needed = rw c.clear.ensures.items (All-nil (λ n. get_or c.args.needed n false ≡ true));
      within = empty_within _ slots wanted cut;
      counted = c.count-self-inside.ensures ∙ sym (count_empty MatchRef wanted wanted refl) ∙ ap (count_remaining wanted) (sym cut);
      listed = rw c.clear.ensures.items (empty_listed slots wanted cut);
      before = omega arith;
      ordered = λ t. rising_nothing c.clear.new.self.items c.clear.ensures.items;
    }

pub returns-clause-ok : goal.returns-clause-ok
returns-clause-ok c =
    let b = c.self.inside in
    let wanted = c.args.wanted in
    let slots = c.resize-2.new.self.items in
    let cut = empty_resized c.make_room.new.elements.items c.empty.new.slots.items slots
    (vec_len c.empty.new.slots) c.len-count.result wanted c.len-count.ensures
    (omega arith) c.empty.ensures.items (rw c.unwrap.ensures at c.resize-2.ensures.items) in
    let bodies = c.in_ok-resize.ensures.ok ∙ ap (λ n. sized_bodies n (bodies_view b.bodies.items)) c.len-count.ensures in
    grind (arith, empty_seen, cut, bodies)

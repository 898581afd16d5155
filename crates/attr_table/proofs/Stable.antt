-- What a stable table has.
use Rattle.std.proofs.Common.{arith, ◌≡◌, ℕ, ◌⊎◌, Option, Some, None, refl, inl, inr, ⊎_elim, true, false}
use Rattle.std.specs.Prelude.{option_map, option_and_then, slice_get, is_some}
use Rattle.std.proofs.lemmas.Option.{MatchOption-at_some, MatchOption-at_none}
use Rattle.attr_table.specs.Setting.{Set, Item, Line, Origin, Setting, Answer}
use Rattle.attr_table.specs.Table.{Occurrence, Root, Inside, Table, Slots, line_at, item_at, IsEarlier, IsReached, IsLive, IsEarliest, IsStable}
use Rattle.attr_table.specs.Cut.{origin_at, cause_at, answer_of, answer_at}
use Rattle.attr_table.proofs.Order.{Below}

pub some_value : {X : Type 0} (o : Option X) → is_some o ≡ true → (x : X) × (o ≡ Some x)
some_value o e = grind arith

pub none_value : {X : Type 0} (o : Option X) → is_some o ≡ false → o ≡ None
none_value o e = grind arith

pub some_or_none : {X : Type 0} (o : Option X) → ((x : X) × (o ≡ Some x)) ⊎ (o ≡ None)
some_or_none None = inr refl
some_or_none (Some x) = inl (x, refl)

-- an occurrence with an item has a line
pub origin_of : (s : Setting) (o : Occurrence) (i : Item) → item_at s o ≡ Some i →
    (origin : Origin) × (origin_at s o ≡ Some origin)
origin_of s (Root list line item) i e = go (line_at s list line) e
  where
    go : (l : Option Line) → option_and_then (λ l. slice_get l.items item) l ≡ Some i →
        (origin : Origin) × (option_map (λ l. l.origin) l ≡ Some origin)
    go None d = absurd (cc)
    go (Some l) d = (l.origin, refl)
origin_of s (Inside parent index) i e = grind (arith, some_or_none, origin_of s parent)

pub answered : (s : Setting) (o : Occurrence) (i : Item) → item_at s o ≡ Some i →
    (x : Answer) × (answer_at s o ≡ Some x)
answered s o i e =
    let r = origin_of s o i e in
    let d = r.1 in
    (answer_of s.bodies r.0 i (cause_at s o), rw (d, e) refl)

module _ (s : Setting) (start : Slots) (table : Table) (stable : IsStable s start table) where
  pub stable_free : (a : ℕ) → start a ≡ None → IsEarliest s table a (table a)
  stable_free a e = MatchOption-at_none (IsEarliest s table a (table a)) (λ answer. table a ≡ None) e (stable a)

  pub stable_taken : (a : ℕ) (x : Answer) → start a ≡ Some x → table a ≡ None
  stable_taken a x e = MatchOption-at_some (IsEarliest s table a (table a)) (λ answer. table a ≡ None) x e (stable a)

  -- an attribute with an entry had no answer at the start
  pub entry_free : (a : ℕ) (o : Occurrence) → table a ≡ Some o → start a ≡ None
  entry_free a o e = grind (arith, stable_taken, some_or_none)

  -- an entry is the earliest of its live occurrences
  pub entry_is : (a : ℕ) (o : Occurrence) → table a ≡ Some o → IsEarliest s table a (Some o)
  entry_is a o e = rw e at (stable_free a (entry_free a o e))

  -- an attribute with no answer at the start has an entry not later than each live occurrence
  pub entry_of : (a : ℕ) (o : Occurrence) (i : Item) → start a ≡ None → IsLive s table o i → i.attribute ≡ a →
      (p : Occurrence) × (table a ≡ Some p) × ((p ≡ o) ⊎ IsEarlier p o)
  entry_of a o i free live e =
      ⊎_elim
      (λ (r : (p : Occurrence) × (table a ≡ Some p)).
      (r.0, r.1, (entry_is a r.0 r.1).1 o i live e))
      (λ (n : table a ≡ None). grind (arith, stable_free))
      (some_or_none (table a))

  -- each parent of a live occurrence is an entry, and sets its attribute
  pub above_live : (o p : Occurrence) → IsReached s table p → Below o p →
      (i : Item) × IsLive s table o i × (i.state ≡ Set) × (table i.attribute ≡ Some o)
  above_live o (Root list line item) h b = absurd b
  above_live o (Inside parent index) h b = grind (arith, entry_is, above_live o parent)

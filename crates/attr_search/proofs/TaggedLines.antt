-- A search whose lines are told apart by tags in place of their origins.
use Rattle.std.proofs.Common.{◌≡◌, ℕ, zero, suc, ◌+◌, ◌-◌, ◌^◌, ◌≤◌, ⊎_elim, min, true, false, List, [], ◌∷◌, ◌++◌, length, map}
use Rattle.std.proofs.Common.{Option, Some, None, refl, sym, ap, subst, ◌∙◌, arith}
use Rattle.std.specs.Prelude.{is_some, MatchOption, ⊤, Contains, slice_get, option_map}
use Rattle.std.specs.List.{flat_map}
use Rattle.std.proofs.lemmas.Bool.{cases_eq, eq-eqb}
use Rattle.std.proofs.lemmas.List.{map-append, append-nil}
use Rattle.std.proofs.lemmas.Grind.{flat_map-append}
use Rattle.attr_wildmatch.proofs.ForCallers.{by_test}
use Rattle.attr_table.specs.Setting.{Item, Origin, Line, Setting}
use Rattle.attr_table.specs.Table.{Occurrence, Root, Inside, Table, Slots, line_at, item_at, IsEarliest, IsStable}
use Rattle.attr_table.specs.Cut.{is_done, origin_at, answer_at, IsCut, IsCutAt}
use Rattle.attr_table.specs.shared.Walk.{Task, Walks, ends, stops, skips, fills, tasks_in, line_tasks, list_tasks, tasks_of, opened, fill}
use Rattle.attr_table.proofs.ForCallers.{some_or_none, entry_is, none_value, fill_other, then_walks, walked_searched, OneTable-of}
use Rattle.attr_search.specs.SearchContents.{SearchContents}
use Rattle.attr_search.specs.shared.SlotContents.{open_slots}
use Rattle.attr_search.specs.inner.Lines.{list_rounds, rounds_of}
use Rattle.attr_search.specs.inner.Searched.{Rounds, over, round}
use Rattle.attr_search.specs.Roots.{root_line, RootsAtMost}

-- a task with a tag
retag : Origin → Task → Task
retag g t = record { origin = g; item = t.item; cause = t.cause }

-- the same slots are filled
abbrev Alike : Slots → Slots → Type 0
Alike x y = (a : ℕ) → is_some (x a) ≡ is_some (y a)

done_alike : (wanted : List ℕ) (x y : Slots) → Alike x y → is_done wanted x ≡ is_done wanted y
done_alike [] x y same = refl
done_alike (w ∷ wanted) x y same = grind (arith, done_alike wanted x y same)

fill_alike : (bodies : List (List Item)) (g : Origin) (t : Task) (x y : Slots) → Alike x y → Alike (fill bodies (retag g t) x) (fill bodies t y)
unfolding retag
fill_alike bodies g t x y same a = grind arith

retag-tasks : (g origin : Origin) (cause : Option ℕ) (items : List Item) → map (retag g) (tasks_in origin cause items) ≡ tasks_in g cause items
unfolding retag
retag-tasks g origin cause [] = refl
retag-tasks g origin cause (i ∷ items) = grind (arith, map-append, retag, retag-tasks g origin cause items)

retag-opened : (bodies : List (List Item)) (g : Origin) (t : Task) → map (retag g) (opened bodies t) ≡ opened bodies (retag g t)
unfolding retag
retag-opened bodies g t = grind (arith, retag-tasks)

-- a walk over tasks of one tag
record Retagged (g : Origin) (bodies : List (List Item)) (wanted : List ℕ) (ts : List Task) (before after : Slots) : Type 0 where
  final : Slots
  walks : Walks bodies (is_done wanted) (map (retag g) ts) before final
  alike : Alike final after
  kept : (a : ℕ) → is_some (before a) ≡ true → final a ≡ before a
  tagged : (a : ℕ) → before a ≡ None → MatchOption (final a) ⊤ (λ x. x.origin ≡ g)

retagged : (g : Origin) (bodies : List (List Item)) (wanted : List ℕ) {ts : List Task} {slots after : Slots} →
    Walks bodies (is_done wanted) ts slots after → (before : Slots) → Alike before slots → Retagged g bodies wanted ts before after
unfolding retag
retagged g bodies wanted ends before same =
    record { final = before; walks = ends; alike = same; kept = λ a e. refl; tagged = λ a e. rw e tt }
retagged g bodies wanted (stops {slots = slots} d) before same =
    record {
      final = before;
      walks = stops (done_alike wanted before slots same ∙ d);
      alike = same;
      kept = λ a e. refl;
      tagged = λ a e. rw e tt;
    }
retagged g bodies wanted (skips {t = t} f w) before same =
    let r = retagged g bodies wanted w before same in
    record {
      final = r.final;
      walks = skips (same t.item.attribute ∙ f) r.walks;
      alike = r.alike;
      kept = r.kept;
      tagged = r.tagged;
    }
retagged g bodies wanted (fills {t = t} {ts = ts} {slots = slots} d f w) before same =
    let u = retag g t in
    let next = fill bodies u before in
    let r = retagged g bodies wanted w next (fill_alike bodies g t before slots same) in
    let empty : is_some (before t.item.attribute) ≡ false = same t.item.attribute ∙ f in
    record {
      final = r.final;
      walks = fills (done_alike wanted before slots same ∙ d) empty
          (subst (λ us. Walks bodies (is_done wanted) us next r.final)
          (map-append (retag g) (opened bodies t) ts ∙ ap (λ us. us ++ map (retag g) ts) (retag-opened bodies g t)) r.walks);
      alike = r.alike;
      kept = λ a e. grind (arith, fill_other);
      tagged = λ a e. grind (arith, eq-eqb, fill_other, cases_eq);
    }

-- a line's tag: its list and its index there
tag_of : ℕ × ℕ → Origin
tag_of t = record { text = []; mode = t.0; wildcard = None; source = None; line = t.1 }

abbrev tagged_tasks : List ((ℕ × ℕ) × List Task) → List Task
tagged_tasks lines = flat_map (λ l. map (retag (tag_of l.0)) l.1) lines

record Chained (bodies : List (List Item)) (wanted : List ℕ) (gs : List ((ℕ × ℕ) × List Task)) (before after : Slots) (a b : ℕ) : Type 0 where
  final : Slots
  walks : Walks bodies (is_done wanted) (tagged_tasks gs) before final
  alike : Alike final after
  kept : (x : ℕ) → is_some (before x) ≡ true → final x ≡ before x
  lines : List (ℕ × ℕ)
  counted : min (a + length lines) (2 ^ 128 - 1) ≤ b
  known : (x : ℕ) → before x ≡ None → is_some (final x) ≡ true →
      (t : ℕ × ℕ) × Contains lines t × MatchOption (final x) ⊤ (λ v. v.origin ≡ tag_of t)

chained : (bodies : List (List Item)) (wanted : List ℕ) (gs : List ((ℕ × ℕ) × List Task)) {first second : SearchContents} →
    Rounds bodies wanted (map (λ g. g.1) gs) first second → (before : Slots) → Alike before (open_slots first) →
    Chained bodies wanted gs before (open_slots second) first.tested second.tested
chained bodies wanted [] over before same =
    record {
      final = before;
      walks = ends;
      alike = same;
      kept = λ x e. refl;
      lines = [];
      counted = omega arith;
      known = λ x none some. let e : false ≡ true = rw none at some in absurd (cc);
    }
chained bodies wanted (g ∷ gs) (round {before = first} {middle = middle} line rest) before same =
    let le = line.counted in
    let r = retagged (tag_of g.0) bodies wanted line.searches.walks before same in
    let s = chained bodies wanted gs rest r.final r.alike in
    let walks = then_walks bodies (is_done wanted) (map (retag (tag_of g.0)) g.1) (tagged_tasks gs) before r.final s.final r.walks s.walks in
    let kept : (x : ℕ) → is_some (before x) ≡ true → s.final x ≡ before x =
    λ x e. let h = r.kept x e in s.kept x (ap (λ v. is_some v) h ∙ e) ∙ h in
    ⊎_elim
    (λ (unchanged : open_slots middle ≡ open_slots first). record {
      final = s.final;
      walks = walks;
      alike = s.alike;
      kept = kept;
      lines = s.lines;
      counted = let h = s.counted in omega arith;
      known = λ x none some.
          let empty : is_some (r.final x) ≡ false =
          r.alike x ∙ (ap (λ (v : Slots). is_some (v x)) unchanged ∙ (sym (same x) ∙ ap (λ v. is_some v) none)) in
          s.known x (none_value (r.final x) empty) some;
    })
    (λ (up : min (first.tested + 1) (2 ^ 128 - 1) ≤ middle.tested). record {
      final = s.final;
      walks = walks;
      alike = s.alike;
      kept = kept;
      lines = g.0 ∷ s.lines;
      counted = let h = s.counted in omega arith;
      known = λ x none some.
          by_test (is_some (r.final x))
          (λ t. (g.0, (0, omega arith, refl), rw (s.kept x t) (r.tagged x none)))
          (λ f. let k = s.known x (none_value (r.final x) f) some in (k.0, (suc k.1.0, (let lt = k.1.1 in omega arith), k.1.2), k.2));
    })
    line.changed

-- the lines of a setting, each with its list and its index there
line_groups : ℕ → ℕ → List Line → List ((ℕ × ℕ) × List Task)
line_groups i j [] = []
line_groups i j (l ∷ lines) = line_groups i (suc j) lines ++ ((i, j), line_tasks l) ∷ []

list_groups : ℕ → List (List Line) → List ((ℕ × ℕ) × List Task)
list_groups i [] = []
list_groups i (lines ∷ lists) = list_groups (suc i) lists ++ line_groups i 0 lines

tagged_line : ℕ × ℕ → Line → Line
tagged_line t l = record { origin = tag_of t; items = l.items }

tagged_lines : ℕ → ℕ → List Line → List Line
tagged_lines i j [] = []
tagged_lines i j (l ∷ lines) = tagged_line (i, j) l ∷ tagged_lines i (suc j) lines

tagged_lists : ℕ → List (List Line) → List (List Line)
tagged_lists i [] = []
tagged_lists i (lines ∷ lists) = tagged_lines i 0 lines ∷ tagged_lists (suc i) lists

tagged_setting : Setting → Setting
tagged_setting s = record { lists = tagged_lists 0 s.lists; bodies = s.bodies }

groups_plain : (i j : ℕ) (lines : List Line) → map (λ g. g.1) (line_groups i j lines) ≡ list_rounds lines
unfolding line_groups
groups_plain i j [] = refl
groups_plain i j (l ∷ lines) = grind (arith, map-append, groups_plain i (suc j) lines)

lists_plain : (i : ℕ) (lists : List (List Line)) → map (λ g. g.1) (list_groups i lists) ≡ rounds_of lists
unfolding list_groups
lists_plain i [] = refl
lists_plain i (lines ∷ lists) = grind (arith, map-append, groups_plain, lists_plain (suc i) lists)

groups_tagged : (i j : ℕ) (lines : List Line) → tagged_tasks (line_groups i j lines) ≡ list_tasks (tagged_lines i j lines)
unfolding line_groups tagged_lines tagged_line
groups_tagged i j [] = refl
groups_tagged i j (l ∷ lines) = grind (arith, flat_map-append, retag, tag_of, append-nil, retag-tasks, groups_tagged i (suc j) lines)

lists_tagged : (i : ℕ) (lists : List (List Line)) → tagged_tasks (list_groups i lists) ≡ tasks_of (tagged_lists i lists)
unfolding list_groups tagged_lists
lists_tagged i [] = refl
lists_tagged i (lines ∷ lists) = grind (arith, flat_map-append, retag, tag_of, groups_tagged, lists_tagged (suc i) lists)

-- what is read at an index of the tagged setting
line_in : (i j k n : ℕ) (lines : List Line) → n ≡ j + k → slice_get (tagged_lines i j lines) k ≡ option_map (tagged_line (i, n)) (slice_get lines k)
unfolding tagged_lines
line_in i j k n [] e = refl
line_in i j zero n (l ∷ lines) e = let h : j ≡ n = omega arith in ap (λ m. Some (tagged_line (i, m) l)) h
line_in i j (suc k) n (l ∷ lines) e = line_in i (suc j) k n lines (omega arith)

lines_in : (i k n : ℕ) (lists : List (List Line)) → n ≡ i + k → slice_get (tagged_lists i lists) k ≡ option_map (tagged_lines n 0) (slice_get lists k)
unfolding tagged_lists
lines_in i k n [] e = refl
lines_in i zero n (lines ∷ lists) e = let h : i ≡ n = omega arith in ap (λ m. Some (tagged_lines m 0 lines)) h
lines_in i (suc k) n (lines ∷ lists) e = lines_in (suc i) k n lists (omega arith)

tagged_line_at : (s : Setting) (i j : ℕ) → line_at (tagged_setting s) i j ≡ option_map (tagged_line (i, j)) (line_at s i j)
unfolding tagged_setting
tagged_line_at s i j = grind (arith, lines_in, tagged_line, line_in)

same_item : (s : Setting) (o : Occurrence) → item_at (tagged_setting s) o ≡ item_at s o
unfolding tagged_setting tagged_line
same_item s (Root i j k) = grind (arith, tagged_line_at, tagged_line)
same_item s (Inside parent index) = grind (arith, same_item s parent)

tagged_origin : (s : Setting) (o : Occurrence) (i : Item) → item_at s o ≡ Some i → origin_at (tagged_setting s) o ≡ Some (tag_of (root_line o))
unfolding tagged_line
tagged_origin s (Root i j k) x e = grind (arith, tagged_line_at, tagged_line, tag_of)
tagged_origin s (Inside parent index) x e = grind (arith, some_or_none, tagged_origin s parent)

earliest_there : (s : Setting) (table : Table) (a : ℕ) (entry : Option Occurrence) → IsEarliest s table a entry →
    IsEarliest (tagged_setting s) table a entry
earliest_there s table a entry h = grind (arith, same_item)

stable_there : (s : Setting) (start : Slots) (table : Table) → IsStable s start table → IsStable (tagged_setting s) start table
stable_there s start table stable a = grind (arith, tagged_setting, earliest_there)

-- an entry's slot is filled at the line where its root stands
root_is : (s : Setting) (start final : Slots) (table : Table) (wanted : List ℕ) (a : ℕ) (o : Occurrence) (t : ℕ × ℕ) → IsStable s start table →
    IsCut (tagged_setting s) start table wanted final → table a ≡ Some o → start a ≡ None → is_some (final a) ≡ true →
    MatchOption (final a) ⊤ (λ v. v.origin ≡ tag_of t) → (t.0 ≡ (root_line o).0) × (t.1 ≡ (root_line o).1)
unfolding tag_of
root_is s start final table wanted a o t stable cut e free some tagged =
    let entry = (entry_is s start table stable a o e).0 in
    let item : item_at (tagged_setting s) o ≡ Some entry.0 = same_item s o ∙ entry.1.item in
    let origin = tagged_origin s o entry.0 entry.1.item in
    let here : IsCutAt (tagged_setting s) start table wanted (Some o) (final a) = rw (free, e) at (cut a) in
    let shown : (final a ≡ answer_at (tagged_setting s) o) → tag_of (root_line o) ≡ tag_of t =
    λ f. let g = rw (origin, item) at f in rw g at tagged in
    let apart : (tag_of (root_line o) ≡ tag_of t → ⊥) → ⊥ =
    λ ne. let gone : final a ≡ None = here.1 (λ k. ne (shown (here.0 k))) in
    let x : false ≡ true = rw gone at some in absurd (cc) in (
      grind (arith, ⊎_elim, cases_eq),
      grind (arith, ⊎_elim, cases_eq),
    )

pair_is : (t u : ℕ × ℕ) → t.0 ≡ u.0 → t.1 ≡ u.1 → t ≡ u
pair_is t u e f = ap (λ (x : ℕ). (x, t.1)) e ∙ ap (λ (y : ℕ). (u.0, y)) f

pub roots_most : (s : Setting) (wanted : List ℕ) (before after : SearchContents) (table : Table) → IsStable s (open_slots before) table →
    before.tested ≡ 0 → Rounds s.bodies wanted (rounds_of s.lists) before after →
    RootsAtMost table (open_slots before) (open_slots after) after.tested
unfolding tagged_setting
roots_most s wanted before after table stable none rounds =
    let start = open_slots before in
    let gs = list_groups 0 s.lists in
    let c = chained s.bodies wanted gs
    (rw (← lists_plain 0 s.lists) at rounds) start (λ a. refl) in
    let tagged = tagged_setting s in
    let walks : Walks s.bodies (is_done wanted) (tasks_of tagged.lists) start c.final =
    subst (λ ts. Walks s.bodies (is_done wanted) ts start c.final) (lists_tagged 0 s.lists) c.walks in
    let searched = walked_searched tagged wanted start c.final walks in
    let one = OneTable-of tagged start in
    let same : searched.0 ≡ table = one.2 searched.0 searched.1 ∙ sym (one.2 table (stable_there s start table stable)) in
    let cut : IsCut tagged start table wanted c.final =
    subst (λ (t : Table). IsCut tagged start t wanted c.final) same searched.2 in (
      c.lines,
      let h = c.counted in omega (arith, none),
      λ a o e free some.
          let filled : is_some (c.final a) ≡ true = c.alike a ∙ some in
          let k = c.known a free filled in
          let at = root_is s start c.final table wanted a o k.0 stable cut e free filled k.2 in
          subst (λ (t : ℕ × ℕ). Contains c.lines t) (pair_is k.0 (root_line o) at.0 at.1) k.1,
    )

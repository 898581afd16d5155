use Rattle.std.proofs.Common.{◌≡◌, ◌<◌, ◌≤◌, ℕ, Bool, Vec, Global, false, ap, arith, get_or, length, length-append, length-take, sym, ◌∙◌, inl}
use Rattle.std.specs.Vec.{vec_len}
use Rattle.std.proofs.lemmas.Bool.{cases_lt}
use Rattle.std.proofs.lemmas.List.{length-replicate}
use Rattle.attr_search.proofs.OpenLemmas.{flag_resized}
use Rattle.attr_search.proofs.WantedLemmas.{IsBase, after_set, base_cleared, base_set, beq_same, flag_at, length_flags, written_flags}
use Rattle.attr_search.proofs.wanted.WantedFlags.write.Goals as goal
use Rattle.attr_search.proofs.wanted.WantedFlags.write.Goals.{then-self-before, else-self-before, then-not-self, else-not-self}

pub unwrap-requires : goal.unwrap-requires
unwrap-requires c =
    let count : length c.args.self.now ≡ c.self.inside.len = sym (ap length c.self.view_is) ∙ length_flags c.self.inside in
    grind (arith, count, c.requires.room)

pub returns : goal.returns
returns c =
    let w = c.self.inside in
    let v = c.before-2.inside in
    let flags = c.loop-number.flags.items in
    let start = c.if-self-before.start in
    let resized = c.resize.new.self.items in
    let sized = rw c.unwrap.ensures at c.resize.ensures.items in
    let kept : (a : ℕ) → a < w.len → a < length c.args.flags.now.items → get_or resized a false ≡ get_or c.args.flags.now.items a false =
    λ a lt within. flag_resized c.args.flags.now.items resized (vec_len c.args.flags.now) w.len a (omega arith) sized lt within in
    let long : length flags ≡ w.len = grind (arith, c.loop-number.invariant.same_length, sized, length-take, length-append, length-replicate) in
    let late : (a : ℕ) → start ≤ a → a < length flags → get_or flags a false ≡ w.all =
    λ a le lt. c.loop-number.invariant.written a le (omega (arith, c.loop-number.invariant.same_length)) in
    let base : (a : ℕ) → a < length flags → IsBase w v a (get_or flags a false) = λ a lt.
    elim c.if-self-before.branch [
      | then-self-before s ↦ grind (arith, beq_same, length_flags, flag_at, cases_lt, kept, c.requires.before)
      | else-self-before s ↦ inl (late a (omega (arith, s.start-is)) lt)
    ] in
    elim c.if-not-self.branch [
      | then-not-self s ↦
          let same = ap (λ (l : Vec Bool Global). l.items) s.flags-is in
          let count : length c.if-not-self.flags.items ≡ w.len = ap length same ∙ s.set_each.ensures.len ∙ long in
          written_flags w c.set_each-2.new.flags.items (c.set_each-2.ensures.len ∙ count)
          (λ a lt. grind (arith, after_set, base_cleared)) ∙ c.self.view_is
      | else-not-self s ↦ grind (arith, written_flags, after_set, base_set)
    ]

use Rattle.std.proofs.lemmas.Bool.Decides.{nat_tests}
use Rattle.std.proofs.Common.{◌≡◌, ◌≤◌, ◌<◌, ◌+◌, ℕ, false, [], ◌∷◌, length, get_or, drop, arith, ap, sym, ◌∙◌, add-one, drop-cons}
use Rattle.std.proofs.lemmas.List.{drop_all}
use Rattle.attr_wildmatch.specs.TokenList.{tokens_of}
use Rattle.attr_wildmatch.specs.inner.RowIndexes.{IsSettled}
use Rattle.attr_wildmatch.proofs.TokenLemmas.{length_of_tokens}
use Rattle.attr_wildmatch.proofs.RowLemmas.{silent, empty_row, settled-none, settled-grown, settled-skip, settled-next, first_of_indexes, FirstOf}
use Rattle.attr_wildmatch.proofs.RowLemmas.{none_of_indexes}
use Rattle.attr_wildmatch.proofs.wildmatch.Step.next_row.Goals as goal

pub loop-reached-init : goal.loop-reached-init
loop-reached-init c =
    let step = c.args.self.now in
    let cleared : c.clear.new.self.items ≡ [] = c.clear.ensures.items in
    let none : length c.clear.new.self.items ≡ 0 = ap length cleared in (
      omega arith,
      omega arith,
      omega (arith, c.clear.ensures.capacity),
      (λ most a. omega arith),
      (λ fresh alive before steps first e. grind (arith, nat_tests, empty_row, settled-none)),
    )

pub loop-reached-preserved : goal.loop-reached-preserved
loop-reached-preserved c =
    let inv = c.loop-reached.invariant in
    let step = c.args.self.now in
    let i = c.loop-reached.reached-index in
    let row = c.args.row.now in
    let q = get_or row i 0 in
    let ts = tokens_of step.tokens.now in
    let inside : i < length row = omega arith in
    let kept = c.stay-kept.result in
    let stayed = c.stay-kept.ensures.extended in
    let advanced = c.advance-free.ensures.extended in
    let split : drop i row ≡ q ∷ drop (i + 1) row = drop-cons row i 0 inside ∙ ap (λ x. q ∷ drop x row) (sym (add-one i)) in (
      advanced.bound (stayed.bound inv.0),
      advanced.short,
      omega (arith, inv.2, stayed.capacity, advanced.capacity),
      (λ most a.
          let here : q < most = a i 0 inside in
          advanced.reached most (omega arith) (stayed.reached most (omega arith) (inv.3 most a))),
      (λ fresh alive before steps first e.
          let known = inv.4 fresh alive before steps first e in
          let f : FirstOf before known.0 known.1 q (drop (i + 1) row) = grind (arith, nat_tests, first_of_indexes) in
          let settled : IsSettled step.case ts step.byte before q c.loop-reached.free = settled-skip q known.5 f.none in
          let kept_row = c.stay-kept.ensures.row fresh alive before
          (record { step = steps; first = λ x. first; row_is = known.4; settled = settled }) f.passes (omega (arith, f.end, known.2)) in
          let settled_kept : IsSettled step.case ts step.byte before q kept = settled-grown kept settled stayed.grown in
          let grown : kept ≤ c.advance-free.result = advanced.grown in (
            q + 1,
            f.left,
            omega (arith, f.end, known.2),
            f.others_are,
            c.advance-free.ensures.row fresh alive before
                (record { step = steps; first = λ x. first; row_is = kept_row; settled = settled_kept }) f.passes c.stay-kept.ensures.stayed,
            settled-next (settled-grown c.advance-free.result settled_kept grown)
                (λ t. let z : q < kept = c.stay-kept.ensures.stayed.stay t in omega arith)
                (λ t. let z : q < kept = c.stay-kept.ensures.stayed.directory t in omega arith)
                c.advance-free.ensures.advanced,
          )),
    )

pub returns-clause-row : goal.returns-clause-row
returns-clause-row c =
    λ fresh alive before steps first e.
    let known = c.loop-reached.invariant.4 fresh alive before steps first e in
    let same = length_of_tokens c.args.self.now.tokens.now in
    let nothing : drop c.loop-reached.reached-index c.args.row.now ≡ [] = drop_all c.loop-reached.reached-index c.args.row.now (omega arith) in
    let none : (k : ℕ) → known.0 ≤ k → k < known.0 + known.1 → before k ≡ false =
    none_of_indexes before known.1 known.0 (sym nothing ∙ known.3) in
    let n = length c.args.self.now.tokens.now in
    let all = settled-skip (n + 1) known.5 (λ k l m. none k l (omega (arith, known.2))) in
    (known.4, silent (record { step = steps; first = λ x. first; row_is = known.4; settled = all }) (omega arith))

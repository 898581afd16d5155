use Rattle.std.proofs.Common.{append-nil, ◌≡◌, ℕ, ◌+◌, ◌-◌, List, [], ◌∷◌, ◌++◌, map, vec_len, sym, arith}
use Rattle.check_attr.proofs.ScriptLemmas.{text_lines-step, text_lines-more}
use Rattle.std.proofs.lemmas.Bool.Decides.{nat_tests}
use Rattle.std.specs.Borrow.{Bor}
use Rattle.std.proofs.lemmas.List.{map-append}
use Rattle.check_attr.proofs.script.text_lines.Goals as goal

pub loop-rest-preserved : goal.loop-rest-preserved
loop-rest-preserved c =
    let old = c.loop-rest.lines in
    let new = c.push.new.self in
    let now : Bor (List ℕ) → List ℕ = λ line. line.now in
    let more : map now new.items ≡ map now old.items ++ now c.in-Some.line ∷ [] = grind (arith, nat_tests, map-append, c.in_ok-push.ensures.items) in
    let longer : vec_len new ≡ vec_len old + 1 = c.in_ok-push.ensures.len in
    record {
      within = omega (arith, longer);
      read = text_lines-more _ (map now old.items) (map now new.items) (now c.in-Some.line) (c.args.count - vec_len old) (c.args.count - vec_len new)
          c.loop-rest.rest.now c.in-Some.others.now
          (omega arith) (omega (arith, longer)) c.loop-rest.invariant.read (sym c.in-Some.ensures) more;
    }

pub returns-in_default : goal.returns-in_default
returns-in_default c = grind (arith, nat_tests, text_lines-step, vec_len)

pub returns : goal.returns
returns c = grind (arith, nat_tests, append-nil, vec_len, c.loop-rest.invariant.read)

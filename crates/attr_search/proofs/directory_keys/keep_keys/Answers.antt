use Rattle.std.proofs.Common.{List, ℕ, length, sym, subst, ◌∙◌, arith}
use Rattle.std.specs.Cmp.Lexicographic.{bytes_decides}
use Rattle.attr_search.specs.inner.DirectoryKeys.{HasKeysBelow}
use Rattle.attr_search.proofs.DirectoryLemmas.{keys_of_text}
use Rattle.attr_search.proofs.directory_keys.keep_keys.Goals as goal

pub returns-then-eq-clause-read : goal.returns-then-eq-clause-read
returns-then-eq-clause-read c =
    let next = c.directory_of-next.result.now in
    let same = sym c.as_slice.ensures.value ∙ (bytes_decides c.as_slice.result.now next).0 (sym c.eq.ensures ∙ c.if-eq.true) in
    keys_of_text c.args.text.now next c.args.keys.now.items c.directory_of-next.ensures
    (subst (λ (bytes : List ℕ). HasKeysBelow bytes (length bytes) c.args.keys.now.items) same c.requires.known)

pub returns-clause-read : goal.returns-clause-read
returns-clause-read c =
    let has = keys_of_text c.args.text.now c.directory_of-next.result.now c.append_keys.new.keys.items c.directory_of-next.ensures
    c.in_ok-append_keys.ensures in
    grind (arith, has)

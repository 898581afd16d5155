use Rattle.std.proofs.Common.{◌≡◌, map, take}
use Rattle.yektrod.proofs.questions.names_of.Given as goal

-- the texts are those of the names so far
abbrev pub invariant-loop-name : goal.invariant-loop-name
invariant-loop-name l = map (λ text. text.now) l.texts.items ≡ map (λ name. name.now) (take l.name-index l.names)

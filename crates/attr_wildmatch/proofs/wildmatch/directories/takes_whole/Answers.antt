use Rattle.std.proofs.Common.{◌∷◌, [], not, length, sym, ap, ◌∙◌}
use Rattle.std.proofs.lemmas.Bool.{eqb-false}
use Rattle.attr_wildmatch.specs.TokenList.{token_of}
use Rattle.attr_wildmatch.specs.Deciding.{matches}
use Rattle.attr_wildmatch.proofs.Directories.{star_alone, rest_alone, dirs_alone}
use Rattle.attr_wildmatch.proofs.wildmatch.directories.takes_whole.Goals as goal

pub returns-in-Star : goal.returns-in-Star
returns-in-Star c = λ case.
    ap not c.has_slash.ensures ∙ (sym (star_alone case c.args.value.now) ∙ ap (λ t. matches case (token_of t ∷ []) c.args.value.now)
    (sym c.in-Star.is))

pub returns-else-is_empty : goal.returns-else-is_empty
returns-else-is_empty c = λ case.
    c.ends_in_slash.ensures
    ∙ (sym (dirs_alone case c.args.value.now (eqb-false (length c.args.value.now) 0 (sym c.is_empty.ensures ∙ c.if-is_empty.false)))
    ∙ ap (λ t. matches case (token_of t ∷ []) c.args.value.now) (sym c.in-Dirs.is))

pub returns-in-Rest : goal.returns-in-Rest
returns-in-Rest c = λ case.
    sym (rest_alone case c.args.value.now) ∙ ap (λ t. matches case (token_of t ∷ []) c.args.value.now) (sym c.in-Rest.is)

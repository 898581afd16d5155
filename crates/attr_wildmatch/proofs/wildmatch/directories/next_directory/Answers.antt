use Rattle.std.proofs.Common.{sym, ap, ◌∙◌}
use Rattle.attr_wildmatch.specs.TokenList.{tokens_of}
use Rattle.attr_wildmatch.specs.Deciding.{matches}
use Rattle.attr_wildmatch.proofs.FirstBytes.{goes_on, on_slash, on_start}
use Rattle.attr_wildmatch.proofs.wildmatch.directories.next_directory.Goals.{in-Some, in-None}
use Rattle.attr_wildmatch.proofs.wildmatch.directories.next_directory.Goals as goal

pub returns-clause-next : goal.returns-clause-next
returns-clause-next c =
    let f = matches c.args.case (tokens_of c.args.tokens.now) in
    elim c.match-first_byte.branch [
      | in-Some w ↦ on_start c.args.case w.in-Some.byte (tokens_of c.args.tokens.now) c.args.value.now w.in-Some.ensures
          ∙ ap (goes_on f) (sym w.from_pair-below.ensures ∙ (ap (λ b. b.now) (sym w.below-is) ∙ c.in_ok-next.ensures.cases.0))
      | in-None w ↦ on_slash f c.args.value.now
          ∙ ap (goes_on f) (sym w.from_byte-below.ensures ∙ (ap (λ b. b.now) (sym w.below-is) ∙ c.in_ok-next.ensures.cases.0))
    ]

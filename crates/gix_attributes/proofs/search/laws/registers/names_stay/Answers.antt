use Rattle.gix_attributes.proofs.KeepingLemmas.{answers_still, bodies_still, covered_still, lists_still}
use Rattle.gix_attributes.proofs.search.laws.registers.names_stay.Goals as goal

pub returns : goal.returns
returns c =
    record {
      lists = λ old new lists more h. lists_still old new more lists h;
      covered = λ old new lists more h. covered_still old new more lists h;
      bodies = λ old new bodies more h. bodies_still old new more bodies h;
      answers = λ old new answers more h. answers_still old new more answers h;
    }

use Rattle.std.proofs.Common.{◌∙◌, ap, length, sym}
use Rattle.attr_search.proofs.WantedLemmas.{length_flags}
use Rattle.attr_search.proofs.wanted.WantedFlags.len.Goals as goal

pub returns : goal.returns
returns c = sym (length_flags c.self.inside) ∙ ap length c.self.view_is

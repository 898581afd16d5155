use Rattle.std.proofs.lemmas.Slice.Eq.{slice_eq-Decides}
use Rattle.gix_attributes.proofs.SelectionLemmas.{tracked_decides}
use Rattle.gix_attributes.proofs.search.selection.is_same.Goals as goal

pub returns : goal.returns
returns c = slice_eq-Decides tracked_decides c.args.body.now c.args.other.now c.eq.result c.eq.ensures

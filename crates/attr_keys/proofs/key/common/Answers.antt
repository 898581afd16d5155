use Rattle.attr_keys.proofs.Cuts.{common_is}
use Rattle.attr_keys.proofs.key.common.Goals as goal

pub returns : goal.returns
returns g c =
    let view = c.args.keys.view in
    let key = c.parts.result in
    let len = c.common_len.ensures in
    common_is view.fold view.from_end c.args.text.now key.0.now c.cut.result.now key.1 _ c.common_len.result
    (c.parts.ensures.codes view.fold view.from_end) len.text len.part len.same len.apart c.requires c.cut.ensures

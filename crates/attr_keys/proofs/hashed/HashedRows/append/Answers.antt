use Rattle.std.proofs.Common.{map}
use Rattle.std.proofs.lemmas.Result.{on_ok_weaker}
use Rattle.attr_keys.proofs.Sought.{all_hashed, then_more}
use Rattle.attr_keys.proofs.hashed.HashedRows.append.Goals as goal

pub returns : goal.returns
returns g c =
    let keys = map g.K.Keyed.content c.args.lines.now in
    let own = then_more c.in_ok-append_bucket.ensures c.in_ok-append_bucket-2.ensures in
    on_ok_weaker c.append_bucket-3.result (λ last.
    let more = then_more own.0 last in
    all_hashed c.args.texts c.args.self.now keys c.in_ok-name.name c.in_ok-end.end c.in_ok-path.path c.args.found.now.items
    c.append_bucket-3.new.found.items c.in_ok-name.ensures c.in_ok-end.ensures c.in_ok-path.ensures
    more.0 (then_more own.1 last).0 more.1)
    c.append_bucket-3.ensures

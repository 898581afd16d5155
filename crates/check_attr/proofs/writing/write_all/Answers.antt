-- The text was written whole before the flush failed.
use Rattle.std.proofs.Common.{arith, rules}
use Rattle.std.proofs.lemmas.Bool.Decides.{nat_tests}
use Rattle.check_attr.proofs.PieceLemmas.{whole_kept}
use Rattle.check_attr.proofs.writing.write_all.Goals as goal

pub returns-in-Err : goal.returns-in-Err
returns-in-Err g c =
    let front = whole_kept (g.W.Push.contents c.args.writer.now) (g.W.Push.contents c.write_bytes.new.writer) (g.W.Push.contents c.flush.new.self)
    c.args.text.now c.in_ok-write_bytes.ensures.ok c.in-Err.ensures.bytes in
    let counts = c.in_ok-write_bytes.ensures.counts in
    record {
      written = record { ok = search rules; front = front; counts = grind (arith, nat_tests, counts); only = search rules };
      flushed = search rules;
    }

-- What was written so far is the front of the text, and no write was counted.
use Rattle.std.proofs.Common.{◌≡◌, ◌≤◌, ◌-◌, length, take}
use Rattle.std.specs.Io.KnownBytes.{Appends}
use Rattle.check_attr.proofs.writing.write_bytes.Given as goal

abbrev pub invariant-loop-written : goal.invariant-loop-written
invariant-loop-written g l = record {
  appended : Appends (g.W.Push.contents l.initial.writer) (g.W.Push.contents l.writer) (take l.written l.text);
  within : l.written ≤ length l.text;
  failed : g.W.Push.failed l.writer ≡ g.W.Push.failed l.initial.writer;
  stalled : g.W.Push.stalled l.writer ≡ g.W.Push.stalled l.initial.writer;
}

abbrev pub decreases-loop-written : goal.decreases-loop-written
decreases-loop-written g l = length l.initial.text - l.written

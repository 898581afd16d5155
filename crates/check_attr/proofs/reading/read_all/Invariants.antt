-- What was read so far is the front of what the reader had, the rest is left in it, and no read was counted.
use Rattle.std.proofs.Common.{◌≡◌, ◌-◌, ◌^◌, vec_len}
use Rattle.std.specs.Io.KnownBytes.{Consumes}
use Rattle.check_attr.proofs.reading.read_all.Given as goal

abbrev pub invariant-loop-count : goal.invariant-loop-count
invariant-loop-count g l = record {
  consumed : Consumes (g.R.Pull.remaining l.initial.reader) (g.R.Pull.remaining l.reader) l.input.items;
  uncounted : g.R.Pull.failed l.reader ≡ g.R.Pull.failed l.initial.reader;
}

abbrev pub decreases-loop-count : goal.decreases-loop-count
decreases-loop-count g l = 2 ^ 64 - vec_len l.input

-- The lines read so far and those that are left to read are together all lines.
use Rattle.std.proofs.Common.{◌≡◌, ◌≤◌, ◌-◌, map, vec_len, option_map}
use Rattle.check_attr.specs.inner.ScriptParts.{text_lines}
use Rattle.check_attr.proofs.ScriptLemmas.{before}
use Rattle.check_attr.proofs.script.text_lines.Given as goal

abbrev pub invariant-loop-rest : goal.invariant-loop-rest
invariant-loop-rest l = record {
  within : vec_len l.lines ≤ l.count;
  read : text_lines l.count l.bytes ≡ option_map (before (map (λ line. line.now) l.lines.items)) (text_lines (l.count - vec_len l.lines) l.rest);
}

abbrev pub decreases-loop-rest : goal.decreases-loop-rest
decreases-loop-rest l = l.count - vec_len l.lines

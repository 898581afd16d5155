use Rattle.std.proofs.Common.{◌∙◌, codes, refl}
use Rattle.std.specs.Fmt.{decimal}
use Rattle.check_attr.proofs.PrintLemmas.{writes_front, writes_then}
use Rattle.check_attr.proofs.command.write_malformed.Goals as goal

pub returns-in_err-write_bytes : goal.returns-in_err-write_bytes
returns-in_err-write_bytes g c =
    writes_front (codes "check_attr: malformed record ") _ refl c.in_err-write_bytes.ensures c.from_residual.ensures.1

pub returns-in_err-write_bytes-2 : goal.returns-in_err-write_bytes-2
returns-in_err-write_bytes-2 g c =
    writes_then (codes "check_attr: malformed record ") _ refl c.in_ok-write_bytes.ensures
    (writes_front (decimal c.args.number) (codes "\n") (c.as_bytes.ensures.value ∙ c.format.ensures.text) c.in_err-write_bytes-2.ensures
    c.from_residual-in_err-write_bytes-2.ensures.1)

pub returns : goal.returns
returns g c =
    writes_then (codes "check_attr: malformed record ") _ refl c.in_ok-write_bytes.ensures
    (writes_then (decimal c.args.number) (codes "\n") (c.as_bytes.ensures.value ∙ c.format.ensures.text) c.in_ok-write_bytes-2.ensures
    c.write_all.ensures)

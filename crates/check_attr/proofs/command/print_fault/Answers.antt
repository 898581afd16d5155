-- The line that was printed is that of the fault.
use Rattle.std.proofs.Common.{arith}
use Rattle.std.proofs.lemmas.Bool.Decides.{nat_tests}
use Rattle.check_attr.proofs.command.print_fault.Goals as goal

pub returns-in-Record : goal.returns-in-Record
returns-in-Record g c = rw c.in-Record.is (grind (arith, nat_tests, c.write_malformed.ensures))

pub returns-in-Read : goal.returns-in-Read
returns-in-Read g c = rw c.in-Read.is c.print.ensures

pub returns-in-Write : goal.returns-in-Write
returns-in-Write g c = rw c.in-Write.is c.print-in-Write.ensures

pub returns-in-OutOfMemory : goal.returns-in-OutOfMemory
returns-in-OutOfMemory g c = rw c.in-OutOfMemory.is c.print-in-OutOfMemory.ensures

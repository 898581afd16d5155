use Rattle.gix_attributes.proofs.OutcomeLemmas.{next_found, nothing_found}
use Rattle.gix_attributes.proofs.search.outcome.Outcome.next_found.Goals as goal

pub returns-in-None : goal.returns-in-None
returns-in-None c = rw (← c.self.view_is) (nothing_found c.self.inside.state.slots.answers c.args.from.0 c.in-None.ensures)

pub returns-in-Some : goal.returns-in-Some
returns-in-Some c = rw (← c.self.view_is) (next_found c.self.inside.state.slots.answers c.args.from.0 c.in-Some.number c.in-Some.ensures)

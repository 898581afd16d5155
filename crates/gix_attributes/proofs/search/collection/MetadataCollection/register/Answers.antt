use Rattle.std.proofs.Common.{subst}
use Rattle.gix_attributes.specs.inner.Registering.{Registers}
use Rattle.gix_attributes.proofs.search.collection.MetadataCollection.register.Goals as goal

pub returns-in-Ok-clause-registered : goal.returns-in-Ok-clause-registered
returns-in-Ok-clause-registered c =
    let ensured = c.in-Ok.ensures in
    subst (λ known. Registers known c.register.new.names c.args.list c.in-Ok.indexed) c.self.view_is (record {
      registered = ensured.registered;
      same = ensured.list;
      holds = ensured.holds;
      sound = ensured.sound;
    })

use Rattle.std.proofs.Common.{subst, sym}
use Rattle.attr_keys.specs.inner.Orders.{AreSorted}
use Rattle.attr_keys.proofs.Gathering.{sorted_for}
use Rattle.attr_keys.proofs.key_index.KeyIndex.rows.Goals as goal
use Rattle.attr_keys.proofs.key_index.KeyIndex.rows.Goals.{in_default-via-in-Some+else-fold, in_default-via-in_default}

pub returns-in-Some-exact : goal.returns-in-Some-exact
returns-in-Some-exact c = λ keys index.
    let at = c.in-Some-exact.is in
    let exact = index.exact c.in-Some-exact.rows at in
    subst (AreSorted c.args.fold keys) (sym c.deref-in-Some-exact.ensures) (elim c.in_default.branch [
      | in_default-via-in-Some+else-fold w ↦ subst (λ f. AreSorted f keys c.in-Some-exact.rows.value) (sym w.if-fold.false) exact
      | in_default-via-in_default w ↦
          sorted_for c.args.fold keys c.in-Some-exact.rows.value (index.lower w.in_default.is c.in-Some-exact.rows at) exact
    ])

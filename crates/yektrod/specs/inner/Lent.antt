-- An engine that a handle lends (own).
use Rattle.std.specs.Borrow.{Lends, MutBor, Fml}
use Rattle.yektrod.specs.SourcedContents.{SourcedContent}
use Rattle.yektrod.specs.contracts.sourced.SourcedEngine as SourcedEngine
use Rattle.yektrod.specs.declared.handle.Handle.{Handle}
use Rattle.yektrod.specs.contracts.handle.Handle.{the_row}

-- the handle holds this in place of what it held
abbrev pub with_held : Handle → SourcedContent → Handle
with_held h w = record h { held = w }

-- the handle ends with the last value of the engine that it lends
abbrev pub LendsEngine : MutBor Handle → MutBor SourcedContent → Fml
LendsEngine h r = Lends the_row SourcedEngine.the_row h r (with_held h.now)

-- What a handle owns: what a box of an engine owns, or nothing (own).
use Rattle.std.specs.Prelude.{Bool, true, false}
use base.Fml.{Fml, ftrue}
use denote.RawPtr.{Ptr}
use Rattle.std.specs.Box.Ownership.{box_owns}
use Rattle.std.specs.Global.{Global}
use Rattle.std_heap.specs.contracts.GlobalAllocator.TheImpl.{ghosts}
use Rattle.yektrod.specs.SourcedContents.{SourcedContent}
use Rattle.yektrod.specs.contracts.sourced.SourcedEngine.{the_row}

abbrev pub handle_owns : Bool → Global → Ptr → SourcedContent → Fml
handle_owns false alloc at content = ftrue
handle_owns true alloc at content = box_owns (ghosts.dealloc_token alloc) the_row at content

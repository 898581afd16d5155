-- A box of an engine as the kit's steps on boxes take it, and the types that a handle is made of.
use mathlib.Core.List.{[]}
use Rattle.gix_attributes.specs.EngineStates.{unasked}
use mir.Syntax.{impl, tnil, dnil}
use denote.Signature.{Slot, plain}
use Rattle.std_alloc.proofs.BoxSteps.Form.{Bx}
use Rattle.std_heap.specs.contracts.Global as Global
use Rattle.std_heap.specs.contracts.GlobalAllocator.TheImpl.{ghosts, dict}
use Rattle.std_heap.proofs.Global.TheLaws as global
use Rattle.yektrod.specs.SourcedContents.{SourcedContent}
use Rattle.yektrod.specs.contracts.sourced.SourcedEngine as SourcedEngine
use Rattle.yektrod.proofs.sourced.SourcedEngine.TheLaws.{the_row_laws}
use Rattle.yektrod.specs.contracts.handle.parts.Parts as Parts
use Rattle.yektrod.specs.contracts.handle.Handle as Handle

abbrev pub engine_box : Bx
engine_box = record {
  row = SourcedEngine.the_row;
  laws = the_row_laws;
  al = record { row = Global.the_row; laws = global.the_row_laws; g = ghosts; d = dict; drops = impl [] tnil dnil };
}

abbrev pub of_parts_type : Slot 0
of_parts_type = plain (λ _. Parts.the_row SourcedEngine.the_row Global.the_row ghosts)

abbrev pub of_handle_type : Slot 0
of_handle_type = plain (λ _. Handle.the_row)

abbrev pub of_global_type : Slot 0
of_global_type = plain (λ _. Global.the_row)

-- what a handle without an engine says that it holds
abbrev pub unheld : SourcedContent
unheld = record { labelled = unasked (record { names = []; lists = []; selection = [] }); sources = [] }

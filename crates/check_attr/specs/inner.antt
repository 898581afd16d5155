-- Relations between inner functions (own). No contract of a public call reaches them, so nothing here has to be believed.
pub mod GlobalsView
pub mod MatchText
pub mod PassedText
pub mod Pieces
pub mod ScriptParts
pub mod ScriptViews
pub mod Whole

-- What contracts of functions of this crate and of those above it name (own). No contract of a public call reaches it, so nothing
-- of it has to be believed.
pub mod Reading
pub mod Keeping
pub mod MacroNumbers

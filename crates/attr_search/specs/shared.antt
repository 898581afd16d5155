-- What contracts of functions of this crate and of those above it name (own). No contract of a public call reaches it, so nothing
-- of it has to be believed.
pub mod BodyChanges
pub mod SlotContents
pub mod Slotted
pub mod ReadLines

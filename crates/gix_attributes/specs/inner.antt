-- Relations between functions inside the crate (own). No contract of a public call reaches them, so nothing of them has to be
-- believed.
pub mod BodiesMade
pub mod Consistency
pub mod HeldLists
pub mod MissingFiles
pub mod Registering
pub mod SoundEngines
pub mod Needed

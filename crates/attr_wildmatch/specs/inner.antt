-- Relations between functions inside the crate (own). No contract of a public call reaches it, so nothing of it has to be
-- believed.
pub mod Bordered
pub mod ByteSets
pub mod Closing
pub mod Decided
pub mod FirstBytes
pub mod Left
pub mod RowIndexes
pub mod SoundTokens
pub mod Stretches

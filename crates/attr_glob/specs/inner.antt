-- Relations between functions inside the crate (own). No contract of a public call reaches it, so nothing of it has to be
-- believed.
pub mod OffsetsAfter
pub mod StarEnds
pub mod LineTokens

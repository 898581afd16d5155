-- Relations between functions (own). No contract of a public call reaches it, so nothing of it has to be believed.
pub mod Cases
pub mod Extensions
pub mod Hashes
pub mod Buckets
pub mod Kinds
pub mod Links
pub mod Orders
pub mod MetRows

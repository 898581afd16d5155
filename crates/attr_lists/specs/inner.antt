-- Relations between functions inside the crate (own). No contract of a public call reaches them, so none of them has to be
-- believed.
pub mod EntryViews
pub mod EntrySteps
pub mod NameSets
pub mod NameSteps
pub mod NameTableView
pub mod Registered
pub mod ParseSteps
pub mod LineSteps

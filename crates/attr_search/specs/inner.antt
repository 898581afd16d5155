-- What contracts of functions inside the crate name (own). No contract of a public call reaches it, so nothing of it has to be
-- believed.
pub mod AnswerRefs
pub mod Filling
pub mod Lines
pub mod PartsContents
pub mod PartsView
pub mod Pending
pub mod Searched
pub mod SlotsView
pub mod WantedView
pub mod BaseKeys
pub mod DirectoryKeys
pub mod FrontHashers
pub mod KeyLinks
pub mod NumbersView
pub mod FoundLists
pub mod EntryAt
pub mod Trying

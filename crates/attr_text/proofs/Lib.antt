pub mod NameLemmas
pub mod WordLemmas
pub mod WordLaws
pub mod ItemLemmas
pub mod ItemLaws
pub mod PrintedLaws
pub mod ForCallers

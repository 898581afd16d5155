pub mod Names
pub mod NameText
pub mod States
pub mod Items
pub mod ItemForms
pub mod Words
pub mod TextViews

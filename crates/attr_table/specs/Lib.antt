pub mod Setting
pub mod Table
pub mod Cut
pub mod Skipped
pub mod Work
pub mod inner
pub mod shared

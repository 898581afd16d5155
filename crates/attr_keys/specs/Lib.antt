pub mod inner
pub mod shared

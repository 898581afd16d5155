-- Relations between inner functions (own). No contract of a public call reaches them, so nothing here has to be believed.
pub mod Laid
pub mod Lent
pub mod SoundSources
pub mod TextViews

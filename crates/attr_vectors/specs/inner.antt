-- Relations between functions of the plain search (own). No contract of the library reaches them, so none of them has to be believed.
pub mod Plain

-- The example of the law `worked_cycle` (own). No contract of a public call of the library reaches it, so nothing of it has to be
-- believed.
pub mod Worked

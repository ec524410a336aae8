-- Lemmas on a sound world.
pub mod Keeping

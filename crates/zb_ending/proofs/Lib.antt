-- Lemmas on the end of the nodes' steps.
pub mod Totals
pub mod Tells
pub mod Replied
pub mod Fewer
pub mod Busy
pub mod Keeping
pub mod Ahead

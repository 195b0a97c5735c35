pub mod Bytes
pub mod LineLemmas
pub mod Known
pub mod Played
pub mod OneSession
pub mod Rising
pub mod Running
pub mod Kept
pub mod OneLine
pub mod ManyLines
pub mod LeftOver
pub mod Ended
pub mod Held
pub mod TraceLemmas
pub mod Hearing
pub mod Strict
pub mod Freely
mod EventLemmas

pub mod WeakDuality
pub mod Verdicts
mod OddSpins
pub mod OneVerdict

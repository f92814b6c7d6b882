mod InputLemmas
pub mod OneInput

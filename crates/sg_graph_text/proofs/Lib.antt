pub mod BodyLaws
pub mod TerminalLaws
pub mod ReadLaws
pub mod NetworkLaws
pub mod OneNetwork

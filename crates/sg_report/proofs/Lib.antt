mod NumberedLines
mod Compact
pub mod FaultReplies

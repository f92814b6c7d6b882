pub mod Finds
pub mod Drafts
pub mod OneDraft

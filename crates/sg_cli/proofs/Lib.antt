mod AnswerLemmas
mod InputLemmas
mod LawLemmas
mod Settled
mod OneText
mod Replies

mod WidthByWidth
mod Samples
pub mod OneReply

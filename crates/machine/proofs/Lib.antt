mod Answered
mod Differences

pub mod Answers
pub mod Carried
pub mod CommandState
pub mod DocumentReply
pub mod SessionState
pub mod LineState
pub mod Rejecting
pub mod Written

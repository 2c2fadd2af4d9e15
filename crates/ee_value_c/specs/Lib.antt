pub mod Numbers
pub mod Statuses
pub mod Questions
pub mod Answers

pub mod Flow
pub mod Planning
pub mod PlanText
pub mod Steps
pub mod Once
pub mod Alike
pub mod ShortText

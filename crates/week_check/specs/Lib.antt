pub mod Days
pub mod Duties
pub mod Denials
pub mod Roster
pub mod RosterAnswers
pub mod Verdict

pub mod Five
pub mod Given

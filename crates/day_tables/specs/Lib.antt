pub mod DayTables

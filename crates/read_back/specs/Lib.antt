pub mod FilesBack
pub mod ReportsBack

pub mod Rows
pub mod Plain
pub mod Journals
pub mod JournalViews
pub mod Ported
pub mod OwningPorts

pub mod RowLaws
pub mod Kept
pub mod Room
pub mod Admit
pub mod Stays
pub mod JournalLaws
pub mod PortLaws

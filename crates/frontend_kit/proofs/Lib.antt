mod Words
pub mod BankHeads
pub mod FrontIds

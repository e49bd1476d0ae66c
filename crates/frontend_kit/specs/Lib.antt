pub mod BankHeads

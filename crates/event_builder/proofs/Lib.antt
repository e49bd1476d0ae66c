pub mod InputLists
pub mod Stepped
pub mod Readiness
pub mod JoinedBanks
pub mod WaitReplies
pub mod Faulted
pub mod Sending
pub mod SameCounts

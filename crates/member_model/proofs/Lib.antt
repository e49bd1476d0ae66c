pub mod ReadLaws
pub mod SentLaws
pub mod TurnLaws
pub mod MomentLaws
pub mod GotRunLaws
pub mod FairLaws

pub mod ListLaws
pub mod TurnLaws
pub mod CrewLaws
pub mod HandleLaws

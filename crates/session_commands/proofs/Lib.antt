mod PassedOverLaws
mod CommandsKept
pub mod LineKinds
pub mod CallsOn
pub mod SpareLaws
pub mod SaveLaws
pub mod SteeringLaws
pub mod AnsweredLaws
pub mod SpareLines
pub mod StageLaws
pub mod DumpLaws
pub mod WholeSaves
mod WithdrawnLaws
pub mod FilesWalk
pub mod FaultLaws
pub mod CountLaws
pub mod OverLaws
pub mod QuotaLaws
pub mod OpeningLaws
pub mod OpenedLaws
pub mod DeclaringLaws
pub mod ReplyLaws
pub mod KeyLaws

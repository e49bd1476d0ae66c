pub mod OwnCallSteps
pub mod CountBytes
pub mod CountSteps
pub mod ReportSteps
pub mod TurnSteps
pub mod PullSteps
pub mod TellSteps
pub mod AskSteps

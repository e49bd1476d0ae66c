pub mod HistoryLaws

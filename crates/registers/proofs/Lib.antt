pub mod HistoryLaws
pub mod RegisterLaws
pub mod RecordLaws
pub mod EnterLaws
pub mod RunLaws

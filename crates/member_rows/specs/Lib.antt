pub mod LoggerRows
pub mod BuilderRows

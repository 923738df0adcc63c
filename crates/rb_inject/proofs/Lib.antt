mod BodyLaws
pub mod LogLaws
mod OpenLaws
pub mod JournalBodies

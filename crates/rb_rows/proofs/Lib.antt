pub mod RowLaws
pub mod Images
pub mod StatusLaws

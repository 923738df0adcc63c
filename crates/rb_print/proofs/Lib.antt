pub mod TextLaws
pub mod ReportLaws
pub mod TableLaws

mod SplitLaws
mod LineLaws
mod WordLaws
mod FormLaws
mod AllOf
mod TableLaws
mod SummaryLaws
mod RunLaws

pub mod PrefixLaws
pub mod ImageLaws
pub mod RowLaws
pub mod WorkedLaws

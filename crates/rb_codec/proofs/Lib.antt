pub mod BitmapLaws
pub mod ColumnLaws
